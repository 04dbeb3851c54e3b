-- `columns::kind_of` meets its contract: the node of an owner is a row of the table, and a base's kind is small.
use mathlib.Core.Path.{◌∙◌, ap}
use Prim.Native.Nat.{ℕ, ◌/◌}
use Rattle.nodes.specs.Nodes.{node_kind, node_cell}
use Rattle.columns.specs.Columns.{kind_column, stride}
use Rattle.columns.proofs.Steps.{owner_read, owner_row}
use Rattle.columns.proofs.kind_of.Goals as goal

pub cell_at-requires : goal.cell_at-requires
cell_at-requires c = owner_row (owner_read c.args.forms c.requires c.from-b.ensures)

pub returns : goal.returns
unfolding kind_column
returns c = c.cell_at.ensures ∙ ap (λ (owner : ℕ). node_cell c.args.forms.policy.nodes.now node_kind (owner / stride)) c.from-b.ensures
