use mathlib.Core.Path.{◌≡◌}
use Rattle.columns.specs.Columns.{filled_to}
use Rattle.columns.proofs.fill_columns.Given as goal

abbrev pub invariant-loop-column : goal.invariant-loop-column
invariant-loop-column l = l.table ≡ filled_to l.column-index l.forms.policy.nodes.now l.forms.cand.now l.forms.keys.now l.forms.owners.now l.forms.n l.initial.table
