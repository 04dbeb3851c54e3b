-- `columns::fill_columns` meets its contract: one column more at each turn.
use Prim.Native.Nat.{ℕ}
use mathlib.Core.Path.{refl, ◌∙◌, ap}
use Rattle.columns.specs.Columns.{column_of, with_column, filled_to}
use Rattle.columns.proofs.Columnwise.{columns_turn, columns_over, in_order}
use Rattle.columns.proofs.fill_columns.Goals as goal

pub loop-column-init : goal.loop-column-init
unfolding filled_to
loop-column-init c = refl

pub loop-column-preserved : goal.loop-column-preserved
loop-column-preserved c =
    let forms = c.args.forms in
    columns_turn _ _ _ _ _ _ c.loop-column.column-index _ _ c.loop-column.invariant
    (c.fill_column.ensures
    ∙ ap (λ (k : ℕ). with_column k (column_of forms.policy.nodes.now forms.cand.now forms.keys.now forms.owners.now k) forms.n c.loop-column.table)
    (in_order c.loop-column.column-index _ c.loop-column-test.true))

pub returns : goal.returns
returns c = columns_over _ _ _ _ _ _ c.loop-column.column-index _ c.loop-column.invariant c.loop-column.auto.column-index-end c.loop-column-test.false
