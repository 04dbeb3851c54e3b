-- `columns::fill_column` meets its contract: a cell more of the column at each turn.
use mathlib.Core.Path.{refl, ◌∙◌}
use Rattle.columns.specs.Columns.{with_column}
use Rattle.columns.proofs.Steps.{column_turn}
use Rattle.columns.proofs.fill_column.Goals as goal

pub loop-i-init : goal.loop-i-init
unfolding with_column
loop-i-init c = refl

pub loop-i-preserved : goal.loop-i-preserved
loop-i-preserved c = column_turn _ _ c.loop-i.i _ _ _ _ c.loop-i.invariant (c.from.ensures ∙ c.cell_of.ensures) c.set_cell.ensures
