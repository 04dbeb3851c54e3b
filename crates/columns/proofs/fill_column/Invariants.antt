use mathlib.Core.Path.{◌≡◌}
use Rattle.formulas.specs.Columns.{column_number}
use Rattle.columns.specs.Columns.{column_of, with_column}
use Rattle.columns.proofs.fill_column.Given as goal

abbrev pub invariant-loop-i : goal.invariant-loop-i
invariant-loop-i l =
    l.table
    ≡ with_column (column_number l.column) (column_of l.forms.policy.nodes.now l.forms.cand.now l.forms.keys.now l.forms.owners.now (column_number l.column)) l.i l.initial.table
