-- The columns and kinds by the names that the code has for them.
use Rattle.std.specs.Prelude.{ℕ}
use Rattle.formulas.specs.Tests.{kind_at, puts_at, left_at, right_at, bottom_at, hypothesis_at, base_at}
use Rattle.formulas.specs.declared.Column.{Column}
use Rattle.formulas.specs.declared.Column.TheVariants as In
use Rattle.formulas.specs.declared.Kind.{Kind}
use Rattle.formulas.specs.declared.Kind.TheVariants as Of

abbrev pub column_number : Column → ℕ
column_number In.Kind = kind_at
column_number In.Puts = puts_at
column_number In.Left = left_at
column_number In.Right = right_at
column_number In.Bottom = bottom_at
column_number In.Hypothesis = hypothesis_at
column_number In.Base = base_at

abbrev pub kind_number : Kind → ℕ
kind_number Of.Truth = 0
kind_number Of.Primitive = 1
kind_number Of.Conjunction = 2
kind_number Of.Implication = 3
