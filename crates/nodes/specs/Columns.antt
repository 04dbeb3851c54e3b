-- The columns and kinds by the names that the code has for them.
use Rattle.std.specs.Prelude.{ℕ, zero, suc}
use Rattle.nodes.specs.Nodes.{node_kind, node_place, node_own, node_end, node_above, node_line, node_depth}
use Rattle.nodes.specs.declared.Column.{Column}
use Rattle.nodes.specs.declared.Column.TheVariants as In
use Rattle.nodes.specs.declared.Kind.{Kind}
use Rattle.nodes.specs.declared.Kind.TheVariants as Of

abbrev pub column_number : Column → ℕ
column_number In.Kind = node_kind
column_number In.Place = node_place
column_number In.Own = node_own
column_number In.End = node_end
column_number In.Above = node_above
column_number In.Line = node_line
column_number In.Depth = node_depth

-- the kind that a cell of column 0 says; the last stands for every number behind it too
abbrev pub kind_by : ℕ → Kind
kind_by zero = Of.True
kind_by (suc zero) = Of.Name
kind_by (suc (suc zero)) = Of.And
kind_by (suc (suc (suc zero))) = Of.Implies
kind_by (suc (suc (suc (suc zero)))) = Of.Said
kind_by (suc (suc (suc (suc (suc k))))) = Of.Put

abbrev pub number_of : Kind → ℕ
number_of Of.True = 0
number_of Of.Name = 1
number_of Of.And = 2
number_of Of.Implies = 3
number_of Of.Said = 4
number_of Of.Put = 5
