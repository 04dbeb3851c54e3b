-- The node table while it is filled: its cells, the stores, and what it holds after each of the three ways through the nodes.
use Rattle.std.specs.Prelude.{ℕ, zero, suc, ◌+◌, ◌≤◌, ◌<◌, ◌≡◌, List, length}
use Rattle.infon.specs.Formula.{nodes}
use Rattle.nodes.specs.Nodes.{Node, none_above, node_at, count_nodes, node_table, node_cell, with_node_cell, kind_of, own_bytes, nodes_of, Noded, node_rows, node_kind, node_place, node_own, node_end, node_above, node_line, node_depth}
use Rattle.nodes.specs.declared.Kind.{Kind}
use Rattle.nodes.specs.declared.Kind.TheVariants as Of
use Rattle.nodes.specs.Columns.{kind_by}

unfoldable pub spotted : List ℕ → ℕ → ℕ → ℕ → ℕ → ℕ → List ℕ
spotted t i kind at own line = with_node_cell (with_node_cell (with_node_cell (with_node_cell (with_node_cell (with_node_cell (with_node_cell t node_kind i kind) node_place i at) node_own i own) node_end i (i + 1)) node_above i none_above) node_line i line) node_depth i 0

unfoldable pub above_put : List ℕ → ℕ → ℕ → ℕ → List ℕ
above_put t i above depth = with_node_cell (with_node_cell t node_above i above) node_depth i depth

-- a node's row as its own bytes tell it: for the rest it is a leaf with nothing above
unfoldable pub first_cell : ℕ → ℕ → Node → ℕ
first_cell zero i n = kind_of n.what
first_cell (suc zero) i n = n.place
first_cell (suc (suc zero)) i n = own_bytes n.what
first_cell (suc (suc (suc zero))) i n = i + 1
first_cell (suc (suc (suc (suc zero)))) i n = none_above
first_cell (suc (suc (suc (suc (suc zero))))) i n = n.line
first_cell (suc (suc (suc (suc (suc (suc k)))))) i n = 0

-- the same with its end
unfoldable pub ended_cell : ℕ → ℕ → Node → ℕ
ended_cell zero i n = kind_of n.what
ended_cell (suc zero) i n = n.place
ended_cell (suc (suc zero)) i n = own_bytes n.what
ended_cell (suc (suc (suc zero))) i n = i + nodes n.what
ended_cell (suc (suc (suc (suc zero)))) i n = none_above
ended_cell (suc (suc (suc (suc (suc zero))))) i n = n.line
ended_cell (suc (suc (suc (suc (suc (suc k)))))) i n = 0

-- The first n rows of the table are as said, the others as they were before.
pub record RowsAre (row : List Node) (cell : ℕ → ℕ → Node → ℕ) (n : ℕ) (before t : List ℕ) : Type 0 where
  pub size : length t ≡ length before
  pub cells : (k i : ℕ) → k < 7 → i < n → node_cell t k i ≡ cell k i (node_at row i)
  pub others : (k i : ℕ) → i < node_rows → n ≤ i → node_cell t k i ≡ node_cell before k i

-- after the way through the file
pub record Begun (file : List ℕ) (count : ℕ) (before t : List ℕ) : Type 0 where
  pub counted : count ≡ count_nodes (nodes_of file)
  pub held : RowsAre (nodes_of file) first_cell count before t

-- the table holds the nodes of some file so far
pub record Holding (cell : ℕ → ℕ → Node → ℕ) (t : List ℕ) (count : ℕ) : Type 0 where
  pub file : List ℕ
  pub before : List ℕ
  pub counted : count ≡ count_nodes (nodes_of file)
  pub few : count ≤ node_rows
  pub long : length t ≡ node_table
  pub held : RowsAre (nodes_of file) cell count before t

-- whatever file's nodes it holds so far, it holds further
abbrev pub Passes : (ℕ → ℕ → Node → ℕ) → (ℕ → ℕ → Node → ℕ) → ℕ → List ℕ → List ℕ → Type 0
Passes cell next count t after =
    (file before : List ℕ) → count ≡ count_nodes (nodes_of file) → RowsAre (nodes_of file) cell count before t → RowsAre (nodes_of file) next count before after

-- the number behind a node's last node, from the ends of the nodes behind it
abbrev pub end_by : Kind → List ℕ → ℕ → ℕ
end_by Of.True t i = i + 1
end_by Of.Name t i = i + 1
end_by Of.And t i = node_cell t node_end (node_cell t node_end (i + 1))
end_by Of.Implies t i = node_cell t node_end (node_cell t node_end (i + 1))
end_by Of.Said t i = node_cell t node_end (i + 1)
end_by Of.Put t i = node_cell t node_end (i + 1)

abbrev pub end_from : List ℕ → ℕ → ℕ
end_from t i = end_by (kind_by (node_cell t node_kind i)) t i

-- a node that is no leaf has one behind it, and an operator's right part is a row of the table
abbrev pub ReadsBy : Kind → List ℕ → ℕ → Type 0
ReadsBy Of.True t i = Unit {0}
ReadsBy Of.Name t i = Unit {0}
ReadsBy Of.And t i = (i + 1 < node_rows) × (node_cell t node_end (i + 1) < node_rows)
ReadsBy Of.Implies t i = (i + 1 < node_rows) × (node_cell t node_end (i + 1) < node_rows)
ReadsBy Of.Said t i = i + 1 < node_rows
ReadsBy Of.Put t i = i + 1 < node_rows

abbrev pub EndReads : List ℕ → ℕ → Type 0
EndReads t i = ReadsBy (kind_by (node_cell t node_kind i)) t i

-- the table with what stands above a node's kids
abbrev pub parts_put : List ℕ → ℕ → List ℕ
parts_put t i =
    above_put (above_put t (i + 1) (node_cell t node_above i) (node_cell t node_depth i)) (node_cell t node_end (i + 1)) (node_cell t node_above i) (node_cell t node_depth i)

abbrev pub down_by : Kind → List ℕ → ℕ → List ℕ
down_by Of.True t i = t
down_by Of.Name t i = t
down_by Of.And t i = parts_put t i
down_by Of.Implies t i = parts_put t i
down_by Of.Said t i = above_put t (i + 1) i (node_cell t node_depth i + 1)
down_by Of.Put t i = above_put t (i + 1) i (node_cell t node_depth i + 1)

abbrev pub handed_down : List ℕ → ℕ → List ℕ
handed_down t i = down_by (kind_by (node_cell t node_kind i)) t i

-- the filled table
pub record NodesFilled (file : List ℕ) (count : ℕ) (before t : List ℕ) : Type 0 where
  pub counted : count ≡ count_nodes (nodes_of file)
  pub noded : Noded (nodes_of file) before t
