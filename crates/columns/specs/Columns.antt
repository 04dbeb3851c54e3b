-- The columns of the formula table, worked out of the node table and three tables of numbers: which form each formula was first
-- listed as (`owners`), its key, and the number of every form (`cand`). Form number m of node b stands at b * stride + m.
use Rattle.std.specs.Prelude.{ℕ, zero, suc, ◌+◌, ◌*◌, ◌-◌, ◌/◌, ◌%◌, ◌≤◌, ◌<◌, cond, List, get_or, ltb, eqb}
use Rattle.nodes.specs.Nodes.{node_at, count_nodes, nodes_of, node_cell, node_end, node_rows, node_kind}
use Rattle.formulas.specs.Table.{table_rows, table_columns, with_cell}
use Rattle.prefix.specs.Places.{used, prefix_at, weaker_count_of}
use Rattle.prefix.specs.Weaker.{weaker_count}

-- how many forms a node has at most: two to the number of places
abbrev pub stride : ℕ
stride = 16

-- The number of a form: from a quotation node on to the base below it, a said step doubling the form's number, a put step
-- keeping it; so many steps at most.
unfoldable pub inward_kind : ℕ → ℕ → ℕ
inward_kind kind m = cond (eqb kind 4) (2 * m) m

unfoldable pub form_number_from : List ℕ → List ℕ → ℕ → ℕ → ℕ → ℕ
form_number_from t cand zero j m = get_or cand (j * stride + m) 0
form_number_from t cand (suc k) j m =
    let later = form_number_from t cand k (suc j) (inward_kind (node_cell t node_kind j) m) in
    cond (ltb (node_cell t node_kind j) 4) (get_or cand (j * stride + m) 0) later

unfoldable pub form_number : List ℕ → List ℕ → ℕ → ℕ → ℕ
form_number t cand j m = form_number_from t cand (node_rows - j) j m

-- the columns, at the formula with number i
unfoldable pub kind_column : List ℕ → List ℕ → ℕ → ℕ
kind_column t owners i = node_cell t node_kind (get_or owners i 0 / stride)

unfoldable pub put_column : List ℕ → ℕ → ℕ
put_column keys i = get_or keys i 0 % stride

unfoldable pub left_column : List ℕ → List ℕ → List ℕ → ℕ → ℕ
left_column t cand owners i =
    let b = get_or owners i 0 / stride in
    cond (ltb (node_cell t node_kind b) 2) 0xFFFF (form_number t cand (b + 1) (get_or owners i 0 % stride))

unfoldable pub right_column : List ℕ → List ℕ → List ℕ → ℕ → ℕ
right_column t cand owners i =
    let b = get_or owners i 0 / stride in
    cond (ltb (node_cell t node_kind b) 2) 0xFFFF (form_number t cand (node_cell t node_end (b + 1)) (get_or owners i 0 % stride))

unfoldable pub bottom_column : List ℕ → List ℕ → List ℕ → ℕ → ℕ
bottom_column t cand owners i =
    let b = get_or owners i 0 / stride in
    get_or cand (b * stride + (weaker_count_of (used (prefix_at t b)) - 1)) 0

unfoldable pub nothing : ℕ → ℕ
nothing i = 0

unfoldable pub base_column : List ℕ → ℕ → ℕ
base_column owners i = get_or owners i 0 / stride

-- the columns by number, no hypothesis marked
unfoldable pub column_of : List ℕ → List ℕ → List ℕ → List ℕ → ℕ → ℕ → ℕ
column_of t cand keys owners zero = kind_column t owners
column_of t cand keys owners (suc zero) = put_column keys
column_of t cand keys owners (suc (suc zero)) = left_column t cand owners
column_of t cand keys owners (suc (suc (suc zero))) = right_column t cand owners
column_of t cand keys owners (suc (suc (suc (suc zero)))) = bottom_column t cand owners
column_of t cand keys owners (suc (suc (suc (suc (suc zero))))) = nothing
column_of t cand keys owners (suc (suc (suc (suc (suc (suc k)))))) = base_column owners

-- the table with the first n cells of a column set
unfoldable pub with_column : ℕ → (ℕ → ℕ) → ℕ → List ℕ → List ℕ
with_column column f zero table = table
with_column column f (suc n) table = with_cell (with_column column f n table) column n (f n)

-- the table with its first k columns set at the first n formulas, and with all
unfoldable pub filled_to : ℕ → List ℕ → List ℕ → List ℕ → List ℕ → ℕ → List ℕ → List ℕ
filled_to zero t cand keys owners n table = table
filled_to (suc k) t cand keys owners n table = with_column k (column_of t cand keys owners k) n (filled_to k t cand keys owners n table)

unfoldable pub filled : List ℕ → List ℕ → List ℕ → List ℕ → ℕ → List ℕ → List ℕ
filled t cand keys owners n table = filled_to table_columns t cand keys owners n table

-- form m of node b
abbrev pub IsForm : List ℕ → ℕ → ℕ → Type 0
IsForm file b m = (b < count_nodes (nodes_of file)) × (m < weaker_count (node_at (nodes_of file) b).pre)

-- the form of a base as which a formula was first listed
abbrev pub IsOwner : List ℕ → List ℕ → List ℕ → ℕ → Type 0
IsOwner file t owners i =
    IsForm file (get_or owners i 0 / stride) (get_or owners i 0 % stride) × (node_cell t node_kind (get_or owners i 0 / stride) < 4)

-- what is asked where the first n formulas are looked at
pub record Owners (file t owners : List ℕ) (n : ℕ) : Type 0 where
  pub few : n ≤ table_rows
  pub owned : (i : ℕ) → i < n → IsOwner file t owners i
