-- The nodes of a policy file, numbered in the order of their first bytes, and the table that holds them.
use Rattle.std.specs.Prelude.{ℕ, zero, suc, ◌+◌, ◌*◌, ◌<◌, ◌≡◌, List, [], ◌∷◌, ◌++◌, length, get_or, set, map}
use Rattle.infon.specs.Formula.{Told, said, put, Quotation, Formula, True, name, and, implies, quoted, spelling, nodes}
use Rattle.infon.specs.Codes.{passed}
use Rattle.infon.specs.Policy.{Entry, entries_of, formula_in, code2, code3, code4}
use Rattle.infon.specs.Listing.{Prefix}

-- A node still to be gone through: its first byte's place, its line's start, the number of the nearest quotation above it,
-- its prefix, and the formula that begins there.
pub record Node : Type 0 where
  pub place : ℕ
  pub line : ℕ
  pub above : ℕ
  pub pre : Prefix
  pub what : Formula

-- stands for no quotation above
abbrev pub none_above : ℕ
none_above = 0xFFFF

-- What a node puts in its place: nothing for a leaf, both parts under the same prefix, the quoted formula under the longer one.
unfoldable pub part : Node → ℕ → Formula → Node
part n behind x = record { place = n.place + behind; line = n.line; above = n.above; pre = n.pre; what = x }

unfoldable pub inner : ℕ → Node → Quotation → Formula → Node
inner i n q x = record { place = n.place + (3 + length q.principal); line = n.line; above = i; pre = q ∷ n.pre; what = x }

unfoldable pub kids_of : ℕ → Node → Formula → List Node
kids_of i n True = []
kids_of i n (name a) = []
kids_of i n (and x y) = part n 2 x ∷ (part n (3 + length (spelling x)) y ∷ [])
kids_of i n (implies x y) = part n 2 x ∷ (part n (3 + length (spelling x)) y ∷ [])
kids_of i n (quoted q x) = inner i n q x ∷ []

unfoldable pub kids : ℕ → Node → List Node
kids i n = kids_of i n n.what

-- The row of nodes still to be gone through, k nodes after the one numbered i: each node is replaced by its kids.
unfoldable pub after : ℕ → ℕ → List Node → List Node
after i zero row = row
after i (suc k) [] = []
after i (suc k) (n ∷ row) = after (suc i) k (kids i n ++ row)

unfoldable pub nowhere : Node
nowhere = record { place = 0; line = 0; above = none_above; pre = []; what = True }

-- node i of a row
unfoldable pub node_at : List Node → ℕ → Node
node_at row i = get_or (after 0 i row) 0 nowhere

-- the row that a file begins with: each line's formula, two bytes behind the line's start
unfoldable pub root : Entry → Node
root e = record { place = e.start + 2; line = e.start; above = none_above; pre = []; what = formula_in e.sentence }

unfoldable pub roots : List Entry → List Node
roots entries = map root entries

unfoldable pub count_nodes : List Node → ℕ
count_nodes [] = 0
count_nodes (n ∷ row) = nodes n.what + count_nodes row

-- the table: seven columns of 1,024 rows, one column behind the other
abbrev pub node_rows : ℕ
node_rows = 1024

abbrev pub node_columns : ℕ
node_columns = 7

abbrev pub node_table : ℕ
node_table = 7168

-- the columns by number
abbrev pub node_kind : ℕ
node_kind = 0

abbrev pub node_place : ℕ
node_place = 1

abbrev pub node_own : ℕ
node_own = 2

abbrev pub node_end : ℕ
node_end = 3

abbrev pub node_above : ℕ
node_above = 4

abbrev pub node_line : ℕ
node_line = 5

abbrev pub node_depth : ℕ
node_depth = 6

-- a cell of the table, and the table with another cell
abbrev pub node_cell : List ℕ → ℕ → ℕ → ℕ
node_cell t column i = get_or t (column * node_rows + i) 0

abbrev pub with_node_cell : List ℕ → ℕ → ℕ → ℕ → List ℕ
with_node_cell t column i value = set t (column * node_rows + i) value

-- column 0, the kind
unfoldable pub kind_of : Formula → ℕ
kind_of True = 0
kind_of (name a) = 1
kind_of (and x y) = 2
kind_of (implies x y) = 3
kind_of (quoted q x) = told_kind q.told
  where
    told_kind : Told → ℕ
    told_kind said = 4
    told_kind put = 5

-- column 2, the node's own bytes: its letter, its name, or letter, space and principal
unfoldable pub own_bytes : Formula → ℕ
own_bytes True = 1
own_bytes (name a) = length a
own_bytes (and x y) = 1
own_bytes (implies x y) = 1
own_bytes (quoted q x) = 2 + length q.principal

-- what stands in the columns at a node's number i: its kind, place, own bytes, the number behind its last node, the nearest
-- quotation above, its line's start, and how many quotations are above it
unfoldable pub node_value : ℕ → ℕ → Node → ℕ
node_value zero i n = kind_of n.what
node_value (suc zero) i n = n.place
node_value (suc (suc zero)) i n = own_bytes n.what
node_value (suc (suc (suc zero))) i n = i + nodes n.what
node_value (suc (suc (suc (suc zero)))) i n = n.above
node_value (suc (suc (suc (suc (suc zero))))) i n = n.line
node_value (suc (suc (suc (suc (suc (suc k)))))) i n = length n.pre

-- The table holds the nodes of a row: each cell of a node is as said, every other one as it was before.
pub record Noded (row : List Node) (before after : List ℕ) : Type 0 where
  pub size : length after ≡ length before
  pub cells : (k i : ℕ) → k < node_columns → i < count_nodes row → node_cell after k i ≡ node_value k i (node_at row i)
  pub others : (k i : ℕ) → i < node_rows → (i < count_nodes row → ⊥) → node_cell after k i ≡ node_cell before k i

unfoldable pub nodes_of : List ℕ → List Node
nodes_of file = roots (entries_of file)

-- What is known where the node table of a file is at hand: codes 2 to 4 do not apply to the file (nor code 1, which nothing here
-- leans on), and the table holds its nodes.
pub record NodesHeld (file t : List ℕ) : Type 0 where
  pub formed : code2 file ≡ passed
  pub few : code3 (entries_of file) ≡ passed
  pub shallow : code4 (entries_of file) ≡ passed
  pub long : length t ≡ node_table
  pub held : Noded (nodes_of file) t t
