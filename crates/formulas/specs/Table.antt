-- The formula table: for each formula of a list, by its number, what the rules ask of it. And the marks of what is recorded.
use Rattle.std.specs.Prelude.{ℕ, zero, suc, ◌+◌, ◌*◌, ◌^◌, ◌≤◌, ◌<◌, ◌≡◌, Bool, true, false, cond, ◌&&◌, List, [], ◌∷◌, map, length, get_or, set}
use Rattle.infon.specs.declared.Record.{Record}
use Rattle.infon.specs.Formula.{Told, said, put, Quotation, Formula, same}
use Rattle.infon.specs.Listing.{Prefix, wrap, is_listed}
use Rattle.infon.specs.Rules.{Shape, truth, primitive, conjunction, implication, shape_of, prefix_under, core_of, numbered}
use Rattle.infon.specs.Journal.{is_recorded}

-- the number of a formula on a list: the place of the first that is the same; the list's length where none is
unfoldable pub number_in : List Formula → Formula → ℕ
number_in [] x = 0
number_in (y ∷ fs) x = cond (same x y) 0 (suc (number_in fs x))

-- stands for no number
unfoldable pub no_number : ℕ
no_number = 0xFFFF

unfoldable pub flag : Bool → ℕ
flag true = 1
flag false = 0

-- the put places of a prefix, a bit each, the outermost place lowest
unfoldable pub put_bit : Told → ℕ
put_bit said = 0
put_bit put = 1

unfoldable pub put_mask : Prefix → ℕ
put_mask [] = 0
put_mask (q ∷ outer) = put_mask outer + put_bit q.told * 2 ^ length outer

-- the same prefix with put at every place
unfoldable pub all_put : Prefix → Prefix
all_put pref = map (λ (q : Quotation). record { told = put; principal = q.principal }) pref

unfoldable pub bottom_of : Formula → Formula
bottom_of x = wrap (all_put (prefix_under [] x)) (core_of x)

-- what six of the columns have at a formula: kind, put places, number of the left part, of the right part, of the form with put at
-- every place, hypothesis
unfoldable pub shape_kind : Shape → ℕ
shape_kind truth = 0
shape_kind primitive = 1
shape_kind (conjunction l r) = 2
shape_kind (implication l r) = 3

unfoldable pub left_number : List Formula → Shape → ℕ
left_number fs truth = no_number
left_number fs primitive = no_number
left_number fs (conjunction l r) = number_in fs l
left_number fs (implication l r) = number_in fs l

unfoldable pub right_number : List Formula → Shape → ℕ
right_number fs truth = no_number
right_number fs primitive = no_number
right_number fs (conjunction l r) = number_in fs r
right_number fs (implication l r) = number_in fs r

unfoldable pub cell_of : ℕ → List Formula → List Formula → Formula → ℕ
cell_of zero hyps fs x = shape_kind (shape_of x)
cell_of (suc zero) hyps fs x = put_mask (prefix_under [] x)
cell_of (suc (suc zero)) hyps fs x = left_number fs (shape_of x)
cell_of (suc (suc (suc zero))) hyps fs x = right_number fs (shape_of x)
cell_of (suc (suc (suc (suc zero)))) hyps fs x = number_in fs (bottom_of x)
cell_of (suc (suc (suc (suc (suc k))))) hyps fs x = flag (is_listed x hyps)

-- The table: seven columns of 4,096 rows, one column behind the other. What the rules ask stands in the first six; the last has each
-- formula's base, by the number of its node.
abbrev pub table_rows : ℕ
table_rows = 4096

abbrev pub table_columns : ℕ
table_columns = 7

abbrev pub rule_columns : ℕ
rule_columns = 6

abbrev pub table_cells : ℕ
table_cells = 28672

-- the cell of a column at a number, and the table with another cell
abbrev pub cell : List ℕ → ℕ → ℕ → ℕ
cell t k i = get_or t (k * table_rows + i) 0

abbrev pub with_cell : List ℕ → ℕ → ℕ → ℕ → List ℕ
with_cell t k i value = set t (k * table_rows + i) value

-- the parts of a listed formula are listed
unfoldable pub parts_listed : List Formula → Shape → Bool
parts_listed fs truth = true
parts_listed fs primitive = true
parts_listed fs (conjunction l r) = is_listed l fs && is_listed r fs
parts_listed fs (implication l r) = is_listed l fs && is_listed r fs

-- The table holds the list: each cell of a listed formula is as said.
pub record Tabled (hyps fs : List Formula) (t : List ℕ) : Type 0 where
  pub few : length fs ≤ table_rows
  pub long : table_cells ≤ length t
  pub cells : (k i : ℕ) → k < rule_columns → i < length fs → cell t k i ≡ cell_of k hyps fs (numbered fs i)
  pub once : (i j : ℕ) → i < length fs → j < length fs → numbered fs i ≡ numbered fs j → i ≡ j
  pub parts : (i : ℕ) → i < length fs → parts_listed fs (shape_of (numbered fs i)) ≡ true
  pub bottoms : (i : ℕ) → i < length fs → is_listed (bottom_of (numbered fs i)) fs ≡ true

-- The marks hold the records: each listed number is marked exactly if it is recorded.
pub record Marked (n : ℕ) (marks : List ℕ) (done : List Record) : Type 0 where
  pub long : table_rows ≤ length marks
  pub marked : (i : ℕ) → i < n → get_or marks i 0 ≡ flag (is_recorded i done)
