-- The rules as tests on the formula table and the marks: what the code compares. The laws join each to the paper's test.
use Rattle.std.specs.Prelude.{ℕ, ◌<◌, ◌≡◌, Bool, true, ◌&&◌, not, List, length, get_or, ltb, eqb}
use Rattle.std.specs.Int.Bits.{bit_and}
use Rattle.infon.specs.declared.Way.{Way}
use Rattle.infon.specs.declared.Way.TheVariants.{Hypothesis, Given, Weaken, Left, Right, Both, Apply, Attach}
use Rattle.infon.specs.declared.Record.{Record}
use Rattle.infon.specs.Formula.{Formula}
use Rattle.infon.specs.Journal.{is_recorded}
use Rattle.formulas.specs.Table.{cell, Tabled, Marked}

-- the columns' numbers in the table
abbrev pub kind_at : ℕ
kind_at = 0

abbrev pub puts_at : ℕ
puts_at = 1

abbrev pub left_at : ℕ
left_at = 2

abbrev pub right_at : ℕ
right_at = 3

abbrev pub bottom_at : ℕ
bottom_at = 4

abbrev pub hypothesis_at : ℕ
hypothesis_at = 5

abbrev pub base_at : ℕ
base_at = 6

-- the way gives the formula with number f from its premises' numbers: a comparison of columns for each of the eight
unfoldable pub gives_in : List ℕ → Way → ℕ → Bool
gives_in t Hypothesis f = eqb (cell t hypothesis_at f) 1
gives_in t Given f = eqb (cell t kind_at f) 0
gives_in t (Weaken p) f =
    eqb (cell t bottom_at p) (cell t bottom_at f) && eqb (bit_and (cell t puts_at p) (cell t puts_at f)) (cell t puts_at p)
gives_in t (Left p) f = eqb (cell t kind_at p) 2 && eqb (cell t left_at p) f
gives_in t (Right p) f = eqb (cell t kind_at p) 2 && eqb (cell t right_at p) f
gives_in t (Both p q) f = eqb (cell t kind_at f) 2 && eqb (cell t left_at f) p && eqb (cell t right_at f) q
gives_in t (Apply p q) f = eqb (cell t kind_at q) 3 && eqb (cell t left_at q) p && eqb (cell t right_at q) f
gives_in t (Attach p) f = eqb (cell t kind_at f) 3 && eqb (cell t right_at f) p

-- the number is one of the n listed, and marked
unfoldable pub is_marked : ℕ → List ℕ → ℕ → Bool
is_marked n marks i = ltb i n && eqb (get_or marks i 0) 1

unfoldable pub premises_marked : ℕ → List ℕ → Way → Bool
premises_marked n marks Hypothesis = true
premises_marked n marks Given = true
premises_marked n marks (Weaken p) = is_marked n marks p
premises_marked n marks (Left p) = is_marked n marks p
premises_marked n marks (Right p) = is_marked n marks p
premises_marked n marks (Both p q) = is_marked n marks p && is_marked n marks q
premises_marked n marks (Apply p q) = is_marked n marks p && is_marked n marks q
premises_marked n marks (Attach p) = is_marked n marks p

-- the way's premises are marked and it gives the formula with number f
unfoldable pub leads_to : List ℕ → ℕ → List ℕ → ℕ → Way → Bool
leads_to t n marks f way = premises_marked n marks way && gives_in t way f

-- the record is good after the marked ones
unfoldable pub good_in : List ℕ → ℕ → List ℕ → Record → Bool
good_in t n marks r =
    ltb r.formula n && not (is_marked n marks r.formula) && leads_to t n marks r.formula r.way

-- every record is for one of the first n numbers
abbrev pub RecordsBelow : ℕ → List Record → Type 0
RecordsBelow n done = (i : ℕ) → is_recorded i done ≡ true → i < n

-- The table and the marks hold a list of n formulas, its hypotheses and the records so far.
pub record Held (hyps fs : List Formula) (done : List Record) (t : List ℕ) (n : ℕ) (marks : List ℕ) : Type 0 where
  pub count : length fs ≡ n
  pub table : Tabled hyps fs t
  pub marks_are : Marked n marks done
  pub below : RecordsBelow n done
