-- The test of a record over the table and the marks is the paper's test of a good record.
-- Assumes nothing.
use Prim.Native.Nat.{ℕ, ◌≤◌, ◌<◌}
use mathlib.Core.Path.{◌≡◌, refl, sym, ap₂, subst}
use mathlib.Core.Logic.{⊎_elim}
use mathlib.Core.Bool.{Bool, true, false, ◌&&◌, not}
use mathlib.Core.List.{List}
use native.Mathlib.Omega.{arith}
use lib.ListN.{length, get_or}
use lib.Dec.{ltb, eqb}
use lib.Bits.{bit_and}
use borrow.Author.Tests.{ltb-true, ltb-false}
use Rattle.infon.specs.declared.Way.{Way}
use Rattle.infon.specs.declared.Way.TheVariants.{Hypothesis, Given, Weaken, Left, Right, Both, Apply, Attach}
use Rattle.infon.specs.declared.Record.{Record}
use Rattle.infon.specs.Formula.{Formula}
use Rattle.infon.specs.Listing.{is_listed}
use Rattle.infon.specs.Rules.{Shape, truth, primitive, conjunction, implication, shape_of, is_truth, is_left, is_right, are_both, is_conclusion, is_condition, weakenings, numbered, gives}
use Rattle.infon.specs.Journal.{is_recorded, premises_in, is_good}
use Rattle.std.proofs.lemmas.Bool.{cases_Bool, and_parts}
use Rattle.infon.proofs.Least.{PremisesBelow}
use Rattle.formulas.specs.Table.{flag, bottom_of, shape_kind, left_number, right_number, cell_of, cell, parts_listed, Tabled, Marked}
use Rattle.formulas.specs.Tests.{gives_in, is_marked, premises_marked, leads_to, good_in, RecordsBelow, Held}
use Rattle.formulas.proofs.Numbers.{same_number, same_numbers}
use Rattle.formulas.proofs.Weakened.{weak_test}

flag_test : (b : Bool) → b ≡ eqb (flag b) 1
unfolding flag
flag_test true = refl
flag_test false = refl

truth_kind : (s : Shape) → is_truth s ≡ eqb (shape_kind s) 0
unfolding is_truth shape_kind
truth_kind truth = refl
truth_kind primitive = refl
truth_kind (conjunction l r) = refl
truth_kind (implication l r) = refl

module _ (fs : List Formula) (once : (i j : ℕ) → i < length fs → j < length fs → numbered fs i ≡ numbered fs j → i ≡ j) where
  left_kind : (s : Shape) (f : ℕ) → f < length fs → parts_listed fs s ≡ true
      → is_left (numbered fs f) s ≡ eqb (shape_kind s) 2 && eqb (left_number fs s) f
  unfolding is_left shape_kind left_number parts_listed
  left_kind truth f h parts = refl
  left_kind primitive f h parts = refl
  left_kind (conjunction l r) f h parts =
      same_number fs once f l h (and_parts (is_listed l fs) (is_listed r fs) parts).0
  left_kind (implication l r) f h parts = refl

  right_kind : (s : Shape) (f : ℕ) → f < length fs → parts_listed fs s ≡ true
      → is_right (numbered fs f) s ≡ eqb (shape_kind s) 2 && eqb (right_number fs s) f
  unfolding is_right shape_kind right_number parts_listed
  right_kind truth f h parts = refl
  right_kind primitive f h parts = refl
  right_kind (conjunction l r) f h parts =
      same_number fs once f r h (and_parts (is_listed l fs) (is_listed r fs) parts).1
  right_kind (implication l r) f h parts = refl

  both_kind : (s : Shape) (p q : ℕ) → p < length fs → q < length fs → parts_listed fs s ≡ true
      → are_both (numbered fs p) (numbered fs q) s ≡ eqb (shape_kind s) 2 && eqb (left_number fs s) p && eqb (right_number fs s) q
  unfolding are_both is_left is_right shape_kind left_number right_number parts_listed
  both_kind truth p q hp hq parts = refl
  both_kind primitive p q hp hq parts = refl
  both_kind (conjunction l r) p q hp hq parts =
      let listed = and_parts (is_listed l fs) (is_listed r fs) parts in
      ap₂ ◌&&◌ (same_number fs once p l hp listed.0) (same_number fs once q r hq listed.1)
  both_kind (implication l r) p q hp hq parts = refl

  apply_kind : (s : Shape) (p f : ℕ) → p < length fs → f < length fs → parts_listed fs s ≡ true
      → is_condition (numbered fs p) s && is_conclusion (numbered fs f) s
      ≡ eqb (shape_kind s) 3 && eqb (left_number fs s) p && eqb (right_number fs s) f
  unfolding is_condition is_conclusion shape_kind left_number right_number parts_listed
  apply_kind truth p f hp hf parts = refl
  apply_kind primitive p f hp hf parts = refl
  apply_kind (conjunction l r) p f hp hf parts = refl
  apply_kind (implication l r) p f hp hf parts =
      let listed = and_parts (is_listed l fs) (is_listed r fs) parts in
      ap₂ ◌&&◌ (same_number fs once p l hp listed.0) (same_number fs once f r hf listed.1)

  attach_kind : (s : Shape) (p : ℕ) → p < length fs → parts_listed fs s ≡ true
      → is_conclusion (numbered fs p) s ≡ eqb (shape_kind s) 3 && eqb (right_number fs s) p
  unfolding is_conclusion shape_kind right_number parts_listed
  attach_kind truth p hp parts = refl
  attach_kind primitive p hp parts = refl
  attach_kind (conjunction l r) p hp parts = refl
  attach_kind (implication l r) p hp parts =
      same_number fs once p r hp (and_parts (is_listed l fs) (is_listed r fs) parts).1

module _ (hyps fs : List Formula) (t : List ℕ) (tabled : Tabled hyps fs t) where
  column : (k i : ℕ) → k < 6 → i < length fs → cell t k i ≡ cell_of k hyps fs (numbered fs i)
  column k i hk hi = tabled.cells k i hk hi

  weaken_bottom : (p f : ℕ) → p < length fs → f < length fs
      → is_listed (numbered fs f) (weakenings (numbered fs p))
      ≡ eqb (cell_of 4 hyps fs (numbered fs p)) (cell_of 4 hyps fs (numbered fs f))
      && eqb (bit_and (cell_of 1 hyps fs (numbered fs p)) (cell_of 1 hyps fs (numbered fs f))) (cell_of 1 hyps fs (numbered fs p))
  unfolding cell_of
  weaken_bottom p f hp hf =
      rw (weak_test, same_numbers fs (bottom_of (numbered fs p)) (bottom_of (numbered fs f)) (tabled.bottoms p hp) (tabled.bottoms f hf))

  pub gives_in_lem : (way : Way) (f : ℕ) → f < length fs → PremisesBelow (length fs) way
      → gives hyps fs way (numbered fs f) ≡ gives_in t way f
  unfolding gives gives_in cell_of
  gives_in_lem Hypothesis f hf b = rw (column 5 f (omega arith) hf) (flag_test (is_listed (numbered fs f) hyps))
  gives_in_lem Given f hf b = rw (column 0 f (omega arith) hf) (truth_kind (shape_of (numbered fs f)))
  gives_in_lem (Weaken p) f hf b =
      rw (column 4 p (omega arith) b, column 4 f (omega arith) hf, column 1 p (omega arith) b, column 1 f (omega arith) hf)
      (weaken_bottom p f b hf)
  gives_in_lem (Left p) f hf b =
      rw (column 0 p (omega arith) b, column 2 p (omega arith) b)
      (left_kind fs tabled.once (shape_of (numbered fs p)) f hf (tabled.parts p b))
  gives_in_lem (Right p) f hf b =
      rw (column 0 p (omega arith) b, column 3 p (omega arith) b)
      (right_kind fs tabled.once (shape_of (numbered fs p)) f hf (tabled.parts p b))
  gives_in_lem (Both p q) f hf b =
      rw (column 0 f (omega arith) hf, column 2 f (omega arith) hf, column 3 f (omega arith) hf)
      (both_kind fs tabled.once (shape_of (numbered fs f)) p q b.0 b.1 (tabled.parts f hf))
  gives_in_lem (Apply p q) f hf b =
      rw (column 0 q (omega arith) b.1, column 2 q (omega arith) b.1, column 3 q (omega arith) b.1)
      (apply_kind fs tabled.once (shape_of (numbered fs q)) p f b.0 hf (tabled.parts q b.1))
  gives_in_lem (Attach p) f hf b =
      rw (column 0 f (omega arith) hf, column 3 f (omega arith) hf)
      (attach_kind fs tabled.once (shape_of (numbered fs f)) p b (tabled.parts f hf))

module _ (n : ℕ) (marks : List ℕ) (done : List Record) (marked : Marked n marks done) (below : RecordsBelow n done) where
  pub recorded_marked : (i : ℕ) → is_recorded i done ≡ is_marked n marks i
  unfolding is_marked
  recorded_marked i =
      ⊎_elim
      (λ (h : ltb i n ≡ true). rw (h, marked.marked i (ltb-true i n h)) (flag_test (is_recorded i done)))
      (λ (h : ltb i n ≡ false). rw h (unrecorded (is_recorded i done) (below i) (ltb-false i n h)))
      (cases_Bool (ltb i n))
    where
      unrecorded : (b : Bool) → (b ≡ true → i < n) → n ≤ i → b ≡ false
      unrecorded true less more = absurd (let h = less refl in omega arith)
      unrecorded false less more = refl

  premises_marked_lem : (way : Way) → premises_in way done ≡ premises_marked n marks way
  unfolding premises_in premises_marked
  premises_marked_lem Hypothesis = refl
  premises_marked_lem Given = refl
  premises_marked_lem (Weaken p) = recorded_marked p
  premises_marked_lem (Left p) = recorded_marked p
  premises_marked_lem (Right p) = recorded_marked p
  premises_marked_lem (Both p q) = ap₂ ◌&&◌ (recorded_marked p) (recorded_marked q)
  premises_marked_lem (Apply p q) = ap₂ ◌&&◌ (recorded_marked p) (recorded_marked q)
  premises_marked_lem (Attach p) = recorded_marked p

pub marked_below : (n : ℕ) (marks : List ℕ) (i : ℕ) → is_marked n marks i ≡ true → i < n
unfolding is_marked
marked_below n marks i h = ltb-true i n (and_parts (ltb i n) (eqb (get_or marks i 0) 1) h).0

-- a good record is for a listed formula
pub good_below : (t : List ℕ) (n : ℕ) (marks : List ℕ) (r : Record) → good_in t n marks r ≡ true → r.formula < n
unfolding good_in
good_below t n marks r good =
    let listed = ltb r.formula n in
    let unmarked = not (is_marked n marks r.formula) in
    ltb-true r.formula n (and_parts listed unmarked (and_parts (listed && unmarked) (leads_to t n marks r.formula r.way) good).0).0

-- marked premises are below n
pub premises_below : (n : ℕ) (marks : List ℕ) (way : Way) → premises_marked n marks way ≡ true → PremisesBelow n way
unfolding premises_marked
premises_below n marks Hypothesis h = tt
premises_below n marks Given h = tt
premises_below n marks (Weaken p) h = marked_below n marks p h
premises_below n marks (Left p) h = marked_below n marks p h
premises_below n marks (Right p) h = marked_below n marks p h
premises_below n marks (Both p q) h =
    let both = and_parts (is_marked n marks p) (is_marked n marks q) h in
    (marked_below n marks p both.0, marked_below n marks q both.1)
premises_below n marks (Apply p q) h =
    let both = and_parts (is_marked n marks p) (is_marked n marks q) h in
    (marked_below n marks p both.0, marked_below n marks q both.1)
premises_below n marks (Attach p) h = marked_below n marks p h

-- tests that agree where those before them pass
good_tests : (a b c d e : Bool) → (a ≡ true → c ≡ true → d ≡ e) → a && b && c && d ≡ a && b && (c && e)
good_tests true true true d e h = h refl refl
good_tests true true false d e h = refl
good_tests true false c d e h = refl
good_tests false b c d e h = refl

pub good_in_lem : (hyps fs : List Formula) (done : List Record) (t : List ℕ) (n : ℕ) (marks : List ℕ) (r : Record)
    → Held hyps fs done t n marks → is_good hyps fs done r ≡ good_in t n marks r
unfolding is_good good_in leads_to
good_in_lem hyps fs done t n marks r held =
    rw (held.count, recorded_marked n marks done held.marks_are held.below r.formula, premises_marked_lem n marks done held.marks_are held.below r.way)
    (good_tests (ltb r.formula n) (not (is_marked n marks r.formula)) (premises_marked n marks r.way)
    (gives hyps fs r.way (numbered fs r.formula)) (gives_in t r.way r.formula)
    (λ listed premises.
    gives_in_lem hyps fs t held.table r.way r.formula
    (let h = ltb-true r.formula n listed in let e = held.count in omega arith)
    (subst (λ (m : ℕ). PremisesBelow m r.way) (sym held.count) (premises_below n marks r.way premises))))
