-- One law for each branch of the test of a record.
-- Assumes nothing.
use Prim.Native.Nat.{ℕ, ◌≤◌, ◌<◌}
use mathlib.Core.Path.{◌≡◌, sym, ◌∙◌, ap}
use mathlib.Core.Bool.{Bool, true, false, ◌&&◌, not}
use mathlib.Core.List.{List}
use lib.ListN.{get_or}
use lib.Dec.{eqb, ltb}
use lib.Bits.{bit_and}
use borrow.Author.Tests.{lt-ltb, le-ltb}
use Rattle.std.proofs.lemmas.Bool.{and_parts}
use Rattle.infon.specs.declared.Way.{Way}
use Rattle.infon.specs.declared.Record.{Record}
use Rattle.formulas.specs.Tests.{gives_in, is_marked, premises_marked, leads_to, good_in}
use Rattle.formulas.proofs.Given.{marked_below}

-- the second test decides where the first passes
pub first_passed : {a b r : Bool} → a ≡ true → r ≡ b → r ≡ a && b
first_passed p q = rw (p, q)

pub first_failed : {a r : Bool} (b : Bool) → r ≡ a → r ≡ false → r ≡ a && b
first_failed b e h = rw (sym e, h)

pub marked_in : (n : ℕ) (marks : List ℕ) (i : ℕ) → i < n → eqb (get_or marks i 0) 1 ≡ is_marked n marks i
unfolding is_marked
marked_in n marks i h = rw (lt-ltb i n h)

pub marked_out : (n : ℕ) (marks : List ℕ) (i : ℕ) → n ≤ i → ltb i n ≡ is_marked n marks i
unfolding is_marked
marked_out n marks i h = rw (le-ltb i n h)

pub led : (t : List ℕ) (n : ℕ) (marks : List ℕ) (f : ℕ) {way w : Way} {r : Bool} → way ≡ w → premises_marked n marks w ≡ true
    → r ≡ gives_in t w f → r ≡ leads_to t n marks f way
unfolding leads_to
led t n marks f e premises gives = rw (e, premises) gives

pub unled : (t : List ℕ) (n : ℕ) (marks : List ℕ) (f : ℕ) {way w : Way} {r : Bool} → way ≡ w → r ≡ premises_marked n marks w
    → r ≡ false → r ≡ leads_to t n marks f way
unfolding leads_to
unled t n marks f e premises h = rw e (first_failed (gives_in t _ f) premises h)

pub not_listed : (t : List ℕ) (n : ℕ) (marks : List ℕ) (r : Record) → n ≤ r.formula → ltb r.formula n ≡ good_in t n marks r
unfolding good_in
not_listed t n marks r h = rw (le-ltb r.formula n h)

pub recorded_before : (t : List ℕ) (n : ℕ) (marks : List ℕ) (r : Record) {marked : Bool} → r.formula < n
    → marked ≡ is_marked n marks r.formula → not marked ≡ false → not marked ≡ good_in t n marks r
unfolding good_in
recorded_before t n marks r h e recorded = rw (lt-ltb r.formula n h) (first_failed _ (ap not e) recorded)

pub good_led : (t : List ℕ) (n : ℕ) (marks : List ℕ) (r : Record) {marked good : Bool} → r.formula < n
    → marked ≡ is_marked n marks r.formula → not marked ≡ true → good ≡ leads_to t n marks r.formula r.way → good ≡ good_in t n marks r
unfolding good_in
good_led t n marks r h e unmarked leads = rw (lt-ltb r.formula n h) (first_passed (sym (ap not e) ∙ unmarked) leads)

-- a number that was read stands for its cell
pub equal_reads : {r s cell cell₂ : ℕ} → r ≡ cell → s ≡ cell₂ → eqb r s ≡ eqb cell cell₂
equal_reads e h = rw (e, h)

pub equal_read : {r cell : ℕ} (x : ℕ) → r ≡ cell → eqb r x ≡ eqb cell x
equal_read x e = rw e

pub contained : {p f puts-p puts-f : ℕ} → p ≡ puts-p → f ≡ puts-f → eqb (bit_and p f) p ≡ eqb (bit_and puts-p puts-f) puts-p
contained e h = rw (e, h)

pub second_below : (n : ℕ) (marks : List ℕ) (p q : ℕ) {r : Bool} → r ≡ is_marked n marks p && is_marked n marks q → r ≡ true → q < n
second_below n marks p q e h = marked_below n marks q (and_parts (is_marked n marks p) (is_marked n marks q) (sym e ∙ h)).1
