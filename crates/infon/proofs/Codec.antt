-- Records and their nine bytes: what is spelled is read back, and what is read was spelled so.
-- Assumes nothing.
use Prim.Native.Nat.{ℕ, zero, suc, ◌+◌, ◌*◌, ◌/◌, ◌%◌, ◌≤◌, ◌<◌}
use native.Mathlib.Nat.{le_of_suc-le-suc, le-add_right, not-suc-le-zero, add_comm, mul-suc}
use native.Mathlib.Omega.{arith}
use mathlib.Core.Path.{◌≡◌, refl, sym, ◌∙◌, ap}
use mathlib.Core.Logic.{◌⊎◌, inl, inr}
use mathlib.Core.Bool.{Bool, true, false, cond, ◌&&◌}
use Rattle.std.proofs.lemmas.List.Concat.{flat_map-append}
use Rattle.std.specs.Prelude.{Option, None, Some, option_map}
use Rattle.std.proofs.lemmas.Option.{none-some, same_Some}
use mathlib.Core.List.{List, [], ◌∷◌, ◌++◌, map, append_assoc, Memᴰ, nil≢cons, head-eq_of_cons-eq, tail-eq_of_cons-eq}
use lib.ListN.{length, take, drop, get_or, length-append, length-drop, take-append-drop, drop_of_length-le}
use lib.Seq.{length-take-le, take_at, drop_at, take-take, take-add, drop-cons, get_or-drop}
use Rattle.std.proofs.lemmas.List.{drop-take}
use lib.Dec.{eqb}
use borrow.Author.Tests.{eqb-true}
use Rattle.infon.specs.declared.Way.{Way}
use Rattle.infon.specs.declared.Way.TheVariants.{Hypothesis, Given, Weaken, Left, Right, Both, Apply, Attach}
use Rattle.infon.specs.declared.Record.{Record}
use Rattle.infon.specs.Journal.{record_bytes, no_premise, rule_of, first_premise, second_premise, two_bytes, spelled, spelled_all, alone, with_one, way_of, number_at, decoded, whole_records, numbers_from}
use Rattle.std.proofs.lemmas.Bool.{and_parts}

-- a value chosen by a test is the one or the other
pub cond_cases : {A : Type 0} (b : Bool) (x y z : A) → cond b x y ≡ z → ((b ≡ true) × (x ≡ z)) ⊎ ((b ≡ false) × (y ≡ z))
cond_cases true x y z e = inl (refl, e)
cond_cases false x y z e = inr (refl, e)

-- Every element is a byte. Behind the row `get_or` gives 0.
abbrev pub AreBytes : List ℕ → Type 0
AreBytes s = (i : ℕ) → get_or s i 0 < 256

-- Each of a record's three numbers fits in its two bytes.
pub record Small (r : Record) : Type 0 where
  pub number : r.formula < 65536
  pub first : first_premise r.way < 65536
  pub second : second_premise r.way < 65536

-- two bytes hold any number below 65536
read_two_bytes : (n : ℕ) → n < 65536 → n / 256 % 256 * 256 + n % 256 ≡ n
read_two_bytes n h = omega arith

way_of_spelled : (w : Way) → way_of (rule_of w) (first_premise w) (second_premise w) ≡ Some w
unfolding way_of rule_of first_premise second_premise alone with_one no_premise
way_of_spelled Hypothesis = refl
way_of_spelled Given = refl
way_of_spelled (Weaken p) = refl
way_of_spelled (Left p) = refl
way_of_spelled (Right p) = refl
way_of_spelled (Both p q) = refl
way_of_spelled (Apply p q) = refl
way_of_spelled (Attach p) = refl

pub length_spelled : (r : Record) → length (spelled r) ≡ record_bytes
unfolding spelled two_bytes
length_spelled r = refl

-- nine bytes in front of others are read back as the record that they spell
pub decoded_front : (r : Record) (t : List ℕ) → Small r → decoded (take record_bytes (spelled r ++ t)) ≡ Some r
unfolding decoded spelled two_bytes number_at
decoded_front r t small =
    rw (
      read_two_bytes r.formula small.number,
      read_two_bytes (first_premise r.way) small.first,
      read_two_bytes (second_premise r.way) small.second,
      way_of_spelled r.way,
    )

pub decoded_spelled : (r : Record) → Small r → decoded (spelled r) ≡ Some r
unfolding spelled two_bytes
decoded_spelled r small = decoded_front r [] small

pub decoded_spelled_each : (rs : List Record) → ((r : Record) → Memᴰ r rs → Small r) → map decoded (map spelled rs) ≡ map Some rs
decoded_spelled_each [] small = refl
decoded_spelled_each (r ∷ rest) small =
    rw (
      decoded_spelled r (small r (Memᴰ.head refl)),
      decoded_spelled_each rest (λ (q : Record) (m : Memᴰ q rest). small q (Memᴰ.tail m)),
    )

pub length_spelled_all : (rs : List Record) → length (spelled_all rs) ≡ record_bytes * length rs
unfolding spelled_all
length_spelled_all [] = refl
length_spelled_all (r ∷ rest) = rw (length-append (spelled r) (spelled_all rest), length_spelled r, length_spelled_all rest) (omega arith)

pub spelled_all_append : (xs ys : List Record) → spelled_all (xs ++ ys) ≡ spelled_all xs ++ spelled_all ys
unfolding spelled_all
spelled_all_append xs ys = flat_map-append spelled xs ys

-- the first n records are spelled by the first 9 n bytes
pub take_spelled_all : (n : ℕ) (rs : List Record) → n ≤ length rs → take (record_bytes * n) (spelled_all rs) ≡ spelled_all (take n rs)
take_spelled_all n rs h =
    ap (λ (row : List Record). take (record_bytes * n) (spelled_all row)) (sym (take-append-drop n rs))
    ∙ ap (take (record_bytes * n)) (spelled_all_append (take n rs) (drop n rs))
    ∙ take_at (spelled_all (take n rs)) (spelled_all (drop n rs)) (record_bytes * n) (rw (length_spelled_all, length-take-le n rs h))

pub length_whole_records : (n : ℕ) (s : List ℕ) → length (whole_records n s) ≡ n
unfolding whole_records
length_whole_records zero s = refl
length_whole_records (suc n) s = ap suc (length_whole_records n (drop record_bytes s))

-- the first n records are in the first 9 n bytes
pub whole_records_take : (n : ℕ) (s : List ℕ) → whole_records n (take (record_bytes * n) s) ≡ whole_records n s
unfolding whole_records
whole_records_take zero s = refl
whole_records_take (suc n) s =
    rw (
      mul-suc,
      add_comm (record_bytes * n) record_bytes,
      take-take record_bytes (record_bytes + record_bytes * n) s (le-add_right record_bytes (record_bytes * n)),
      drop-take,
      whole_records_take n (drop record_bytes s),
    )

pub whole_records_cong : (n : ℕ) (s t : List ℕ) → take (record_bytes * n) s ≡ take (record_bytes * n) t → whole_records n s ≡ whole_records n t
whole_records_cong n s t e = sym (whole_records_take n s) ∙ ap (whole_records n) e ∙ whole_records_take n t

pub whole_records_spelled_all : (n : ℕ) (rs : List Record) (t : List ℕ) → n ≤ length rs → whole_records n (spelled_all rs ++ t) ≡ map spelled (take n rs)
unfolding whole_records spelled_all
whole_records_spelled_all zero rs t h = refl
whole_records_spelled_all (suc n) [] t h = absurd (not-suc-le-zero h)
whole_records_spelled_all (suc n) (r ∷ rest) t h =
    rw (
      append_assoc,
      take_at (spelled r) (spelled_all rest ++ t) record_bytes (length_spelled r),
      drop_at (spelled r) (spelled_all rest ++ t) record_bytes (length_spelled r),
      whole_records_spelled_all n rest t (le_of_suc-le-suc h),
    )

-- The other way: a way that `way_of` gives spells the rule and the premises that it was read from. First ways with two premises,
-- with one and with none, then the rules one after the other.
record Spells (w : Way) (rule p q : ℕ) : Type 0 where
  rules : rule_of w ≡ rule
  firsts : first_premise w ≡ p
  seconds : second_premise w ≡ q

with_two : (rule : ℕ) (v w : Way) → rule ≡ rule_of v → Some v ≡ Some w → Spells w rule (first_premise v) (second_premise v)
with_two rule v w h e = let same : v ≡ w = cc in rw (h, same) (record { rules = refl; firsts = refl; seconds = refl })

with_one_lem : (rule q : ℕ) (v w : Way) → rule ≡ rule_of v → second_premise v ≡ no_premise → with_one q v ≡ Some w → Spells w rule (first_premise v) q
unfolding with_one
with_one_lem rule q v w h lacks e =
    elim (cond_cases (eqb q no_premise) (Some v) None (Some w) e) [
      | inl both ↦ rw (eqb-true q no_premise both.0, ← lacks) (with_two rule v w h both.1)
      | inr neither ↦ absurd (none-some w neither.1)
    ]

with_none : (rule p q : ℕ) (v w : Way) → rule ≡ rule_of v → first_premise v ≡ no_premise → second_premise v ≡ no_premise → alone p q v ≡ Some w → Spells w rule p q
unfolding alone
with_none rule p q v w h lacks₁ lacks₂ e =
    elim (cond_cases (eqb p no_premise && eqb q no_premise) (Some v) None (Some w) e) [
      | inl both ↦ let tests = and_parts (eqb p no_premise) (eqb q no_premise) both.0 in
          let first : p ≡ first_premise v = eqb-true p no_premise tests.0 ∙ sym lacks₁ in
          let second : q ≡ second_premise v = eqb-true q no_premise tests.1 ∙ sym lacks₂ in
          rw (first, second) (with_two rule v w h both.1)
      | inr neither ↦ absurd (none-some w neither.1)
    ]

-- the rule has this number, or is looked for further on
tries : {A : Type 0} (rule k : ℕ) (x y : Option Way) (w : Way) → (rule ≡ k → x ≡ Some w → A) → (y ≡ Some w → A) → cond (eqb rule k) x y ≡ Some w → A
tries rule k x y w here later e =
    elim (cond_cases (eqb rule k) x y (Some w) e) [
      | inl found ↦ here (eqb-true rule k found.0) found.1
      | inr other ↦ later other.1
    ]

way_of_spells : (rule p q : ℕ) (w : Way) → way_of rule p q ≡ Some w → Spells w rule p q
unfolding way_of rule_of first_premise second_premise
way_of_spells rule p q w =
    tries rule 1 _ _ w (λ h. with_none rule p q Hypothesis w h refl refl)
    (tries rule 2 _ _ w (λ h. with_none rule p q Given w h refl refl)
    (tries rule 3 _ _ w (λ h. with_one_lem rule q (Weaken p) w h refl)
    (tries rule 4 _ _ w (λ h. with_one_lem rule q (Left p) w h refl)
    (tries rule 5 _ _ w (λ h. with_one_lem rule q (Right p) w h refl)
    (tries rule 6 _ _ w (λ h. with_two rule (Both p q) w h)
    (tries rule 7 _ _ w (λ h. with_two rule (Apply p q) w h)
    (tries rule 8 _ _ w (λ h. with_one_lem rule q (Attach p) w h refl)
    (λ (e : None ≡ Some w). absurd (none-some w e)))))))))

-- a row from a place on, element by element
from_place : (s : List ℕ) (i n : ℕ) → i + n ≡ length s → map (λ (j : ℕ). get_or s j 0) (numbers_from i n) ≡ drop i s
unfolding numbers_from
from_place s i zero e = rw (drop_of_length-le s {i = i} (omega arith))
from_place s i (suc n) e = rw (drop-cons s i 0 (omega arith), from_place s (suc i) n (omega arith))

two_bytes_read : (a b : ℕ) → a < 256 → b < 256 → two_bytes (a * 256 + b) ≡ a ∷ (b ∷ [])
unfolding two_bytes
two_bytes_read a b h k =
    let high : (a * 256 + b) / 256 % 256 ≡ a = omega arith in
    let low : (a * 256 + b) % 256 ≡ b = omega arith in
    rw (high, low)

record_for_some : (n : ℕ) (o : Option Way) (r : Record) → option_map (λ (w : Way). record { formula = n; way = w }) o ≡ Some r
    → (r.formula ≡ n) × (o ≡ Some r.way)
record_for_some n None r e = absurd (none-some r e)
record_for_some n (Some w) r e =
    let same = same_Some (record { formula = n; way = w }) r e in
    (ap (λ (q : Record). q.formula) (sym same), ap (λ (q : Record). Some q.way) same)

-- nine bytes that are read as a record are the ones that it spells
pub spelled_decoded : (s : List ℕ) (r : Record) → length s ≡ record_bytes → AreBytes s → decoded s ≡ Some r → spelled r ≡ s
unfolding decoded number_at spelled numbers_from
spelled_decoded s r nine bytes e =
    elim (cond_cases (eqb (get_or s 0 0) 0x4C && eqb (get_or s 1 0) 0x51) _ None (Some r) e) [
      | inl marked ↦ let marks = and_parts (eqb (get_or s 0 0) 0x4C) (eqb (get_or s 1 0) 0x51) marked.0 in
          let reads = record_for_some (number_at s 3) (way_of (get_or s 2 0) (number_at s 5) (number_at s 7)) r marked.1 in
          let way = way_of_spells (get_or s 2 0) (number_at s 5) (number_at s 7) r.way reads.1 in
          rw (
            reads.0,
            way.rules,
            way.firsts,
            way.seconds,
            two_bytes_read (get_or s 3 0) (get_or s 4 0) (bytes 3) (bytes 4),
            two_bytes_read (get_or s 5 0) (get_or s 6 0) (bytes 5) (bytes 6),
            two_bytes_read (get_or s 7 0) (get_or s 8 0) (bytes 7) (bytes 8),
            ← (eqb-true (get_or s 0 0) 0x4C marks.0),
            ← (eqb-true (get_or s 1 0) 0x51 marks.1),
          )
          (from_place s 0 9 (sym nine))
      | inr unmarked ↦ absurd (none-some r unmarked.1)
    ]

bytes_take : (n : ℕ) (s : List ℕ) → AreBytes s → AreBytes (take n s)
bytes_take zero s bytes i = omega arith
bytes_take (suc n) [] bytes i = bytes i
bytes_take (suc n) (b ∷ s) bytes zero = bytes 0
bytes_take (suc n) (b ∷ s) bytes (suc i) = bytes_take n s (λ (j : ℕ). bytes (suc j)) i

-- so whole records at a row's start that are read as these are what they spell
pub spelled_all_decoded : (rs : List Record) (n : ℕ) (s : List ℕ) → AreBytes s → record_bytes * n ≤ length s
    → map decoded (take (length rs) (whole_records n s)) ≡ map Some rs → take (record_bytes * length rs) s ≡ spelled_all rs
unfolding whole_records spelled_all
spelled_all_decoded [] n s bytes h e = refl
spelled_all_decoded (r ∷ rest) zero s bytes h e = absurd (nil≢cons e)
spelled_all_decoded (r ∷ rest) (suc n) s bytes h e =
    let all : record_bytes * n + record_bytes ≤ length s = rw mul-suc at h in
    let nine : length (take record_bytes s) ≡ record_bytes = length-take-le record_bytes s (omega arith) in
    let room : record_bytes * n ≤ length (drop record_bytes s) = rw length-drop (omega arith) in
    let bytes_left : AreBytes (drop record_bytes s) = λ i. rw (get_or-drop record_bytes s i 0) (bytes (record_bytes + i)) in
    let first = spelled_decoded (take record_bytes s) r nine (bytes_take record_bytes s bytes) (head-eq_of_cons-eq e) in
    let later = spelled_all_decoded rest n (drop record_bytes s) bytes_left room (tail-eq_of_cons-eq e) in
    rw (mul-suc, add_comm (record_bytes * length rest) record_bytes, take-add, first, later)
