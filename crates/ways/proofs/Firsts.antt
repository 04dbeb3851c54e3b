-- The first of a row that passes a test: rows made of parts, of images, of numbers and of pairs of numbers.
-- Assumes nothing.
use Prim.Native.Nat.{ℕ, zero, suc, ◌+◌, ◌≤◌, ◌<◌}
use mathlib.Core.Path.{◌≡◌, refl, sym, ◌∙◌, ap}
use mathlib.Core.Logic.{⊎_elim}
use mathlib.Core.Bool.{Bool, true, false}
use Rattle.std.proofs.lemmas.Bool.{cases_Bool}
use Rattle.std.specs.Prelude.{Option, None, Some}
use mathlib.Core.List.{List, [], ◌∷◌, ◌++◌, map}
use native.Mathlib.Nat.{eq-or-lt_of_le}
use native.Mathlib.Omega.{arith}
use Rattle.infon.specs.declared.Way.{Way}
use Rattle.infon.specs.Bytes.{first_of}
use Rattle.infon.specs.Journal.{numbers_from, each_pair}
use Rattle.infon.proofs.Ascending.{first_passed, first_failed}
use Rattle.ways.specs.Search.{pairs_of}

module _ {A : Type 0} where
  pub nothing : (test : A → Bool) → first_of test [] ≡ None
  unfolding first_of
  nothing test = refl

  pub all_fail : (test : A → Bool) (xs : List A) → ((x : A) → test x ≡ false) → first_of test xs ≡ None
  all_fail test [] h = nothing test
  all_fail test (x ∷ xs) h = first_failed test x xs (h x) ∙ all_fail test xs h

  pub alike_first : (test other : A → Bool) (xs : List A) → ((x : A) → test x ≡ other x) → first_of test xs ≡ first_of other xs
  unfolding first_of
  alike_first test other [] h = refl
  alike_first test other (x ∷ xs) h = rw (h x, alike_first test other xs h)

  pub append_found : (test : A → Bool) (xs ys : List A) {x : A} → first_of test xs ≡ Some x → first_of test (xs ++ ys) ≡ Some x
  append_found test [] ys h = absurd (let z : ◌≡◌ {A = ℕ} 0 1 = cc (nothing test) in omega arith)
  append_found test (y ∷ xs) ys {x} h =
      ⊎_elim
      (λ (p : test y ≡ true). first_passed test y (xs ++ ys) p ∙ (sym (first_passed test y xs p) ∙ h))
      (λ (p : test y ≡ false). first_failed test y (xs ++ ys) p ∙ append_found test xs ys (sym (first_failed test y xs p) ∙ h))
      (cases_Bool (test y))

  pub append_none : (test : A → Bool) (xs ys : List A) → first_of test xs ≡ None → first_of test (xs ++ ys) ≡ first_of test ys
  append_none test [] ys h = refl
  append_none test (y ∷ xs) ys h =
      ⊎_elim
      (λ (p : test y ≡ true). absurd (let z : ◌≡◌ {A = ℕ} 0 1 = cc (first_passed test y xs p) in omega arith))
      (λ (p : test y ≡ false). first_failed test y (xs ++ ys) p ∙ append_none test xs ys (sym (first_failed test y xs p) ∙ h))
      (cases_Bool (test y))

module _ {A B : Type 0} (test : B → Bool) (f : A → B) where
  pub map_found : (xs : List A) {x : A} → first_of (λ (y : A). test (f y)) xs ≡ Some x → first_of test (map f xs) ≡ Some (f x)
  map_found [] {x} h = absurd (let z : ◌≡◌ {A = ℕ} 0 1 = cc (nothing (λ (y : A). test (f y))) in omega arith)
  map_found (y ∷ xs) {x} h =
      ⊎_elim
      (λ (p : test (f y) ≡ true).
      let e : ◌≡◌ {A = Option A} (Some y) (Some x) = sym (first_passed (λ (z : A). test (f z)) y xs p) ∙ h in
      let same : y ≡ x = cc in
      first_passed test (f y) (map f xs) p ∙ ap (λ (z : A). Some (f z)) same)
      (λ (p : test (f y) ≡ false).
      first_failed test (f y) (map f xs) p ∙ map_found xs (sym (first_failed (λ (z : A). test (f z)) y xs p) ∙ h))
      (cases_Bool (test (f y)))

  pub map_none : (xs : List A) → first_of (λ (y : A). test (f y)) xs ≡ None → first_of test (map f xs) ≡ None
  map_none [] h = nothing test
  map_none (y ∷ xs) h =
      ⊎_elim
      (λ (p : test (f y) ≡ true).
      absurd (let z : ◌≡◌ {A = ℕ} 0 1 = cc (first_passed (λ (z : A). test (f z)) y xs p) in omega arith))
      (λ (p : test (f y) ≡ false).
      first_failed test (f y) (map f xs) p ∙ map_none xs (sym (first_failed (λ (z : A). test (f z)) y xs p) ∙ h))
      (cases_Bool (test (f y)))

-- the numbers from i on
module _ (test : ℕ → Bool) where
  number_found : (i k p : ℕ) → i ≤ p → p < i + k → test p ≡ true → ((q : ℕ) → i ≤ q → q < p → test q ≡ false)
      → first_of test (numbers_from i k) ≡ Some p
  unfolding numbers_from
  number_found i zero p low high h before = absurd (omega arith)
  number_found i (suc k) p low high h before =
      ⊎_elim
      (λ (e : i ≡ p).
      first_passed test i (numbers_from (suc i) k) (ap test e ∙ h) ∙ ap (λ (q : ℕ). Some q) e)
      (λ (less : i < p).
      first_failed test i (numbers_from (suc i) k) (before i (omega arith) less)
      ∙ number_found (suc i) k p less (omega arith) h (λ q from until. before q (omega arith) until))
      (eq-or-lt_of_le low)

  number_none : (i k : ℕ) → ((q : ℕ) → i ≤ q → q < i + k → test q ≡ false) → first_of test (numbers_from i k) ≡ None
  unfolding numbers_from
  number_none i zero h = nothing test
  number_none i (suc k) h =
      first_failed test i (numbers_from (suc i) k) (h i (omega arith) (omega arith))
      ∙ number_none (suc i) k (λ q from until. h q (omega arith) (omega arith))

  pub found_first : (n p : ℕ) → p < n → test p ≡ true → ((q : ℕ) → q < p → test q ≡ false) → first_of test (numbers_from 0 n) ≡ Some p
  found_first n p h passed before =
      number_found 0 n p (omega arith) (omega arith) passed (λ q low less. before q less)

  pub none_first_lem : (n : ℕ) → ((q : ℕ) → q < n → test q ≡ false) → first_of test (numbers_from 0 n) ≡ None
  none_first_lem n h = number_none 0 n (λ q low less. h q (omega arith))

-- ways with two premises
module _ (test : Way → Bool) (rule : ℕ → ℕ → Way) where
  pairs_found : (i k n p q : ℕ) → i ≤ p → p < i + k → q < n → test (rule p q) ≡ true
      → ((p' q' : ℕ) → p' < p → test (rule p' q') ≡ false) → ((q' : ℕ) → q' < q → test (rule p q') ≡ false)
      → first_of test (each_pair rule (numbers_from i k) (numbers_from 0 n)) ≡ Some (rule p q)
  unfolding numbers_from each_pair
  pairs_found i zero n p q low high less h first second = absurd (omega arith)
  pairs_found i (suc k) n p q low high less h first second =
      ⊎_elim
      (λ (e : i ≡ p).
      rw e
      (append_found test (map (rule p) (numbers_from 0 n)) (each_pair rule (numbers_from (suc p) k) (numbers_from 0 n))
      (map_found test (rule p) (numbers_from 0 n) (found_first (λ (r : ℕ). test (rule p r)) n q less h second))))
      (λ (later : i < p).
      append_none test (map (rule i) (numbers_from 0 n)) (each_pair rule (numbers_from (suc i) k) (numbers_from 0 n))
      (map_none test (rule i) (numbers_from 0 n)
      (all_fail (λ (r : ℕ). test (rule i r)) (numbers_from 0 n) (λ r. first i r later)))
      ∙ pairs_found (suc i) k n p q later (omega arith) less h first second)
      (eq-or-lt_of_le low)

  each_none : (ps qs : List ℕ) → ((p q : ℕ) → test (rule p q) ≡ false) → first_of test (each_pair rule ps qs) ≡ None
  unfolding each_pair
  each_none [] qs h = nothing test
  each_none (p ∷ ps) qs h =
      append_none test (map (rule p) qs) (each_pair rule ps qs)
      (map_none test (rule p) qs (all_fail (λ (r : ℕ). test (rule p r)) qs (h p)))
      ∙ each_none ps qs h

  pub pair_found : (n p q : ℕ) → p < n → q < n → test (rule p q) ≡ true
      → ((p' q' : ℕ) → p' < p → test (rule p' q') ≡ false) → ((q' : ℕ) → q' < q → test (rule p q') ≡ false)
      → first_of test (pairs_of rule n) ≡ Some (rule p q)
  unfolding pairs_of
  pair_found n p q low less h first second = pairs_found 0 n n p q (omega arith) (omega arith) less h first second

  pub pair_none : (n : ℕ) → ((p q : ℕ) → test (rule p q) ≡ false) → first_of test (pairs_of rule n) ≡ None
  unfolding pairs_of
  pair_none n h = each_none (numbers_from 0 n) (numbers_from 0 n) h
