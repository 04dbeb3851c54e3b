-- Counting numbers that pass a test: what one more number adds.
-- Assumes nothing.
use Prim.Native.Nat.{ℕ, zero, suc, ◌+◌, ◌≤◌, ◌<◌}
use mathlib.Core.Path.{◌≡◌, refl, sym, ◌∙◌, ap}
use mathlib.Core.Logic.{⊎_elim}
use mathlib.Core.Bool.{Bool, true, false, cond}
use mathlib.Core.List.Memᴰ
use mathlib.Core.List.{List, [], ◌∷◌, Memᴰ}
use native.Mathlib.Nat.{eq-or-lt_of_le}
use native.Mathlib.Omega.{arith}
use lib.ListN.{length}
use Rattle.infon.specs.Journal.{numbers_from}
use Rattle.std.proofs.lemmas.Bool.{cases_Bool}

unfoldable pub count_of : (ℕ → Bool) → List ℕ → ℕ
count_of test [] = 0
count_of test (n ∷ rest) = cond (test n) (suc (count_of test rest)) (count_of test rest)

pub count_passed : (test : ℕ → Bool) (n : ℕ) (rest : List ℕ) → test n ≡ true → count_of test (n ∷ rest) ≡ suc (count_of test rest)
unfolding count_of
count_passed test n rest h = rw h

pub count_failed : (test : ℕ → Bool) (n : ℕ) (rest : List ℕ) → test n ≡ false → count_of test (n ∷ rest) ≡ count_of test rest
unfolding count_of
count_failed test n rest h = rw h

pub count_alike : (test other : ℕ → Bool) (ns : List ℕ) → ((n : ℕ) → Memᴰ n ns → test n ≡ other n)
    → count_of test ns ≡ count_of other ns
unfolding count_of
count_alike test other [] h = refl
count_alike test other (n ∷ rest) h =
    let here = h n (Memᴰ.head refl) in
    let later = count_alike test other rest (λ m i. h m (Memᴰ.tail i)) in
    rw (here, later)

pub count_at_most : (test : ℕ → Bool) (ns : List ℕ) → count_of test ns ≤ length ns
unfolding count_of
count_at_most test [] = omega arith
count_at_most test (n ∷ rest) =
    let later = count_at_most test rest in
    ⊎_elim
    (λ (h : test n ≡ true). rw (count_passed test n rest h) (omega arith))
    (λ (h : test n ≡ false). rw (count_failed test n rest h) (omega arith))
    (cases_Bool (test n))

nothing_between : (i n : ℕ) → i ≤ n → n < i + 0 → ⊥
nothing_between i n low high = omega arith

-- the numbers from i on: each once, in order
pub from_above : (i k : ℕ) (n : ℕ) → Memᴰ n (numbers_from i k) → (i ≤ n) × (n < i + k)
unfolding numbers_from
from_above i zero n m = absurd (Memᴰ.not-nil m)
from_above i (suc k) n m =
    ⊎_elim
    (λ (e : n ≡ i). (omega arith, omega arith))
    (λ (t : Memᴰ n (numbers_from (suc i) k)). let b = from_above (suc i) k n t in (omega arith, omega arith))
    (Memᴰ.cases_cons m)

pub from_has : (i k n : ℕ) → i ≤ n → n < i + k → Memᴰ n (numbers_from i k)
unfolding numbers_from
from_has i zero n low high = absurd (nothing_between i n low high)
from_has i (suc k) n low high =
    ⊎_elim
    (λ (e : i ≡ n). Memᴰ.head (sym e))
    (λ (l : i < n). Memᴰ.tail (from_has (suc i) k n l (omega arith)))
    (eq-or-lt_of_le low)

pub from_length : (i k : ℕ) → length (numbers_from i k) ≡ k
unfolding numbers_from
from_length i zero = refl
from_length i (suc k) = ap suc (from_length (suc i) k)

-- a number that passes now and did not before, all others as before, counts once
pub count_gained : (test other : ℕ → Bool) (i k n : ℕ) → i ≤ n → n < i + k → test n ≡ false → other n ≡ true
    → ((m : ℕ) → (m ≡ n → ⊥) → test m ≡ other m) → count_of other (numbers_from i k) ≡ suc (count_of test (numbers_from i k))
unfolding numbers_from
count_gained test other i zero n low high was now others = absurd (nothing_between i n low high)
count_gained test other i (suc k) n low high was now others =
    ⊎_elim
    (λ (e : i ≡ n).
    let later =
    count_alike test other (numbers_from (suc i) k)
    (λ m inside. let above = from_above (suc i) k m inside in others m (λ (eq : m ≡ n). omega arith)) in
    count_passed other i (numbers_from (suc i) k) (ap other e ∙ now)
    ∙ ap suc (sym later ∙ sym (count_failed test i (numbers_from (suc i) k) (ap test e ∙ was))))
    (λ (l : i < n).
    let later = count_gained test other (suc i) k n l (omega arith) was now others in
    let here = others i (λ (eq : i ≡ n). omega arith) in
    ⊎_elim
    (λ (p : test i ≡ true).
    count_passed other i (numbers_from (suc i) k) (sym here ∙ p)
    ∙ ap suc (later ∙ sym (count_passed test i (numbers_from (suc i) k) p)))
    (λ (p : test i ≡ false).
    count_failed other i (numbers_from (suc i) k) (sym here ∙ p)
    ∙ (later ∙ ap suc (sym (count_failed test i (numbers_from (suc i) k) p))))
    (cases_Bool (test i)))
    (eq-or-lt_of_le low)
