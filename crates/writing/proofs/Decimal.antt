-- The fewest digits that hold a number are its decimal.
-- Assumes nothing.
use Prim.Native.Nat.{ℕ, zero, suc, ◌+◌, ◌-◌, ◌/◌, ◌%◌, ◌^◌, ◌≤◌, ◌<◌}
use native.Mathlib.Nat.{pow-suc, one-le-pow, pow-le-pow_right, div-lt_iff_lt-mul, le-div_iff_mul-le}
use native.Mathlib.Numerals.{sub-one}
use native.Mathlib.Omega.{arith}
use mathlib.Core.Path.{◌≡◌, ◌∙◌, ap}
use mathlib.Core.Bool.{true, false}
use mathlib.Core.List.{List, [], ◌∷◌}
use mathlib.Core.Logic.{⊎_elim}
use lib.ListN.{length, length-append}
use lib.Dec.{leb, ltb}
use borrow.Author.Tests.{lt-ltb, ltb-true, ltb-false, leb-true, leb-false}
use Rattle.std.proofs.lemmas.Bool.{cases_Bool}
use Rattle.io.specs.Digits.{last_digits, hex_digit_ascii, IsDigitCount}
use Rattle.writing.specs.Texts.{digits_of, decimal_of}

-- a decimal has at most 20 digits
length_digits : (most n : ℕ) → length (digits_of most n) ≤ most
unfolding digits_of
length_digits zero n = omega arith
length_digits (suc more) n =
    ⊎_elim
    (λ (h : ltb n 10 ≡ true). rw h (omega arith))
    (λ (h : ltb n 10 ≡ false). rw h (simp length-append (omega (arith, length_digits more (n / 10)))))
    (cases_Bool (ltb n 10))

pub length_decimal : (n : ℕ) → length (decimal_of n) ≤ 20
unfolding decimal_of
length_decimal n = length_digits 20 n

-- twenty digits hold a number of the machine
pub few_digits : (n k : ℕ) → n < 10 ^ 20 → IsDigitCount 10 1 n k → k ≤ 20
few_digits n k small f =
    ⊎_elim
    (λ (h : leb k 20 ≡ true). leb-true k 20 h)
    (λ (h : leb k 20 ≡ false).
    let more : 20 < k = leb-false k 20 h in
    let low : 10 ^ (k - 1) ≤ n = f.2 (omega arith) in
    let high : 10 ^ 20 ≤ 10 ^ (k - 1) = pow-le-pow_right {n = 10} (omega arith) {i = 20} {j = k - 1} (omega arith) in
    absurd (omega arith))
    (cases_Bool (leb k 20))

-- the last digit of a number
last_digit : (n : ℕ) → hex_digit_ascii (n % 10) ≡ 48 + n % 10
last_digit n = rw (lt-ltb (n % 10) 10 (omega arith))

ten_le : (k : ℕ) → 10 ≤ 10 ^ suc k
ten_le k = rw pow-suc (omega (arith, one-le-pow k 10 (omega arith)))

-- one digit, and several
one_digit : (k n : ℕ) → n < 10 → IsDigitCount 10 1 n (suc k) → last_digits 10 (suc k) n ≡ (48 + n) ∷ []
one_digit zero n small f = ap (λ (d : ℕ). d ∷ []) (last_digit n ∙ omega arith)
one_digit (suc k) n small f =
    let low : 10 ^ suc k ≤ n = rw sub-one at (f.2 (omega arith)) in
    absurd (omega (arith, ten_le k))

fewest_front : (k n : ℕ) → 10 ≤ n → IsDigitCount 10 1 n (suc k) → IsDigitCount 10 1 (n / 10) k
fewest_front zero n large f = absurd (omega (arith, f.1))
fewest_front (suc k) n large f =
    let low : 10 ^ suc k ≤ n = rw sub-one at (f.2 (omega arith)) in (
      omega arith,
      (div-lt_iff_lt-mul {k = 10} (omega arith)).1 (rw pow-suc at f.1),
      λ _. rw sub-one ((le-div_iff_mul-le {k = 10} (omega arith)).1 (rw pow-suc at low)),
    )

pub fewest_digits : (k most n : ℕ) → k ≤ most → IsDigitCount 10 1 n k → last_digits 10 k n ≡ digits_of most n
unfolding digits_of
fewest_digits zero most n h f = absurd (omega (arith, f.0))
fewest_digits (suc k) zero n h f = absurd (omega arith)
fewest_digits (suc k) (suc most) n h f =
    ⊎_elim
    (λ (small : ltb n 10 ≡ true). rw small (one_digit k n (ltb-true n 10 small) f))
    (λ (large : ltb n 10 ≡ false).
    rw (large, last_digit n, fewest_digits k most (n / 10) (omega arith) (fewest_front k n (ltb-false n 10 large) f)))
    (cases_Bool (ltb n 10))

-- the digits that hold a number best are its decimal
pub fewest_decimal : (n k : ℕ) (text : List ℕ) → k ≤ 20 → IsDigitCount 10 1 n k → text ≡ last_digits 10 k n → text ≡ decimal_of n
unfolding decimal_of
fewest_decimal n k text h f e = e ∙ fewest_digits k 20 n h f
