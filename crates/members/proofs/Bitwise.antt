-- The bits of a word: what setting one, flipping one and counting the zeros below the lowest one do to them.
-- Assumes nothing.
use Prim.Native.Nat.{ℕ, zero, suc, ◌*◌, ◌/◌, ◌%◌, ◌^◌, ◌<◌}
use mathlib.Core.Path.{◌≡◌, refl, sym, ◌∙◌, ap}
use mathlib.Core.Bool.{true, false}
use native.Mathlib.Nat.{one-mul}
use native.Mathlib.Omega.{arith}
use lib.Dec.{eqb, lit<}
use lib.Pow.{shl_exact}
use lib.Bits.{bit_or, bit_xor, or_shr, or_mod, xor_shr, xor_mod, or_zero_r, xor_zero_r, shifted_half, shifted_even}
use lib.Count.{count_trailing_zeros, under}
use borrow.Author.Tests.{eqb-true, eq-eqb, ne_eqb}
use Rattle.members.specs.Members.{has_bit}

-- the code's shift
pub one_shifted : (k : ℕ) → k < 64 → (1 * 2 ^ k) % 2 ^ 64 ≡ 2 ^ k
one_shifted k h = shl_exact {a = 1} 1 k 64 (lit< tt) (omega arith) ∙ one-mul (2 ^ k)

pub power_half : (k : ℕ) → 2 ^ suc k / 2 ≡ 2 ^ k
power_half k = ap (λ (x : ℕ). x / 2) (sym (one-mul (2 ^ suc k))) ∙ (shifted_half 1 k ∙ one-mul (2 ^ k))

pub power_even : (k : ℕ) → 2 ^ suc k % 2 ≡ 0
power_even k = ap (λ (x : ℕ). x % 2) (sym (one-mul (2 ^ suc k))) ∙ shifted_even 1 k

-- the rest of a word, and its lowest bit, with a bit set
or_rest : (w k : ℕ) → bit_or w (2 ^ suc k) / 2 ≡ bit_or (w / 2) (2 ^ k)
or_rest w k = or_shr w (2 ^ suc k) 1 ∙ ap (bit_or (w / 2)) (power_half k)

or_low : (w k : ℕ) → bit_or w (2 ^ suc k) % 2 ≡ w % 2
or_low w k = or_mod w (2 ^ suc k) 1 ∙ (ap (bit_or (w % 2)) (power_even k) ∙ or_zero_r (w % 2))

or_rest_first : (w : ℕ) → bit_or w 1 / 2 ≡ w / 2
or_rest_first w = or_shr w 1 1 ∙ or_zero_r (w / 2)

-- and with a bit flipped
xor_rest : (w k : ℕ) → bit_xor w (2 ^ suc k) / 2 ≡ bit_xor (w / 2) (2 ^ k)
xor_rest w k = xor_shr w (2 ^ suc k) 1 ∙ ap (bit_xor (w / 2)) (power_half k)

xor_low : (w k : ℕ) → bit_xor w (2 ^ suc k) % 2 ≡ w % 2
xor_low w k = xor_mod w (2 ^ suc k) 1 ∙ (ap (bit_xor (w % 2)) (power_even k) ∙ xor_zero_r (w % 2))

xor_rest_first : (w : ℕ) → bit_xor w 1 / 2 ≡ w / 2
xor_rest_first w = xor_shr w 1 1 ∙ xor_zero_r (w / 2)

-- a set bit is set, and the others stay
or_first : (w r : ℕ) → w % 2 ≡ r → r < 2 → bit_or w 1 % 2 ≡ 1
or_first w zero e h = or_mod w 1 1 ∙ ap (λ (x : ℕ). bit_or x 1) e
or_first w (suc zero) e h = or_mod w 1 1 ∙ ap (λ (x : ℕ). bit_or x 1) e
or_first w (suc (suc r)) e h = absurd (omega arith)

pub or_sets : (k w : ℕ) → has_bit (bit_or w (2 ^ k)) k ≡ true
unfolding has_bit
or_sets zero w = eq-eqb (bit_or w 1 % 2) 1 (or_first w (w % 2) refl (omega arith))
or_sets (suc k) w = ap (λ (x : ℕ). has_bit x k) (or_rest w k) ∙ or_sets k (w / 2)

pub or_keeps : (k j w : ℕ) → has_bit w j ≡ true → has_bit (bit_or w (2 ^ k)) j ≡ true
unfolding has_bit
or_keeps zero zero w h = eq-eqb (bit_or w 1 % 2) 1 (or_first w (w % 2) refl (omega arith))
or_keeps zero (suc j) w h = ap (λ (x : ℕ). has_bit x j) (or_rest_first w) ∙ h
or_keeps (suc k) zero w h = ap (λ (x : ℕ). eqb x 1) (or_low w k) ∙ h
or_keeps (suc k) (suc j) w h = ap (λ (x : ℕ). has_bit x j) (or_rest w k) ∙ or_keeps k j (w / 2) h

-- a flipped bit that was set is not, and the others stay
pub xor_clears : (k w : ℕ) → has_bit w k ≡ true → has_bit (bit_xor w (2 ^ k)) k ≡ false
unfolding has_bit
xor_clears zero w h =
    let low : bit_xor w 1 % 2 ≡ 0 = xor_mod w 1 1 ∙ ap (λ (x : ℕ). bit_xor x 1) (eqb-true (w % 2) 1 h) in
    ne_eqb (bit_xor w 1 % 2) 1 (λ e. omega arith)
xor_clears (suc k) w h = ap (λ (x : ℕ). has_bit x k) (xor_rest w k) ∙ xor_clears k (w / 2) h

pub xor_keeps : (k j w : ℕ) → (j ≡ k → ⊥) → has_bit (bit_xor w (2 ^ k)) j ≡ has_bit w j
unfolding has_bit
xor_keeps zero zero w apart = absurd (apart refl)
xor_keeps zero (suc j) w apart = ap (λ (x : ℕ). has_bit x j) (xor_rest_first w)
xor_keeps (suc k) zero w apart = ap (λ (x : ℕ). eqb x 1) (xor_low w k)
xor_keeps (suc k) (suc j) w apart = ap (λ (x : ℕ). has_bit x j) (xor_rest w k) ∙ xor_keeps k j (w / 2) (λ e. apart (ap suc e))

pub zero_has : (j : ℕ) → has_bit 0 j ≡ false
unfolding has_bit
zero_has zero = refl
zero_has (suc j) = zero_has j

-- the lowest set bit of a word of k bits, counted from the lowest
pub record Lowest (k w z : ℕ) : Type 0 where
  pub inside : z < k
  pub set_there : has_bit w z ≡ true
  pub none_below : (j : ℕ) → j < z → has_bit w j ≡ false

module _ (k w : ℕ) where
  lowest_odd : {r : ℕ} → w % 2 ≡ suc r → Lowest (suc k) w 0
  unfolding has_bit
  lowest_odd e =
      record {
        inside = omega arith;
        set_there = eq-eqb (w % 2) 1 (omega arith);
        none_below = λ j less. absurd (omega arith);
      }

  even_below : {z : ℕ} → w % 2 ≡ 0 → Lowest k (w / 2) z → (j : ℕ) → j < suc z → has_bit w j ≡ false
  unfolding has_bit
  even_below e low zero less = ne_eqb (w % 2) 1 (λ odd. omega arith)
  even_below e low (suc j) less = low.none_below j (omega arith)

  lowest_even : {z : ℕ} → w % 2 ≡ 0 → Lowest k (w / 2) z → Lowest (suc k) w (suc z)
  unfolding has_bit
  lowest_even e low =
      record { inside = let h = low.inside in omega arith; set_there = low.set_there; none_below = even_below e low }

pub trailing_lowest : (k w : ℕ) → (w ≡ 0 → ⊥) → w < 2 ^ k → Lowest k w (count_trailing_zeros k w)
unfolding count_trailing_zeros
trailing_lowest zero w some h = absurd (some (omega arith))
trailing_lowest (suc k) w some h =
    go (w % 2) refl
    (λ (e : w % 2 ≡ 0).
    trailing_lowest k (w / 2) (λ none. some (omega arith)) (let twice = power_half k in let even = power_even k in omega arith))
  where
    go : (r : ℕ) → w % 2 ≡ r → (w % 2 ≡ 0 → Lowest k (w / 2) (count_trailing_zeros k (w / 2)))
        → Lowest (suc k) w (under r (count_trailing_zeros k (w / 2)))
    go zero e rest = lowest_even k w e (rest e)
    go (suc r) e rest = lowest_odd k w e
