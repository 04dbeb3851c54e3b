-- The set: what putting a number in, taking a member out and looking for the least member do to membership.
-- Assumes nothing.
use Prim.Native.Nat.{ℕ, ◌+◌, ◌*◌, ◌/◌, ◌%◌, ◌^◌, ◌≤◌, ◌<◌}
use mathlib.Core.Path.{◌≡◌, refl, sym, ◌∙◌, ap}
use mathlib.Core.Logic.{⊎_elim}
use mathlib.Core.Bool.{true, false}
use mathlib.Core.List.{List}
use native.Mathlib.Omega.{arith}
use lib.ListN.{length, get_or, set}
use lib.Seq.{get_or-set_same, get_or-set_other}
use lib.Dec.{eqb}
use lib.Bits.{bit_or, bit_xor}
use lib.Count.{count_trailing_zeros}
use borrow.Author.Tests.{eqb-true, eqb-false}
use Rattle.std.proofs.lemmas.Bool.{cases_Bool}
use Rattle.members.specs.Members.{has_bit, is_in, with_number, without_member, NoneBelow, LeastAt}
use Rattle.members.proofs.Bitwise.{one_shifted, or_sets, or_keeps, xor_clears, xor_keeps, zero_has, trailing_lowest}

module _ (cover : List ℕ) (i : ℕ) (low : i < 4096) (long : 64 ≤ length cover) where
  -- the word of a number that stands in the same word, and in another
  same_word : (v j : ℕ) → j / 64 ≡ i / 64 → get_or (set cover (i / 64) v) (j / 64) 0 ≡ v
  same_word v j e = rw e (get_or-set_same cover (i / 64) v 0 (omega arith))

  other_word : (v j : ℕ) → (j / 64 ≡ i / 64 → ⊥) → get_or (set cover (i / 64) v) (j / 64) 0 ≡ get_or cover (j / 64) 0
  other_word v j apart = get_or-set_other cover (i / 64) (j / 64) v 0 apart

  pub with_has : is_in (with_number cover i) i ≡ true
  unfolding is_in with_number
  with_has =
      let word = get_or cover (i / 64) 0 in
      ap (λ (w : ℕ). has_bit w (i % 64)) (same_word (bit_or word (2 ^ (i % 64))) i refl) ∙ or_sets (i % 64) word

  pub with_keeps : (j : ℕ) → is_in cover j ≡ true → is_in (with_number cover i) j ≡ true
  unfolding is_in with_number
  with_keeps j h =
      let word = get_or cover (i / 64) 0 in
      ⊎_elim
      (λ (e : eqb (j / 64) (i / 64) ≡ true).
      let same = eqb-true (j / 64) (i / 64) e in
      ap (λ (w : ℕ). has_bit w (j % 64)) (same_word (bit_or word (2 ^ (i % 64))) j same)
      ∙ or_keeps (i % 64) (j % 64) word (ap (λ (k : ℕ). has_bit (get_or cover k 0) (j % 64)) (sym same) ∙ h))
      (λ (e : eqb (j / 64) (i / 64) ≡ false).
      ap (λ (w : ℕ). has_bit w (j % 64)) (other_word (bit_or word (2 ^ (i % 64))) j (eqb-false (j / 64) (i / 64) e)) ∙ h)
      (cases_Bool (eqb (j / 64) (i / 64)))

  pub without_clears : is_in cover i ≡ true → is_in (without_member cover i) i ≡ false
  unfolding is_in without_member
  without_clears h =
      let word = get_or cover (i / 64) 0 in
      ap (λ (w : ℕ). has_bit w (i % 64)) (same_word (bit_xor word (2 ^ (i % 64))) i refl) ∙ xor_clears (i % 64) word h

  pub without_keeps : (j : ℕ) → (j ≡ i → ⊥) → is_in (without_member cover i) j ≡ is_in cover j
  unfolding is_in without_member
  without_keeps j apart =
      let word = get_or cover (i / 64) 0 in
      ⊎_elim
      (λ (e : eqb (j / 64) (i / 64) ≡ true).
      let same = eqb-true (j / 64) (i / 64) e in
      ap (λ (w : ℕ). has_bit w (j % 64)) (same_word (bit_xor word (2 ^ (i % 64))) j same)
      ∙ (xor_keeps (i % 64) (j % 64) word (λ bits. apart (omega arith))
      ∙ ap (λ (k : ℕ). has_bit (get_or cover k 0) (j % 64)) (sym same)))
      (λ (e : eqb (j / 64) (i / 64) ≡ false).
      ap (λ (w : ℕ). has_bit w (j % 64)) (other_word (bit_xor word (2 ^ (i % 64))) j (eqb-false (j / 64) (i / 64) e)))
      (cases_Bool (eqb (j / 64) (i / 64)))

-- what the code stores is the set with the number put in, and with the member taken out
pub put_in : (cover : List ℕ) (i : ℕ)
    → set cover (i / 64) (bit_or (get_or cover (i / 64) 0) ((1 * 2 ^ (i % 64)) % 2 ^ 64)) ≡ with_number cover i
unfolding with_number
put_in cover i = ap (λ (bit : ℕ). set cover (i / 64) (bit_or (get_or cover (i / 64) 0) bit)) (one_shifted (i % 64) (omega arith))

pub taken_out : (cover : List ℕ) (i : ℕ)
    → set cover (i / 64) (bit_xor (get_or cover (i / 64) 0) ((1 * 2 ^ (i % 64)) % 2 ^ 64)) ≡ without_member cover i
unfolding without_member
taken_out cover i = ap (λ (bit : ℕ). set cover (i / 64) (bit_xor (get_or cover (i / 64) 0) bit)) (one_shifted (i % 64) (omega arith))

-- the words before a place have no member
module _ (cover : List ℕ) (at : ℕ) (none : NoneBelow cover (at * 64)) where
  in_word : (i : ℕ) → i / 64 ≡ at → is_in cover i ≡ has_bit (get_or cover at 0) (i % 64)
  unfolding is_in
  in_word i e = ap (λ (k : ℕ). has_bit (get_or cover k 0) (i % 64)) e

  pub search_goes_on : get_or cover at 0 ≡ 0 → NoneBelow cover ((at + 1) * 64)
  search_goes_on empty i low =
      ⊎_elim
      (λ (e : eqb (i / 64) at ≡ true).
      in_word i (eqb-true (i / 64) at e) ∙ (ap (λ (w : ℕ). has_bit w (i % 64)) empty ∙ zero_has (i % 64)))
      (λ (e : eqb (i / 64) at ≡ false). none i (let apart = eqb-false (i / 64) at e in omega (arith, apart)))
      (cases_Bool (eqb (i / 64) at))

  pub search_finds : at < 64 → (get_or cover at 0 ≡ 0 → ⊥) → get_or cover at 0 < 2 ^ 64
      → LeastAt cover (at * 64 + count_trailing_zeros 64 (get_or cover at 0))
  search_finds inside some fits =
      let word = get_or cover at 0 in
      let z = count_trailing_zeros 64 word in
      let lowest = trailing_lowest 64 word some fits in
      let less : z < 64 = lowest.inside in
      record {
        inside = omega arith;
        member =
            in_word (at * 64 + z) (omega arith) ∙ (ap (has_bit word) (omega arith) ∙ lowest.set_there);
        before =
            λ i low.
            ⊎_elim
            (λ (e : eqb (i / 64) at ≡ true).
            let same = eqb-true (i / 64) at e in
            in_word i same ∙ lowest.none_below (i % 64) (omega arith))
            (λ (e : eqb (i / 64) at ≡ false). none i (let apart = eqb-false (i / 64) at e in omega (arith, apart)))
            (cases_Bool (eqb (i / 64) at));
      }
