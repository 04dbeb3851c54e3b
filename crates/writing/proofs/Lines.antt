-- The lines that are printed: their parts put one after the other, and refusals as they are printed.
-- Assumes nothing.
use Prim.Native.Nat.{ℕ, ◌+◌, ◌≤◌}
use native.Mathlib.Omega.{arith}
use mathlib.Core.Path.{◌≡◌, refl}
use mathlib.Core.Bool.{true, false}
use mathlib.Core.List.{List, [], ◌∷◌}
use mathlib.Core.Logic.{⊎_elim}
use lib.ListN.{length, length-append}
use lib.Dec.{eqb}
use Rattle.std.proofs.lemmas.Bool.{cases_Bool}
use Rattle.infon.specs.Bytes.{bytes, space, line_feed}
use Rattle.writing.specs.Placed.{Put, Prints}
use Rattle.writing.specs.Texts.{digits_of, decimal_of, word_of, line_of, printed_refusal}
use Rattle.writing.proofs.Placing.{put_room, put_on, put_prints}
use Rattle.writing.proofs.Decimal.{length_decimal}

pub length_word : (answer : ℕ) → length (word_of answer) ≤ 4
unfolding word_of bytes
length_word answer =
    ⊎_elim
    (λ (h : eqb answer 1 ≡ true). rw h (omega arith))
    (λ (h : eqb answer 1 ≡ false).
    rw h (⊎_elim (λ (g : eqb answer 0 ≡ true). rw g (omega arith)) (λ (g : eqb answer 0 ≡ false). rw g (omega arith)) (cases_Bool (eqb answer 0))))
    (cases_Bool (eqb answer 1))

pub length_line : (count answer : ℕ) (behind : List ℕ) → length (line_of count answer behind) ≤ 32 + length behind
unfolding line_of
length_line count answer behind = simp length-append (omega (arith, length_decimal count, length_word answer))

-- a line is its count, a space, its word, what stands behind that and a line feed, one after the other
pub put_whole_line : (count answer : ℕ) (behind : List ℕ) {at : ℕ} {b₀ b₁ b₂ b₃ b₄ b₅ : List ℕ} {r₁ r₂ r₃ r₄ r₅ : ℕ} → at + 32 + length behind ≤ length b₀
    → Put (decimal_of count) at b₀ r₁ b₁ → Put (32 ∷ []) r₁ b₁ r₂ b₂ → Put (word_of answer) r₂ b₂ r₃ b₃ → Put behind r₃ b₃ r₄ b₄ → Put (10 ∷ []) r₄ b₄ r₅ b₅
    → Put (line_of count answer behind) at b₀ r₅ b₅
unfolding line_of space line_feed
put_whole_line count answer behind room p q s t u =
    let room₁ = put_room p 20 (12 + length behind) (length_decimal count) (omega (arith, room)) in
    let room₂ = put_room q 1 (11 + length behind) (omega arith) (omega (arith, room₁)) in
    let room₃ = put_room s 4 (7 + length behind) (length_word answer) (omega (arith, room₂)) in
    put_on p (put_on q (put_on s (put_on t u (omega (arith, room₃))) (omega (arith, length_word answer, room₂))) (omega (arith, room₁))) (omega (arith, length_decimal count, room))

-- a refusal's line is the word, the code and the place, one behind the other
pub put_refusal : (code place : ℕ) {b₀ b₁ b₂ b₃ b₄ b₅ : List ℕ} {r₁ r₂ r₃ r₄ r₅ : ℕ} → 64 ≤ length b₀
    → Put (bytes "refused ") 0 b₀ r₁ b₁ → Put (decimal_of code) r₁ b₁ r₂ b₂ → Put (32 ∷ []) r₂ b₂ r₃ b₃ → Put (decimal_of place) r₃ b₃ r₄ b₄
    → Put (10 ∷ []) r₄ b₄ r₅ b₅ → Prints (printed_refusal code place) b₀ r₅ b₅
unfolding printed_refusal bytes space line_feed
put_refusal code place room p q s t u =
    let room₁ = put_room p 8 56 (omega arith) room in
    let room₂ = put_room q 20 36 (length_decimal code) room₁ in
    let room₃ = put_room s 1 35 (omega arith) room₂ in
    put_prints
    (put_on p
    (put_on q (put_on s (put_on t u (omega (arith, length_decimal place, room₃))) (omega (arith, room₂))) (omega (arith, length_decimal code, room₁)))
    (omega arith))
    (simp length-append (omega (arith, length_decimal code, length_decimal place)))

-- "32,769 get 1"; "code 2, place 4"
pub refusal_printed : (printed_refusal 1 0 ≡ bytes "refused 1 0\n") × (printed_refusal 2 4 ≡ bytes "refused 2 4\n") × (printed_refusal 5 32768 ≡ bytes "refused 5 32768\n")
unfolding printed_refusal decimal_of digits_of bytes space line_feed
refusal_printed = (refl, refl, refl)
