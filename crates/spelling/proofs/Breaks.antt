-- Where a token ends: the bytes before the first break, and before the first byte that passes any test, counted from the left.
-- Assumes nothing.
use Prim.Native.Nat.{ℕ, ◌+◌, ◌-◌, ◌<◌, ◌≤◌}
use native.Mathlib.Omega.{arith}
use mathlib.Core.Path.{◌≡◌, refl, sym, ◌∙◌, ap}
use mathlib.Core.Bool.{Bool, true, false, not, ◌||◌}
use mathlib.Core.List.{List, ◌∷◌}
use lib.ListN.{length, get_or, take, drop, drop_of_length-le, length-drop}
use lib.Seq.{take_all, get_or-drop}
use native.Mathlib.Nat.{add-zero}
use Rattle.std.proofs.lemmas.List.Sums.{prefix_len-le-length, prefix_len_stops}
use Rattle.std.proofs.lemmas.List.Folds.{length-prefix_len}
use Rattle.std.specs.Prelude.{None, take_while}
use Rattle.std.specs.List.{position_or_len}
use Rattle.infon.specs.Bytes.{bytes, alike, every}
use Rattle.infon.specs.Formula.{is_name}
use Rattle.spelling.specs.Token.{is_break, word_length, word_at}
use Rattle.spelling.specs.Parsing.{parsed_at}

-- The bytes before the first that passes a test.
module _ (test : ℕ → Bool) where
  -- they are no more than the text has,
  pub until_fits : (text : List ℕ) (at : ℕ) → at ≤ length text → at + position_or_len test (drop at text) ≤ length text
  until_fits text at h = omega (arith, prefix_len-le-length (λ b. not (test b)) (drop at text), length-drop at text)

  -- and the byte behind them passes
  pub until_passes : (s : List ℕ) (b : ℕ) (rest : List ℕ) → drop (position_or_len test s) s ≡ b ∷ rest → test b ≡ true
  until_passes s b rest h =
      let n = position_or_len test s in
      let within : n < length s = omega (arith, ap length h, length-drop n s) in
      let here : get_or s n 0 ≡ b = ap (λ j. get_or s j 0) (sym (add-zero n)) ∙ sym (get_or-drop n s 0 0) ∙ ap (λ t. get_or t 0 0) h in
      ap test (sym here) ∙ passed (test (get_or s n 0)) (prefix_len_stops (λ c. not (test c)) s 0 within)
    where
      passed : (t : Bool) → not t ≡ false → t ≡ true
      passed true e = refl
      passed false e = sym e

module _ (text : List ℕ) (at : ℕ) where
  pub word_at_length : length (word_at text at) ≡ word_length (drop at text)
  unfolding word_at
  word_at_length = length-prefix_len (λ b. not (is_break b)) (drop at text)

  -- what stands before the first break in a part that goes to the text's end
  module _ (fits : at ≤ length text) (n : ℕ) (e : n ≡ length (take_while (λ b. not (is_break b)) (take (length text - at) (drop at text)))) where
    whole : take (length text - at) (drop at text) ≡ drop at text
    whole = take_all (length text - at) (drop at text) (omega (arith, length-drop at text))

    counted : n ≡ word_length (drop at text)
    counted = e ∙ ap (λ s. length (take_while (λ b. not (is_break b)) s)) whole ∙ length-prefix_len (λ b. not (is_break b)) (drop at text)

    pub part_read : take n (take (length text - at) (drop at text)) ≡ word_at text at
    unfolding word_at
    part_read = rw (whole, counted)

  -- behind the text's end stands nothing
  pub parsed_none : length text ≤ at → parsed_at text at ≡ None
  unfolding parsed_at word_at alike bytes is_name every
  parsed_none h = rw (drop_of_length-le text h)

-- A test or nothing is the test.
pub or_false : (t : Bool) → t || false ≡ t
or_false true = refl
or_false false = refl
