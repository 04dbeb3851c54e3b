-- Filling the front of a buffer with the answers to a row of queries, one after the other.
-- Assumes nothing.
use Prim.Native.Nat.{ℕ, suc, ◌+◌, ◌≤◌, ◌<◌}
use native.Mathlib.Numerals.{add-one}
use native.Mathlib.Omega.{arith}
use mathlib.Core.Path.{◌≡◌, refl, ◌∙◌, ap}
use mathlib.Core.List.{List, [], ◌∷◌, ◌++◌, map, map-append, append_assoc}
use lib.ListN.{length, take, drop, get_or, set, length-map}
use lib.Seq.{length-take-le, take-suc, take_all, drop-cons, set_at}
use Rattle.infon.specs.Run.{written}

module _ (f : ℕ → ℕ) (queries before : List ℕ) where
  -- what the buffer holds after the first i answers
  unfoldable filled : ℕ → List ℕ
  filled i = map f (take i queries) ++ drop i before

  filled_written : (i : ℕ) → i ≤ length queries → written before 0 (map f (take i queries)) ≡ filled i
  unfolding written filled
  filled_written i low =
      let long : 0 + length (map f (take i queries)) ≡ i = ap (λ (n : ℕ). 0 + n) (length-map (take i queries) f ∙ length-take-le i queries low) ∙ omega arith in
      ap (λ (n : ℕ). map f (take i queries) ++ drop n before) long

  pub begin : before ≡ written before 0 (map f (take 0 queries))
  unfolding written
  begin = refl

  pub turn : (i : ℕ) {answers : List ℕ} {byte : ℕ} → length queries ≤ length before → i < length queries
      → answers ≡ written before 0 (map f (take i queries)) → byte ≡ f (get_or queries i 0)
      → set answers i byte ≡ written before 0 (map f (take (i + 1) queries))
  unfolding filled
  turn i {answers} {byte} room low holds is =
      let front = map f (take i queries) in
      let size : length front ≡ i = length-map (take i queries) f ∙ length-take-le i queries (omega arith) in
      let now = f (get_or queries i 0) in
      let next : map f (take (suc i) queries) ≡ front ++ (now ∷ []) =
      ap (map f) (take-suc queries i 0 low) ∙ map-append f (take i queries) (get_or queries i 0 ∷ []) in
      let fits : i < length before = omega arith in
      rw (holds, filled_written i (omega arith), is, drop-cons before i 0 fits, set_at front (get_or before i 0) (drop (suc i) before) now i size, add-one i, filled_written (suc i) low, next, append_assoc)

  pub over : (i : ℕ) {answers : List ℕ} → length queries ≤ i → answers ≡ written before 0 (map f (take i queries))
      → answers ≡ written before 0 (map f queries)
  over i all holds = rw take_all at holds
