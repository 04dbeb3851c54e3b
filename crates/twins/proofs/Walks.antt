-- The loops that compare, a turn each.
-- Assumes nothing.
use Prim.Native.Nat.{ℕ, zero, suc, ◌+◌, ◌≤◌, ◌<◌}
use native.Mathlib.Numerals.{add-one}
use native.Mathlib.Omega.{arith}
use mathlib.Core.Path.{◌≡◌, sym, ◌∙◌, ap, ap₂}
use mathlib.Core.Bool.{Bool, true, false, ◌&&◌}
use mathlib.Core.List.{List, [], ◌∷◌}
use lib.ListN.{length, get_or, take, drop, length-take, drop_of_length-le}
use native.Mathlib.Nat.{zero-add}
use mathlib.Core.Logic.{⊎_elim}
use Rattle.std.specs.Prelude.{Option, find}
use Rattle.std.specs.List.{range_with_len}
use Rattle.std.specs.Option.{unwrap_or}
use Rattle.std.proofs.lemmas.Bool.{cases_Bool as decided}
use lib.Seq.{drop-cons, get_or-take, length-take-le}
use Rattle.infon.specs.Bytes.{alike}
use Rattle.prefix.specs.declared.Place.{Place}
use Rattle.prefix.specs.Places.{EachPlace}
use Rattle.twins.specs.Twins.{first_from, principal_text, same_places}

-- Places, two prefixes side by side.
module _ (file t : List ℕ) (mine others : List Place) (count k : ℕ) (d : Place) (fits_p : count ≤ length mine) (fitsQ : count ≤ length others) where
  abbrev Ahead : ℕ → Bool
  Ahead j = same_places file t (drop j (take count mine)) (drop j (take count others))

  one_ahead : (ps : List Place) → count ≤ length ps → k < count → drop k (take count ps) ≡ get_or ps k d ∷ drop (k + 1) (take count ps)
  one_ahead ps fits h =
      drop-cons (take count ps) k d (omega (arith, length-take-le count ps fits))
      ∙ ap₂ (λ (q : Place) (j : ℕ). q ∷ drop j (take count ps)) (get_or-take count ps k d h) (sym (add-one k))

  places_step : k < count → Ahead k
      ≡ alike (principal_text file t (get_or mine k d).node) (principal_text file t (get_or others k d).node) && Ahead (k + 1)
  unfolding same_places
  places_step h = ap₂ (same_places file t) (one_ahead mine fits_p h) (one_ahead others fitsQ h)

  pub places_turn : k < count → alike (principal_text file t (get_or mine k d).node) (principal_text file t (get_or others k d).node) ≡ true
      → Ahead k ≡ Ahead (k + 1)
  places_turn h e = places_step h ∙ ap (λ (b : Bool). b && Ahead (k + 1)) e

  pub places_differ : k < count → alike (principal_text file t (get_or mine k d).node) (principal_text file t (get_or others k d).node) ≡ false
      → Ahead k ≡ false
  places_differ h e = places_step h ∙ ap (λ (b : Bool). b && Ahead (k + 1)) e

  pub places_over : count ≤ k → Ahead k ≡ true
  unfolding same_places
  places_over h = ap₂ (same_places file t) (none mine) (none others)
    where
      none : (ps : List Place) → drop k (take count ps) ≡ []
      none ps = drop_of_length-le (take count ps) {i = k} (rw (length-take count ps) (omega arith))

-- what holds of every place holds of one
pub each_place : (P : ℕ → Type 0) (ps : List Place) (count k : ℕ) (d : Place) → count ≤ length ps → k < count
    → EachPlace P (take count ps) → P (get_or ps k d).node
each_place P [] count k d fits h each = absurd (omega arith)
each_place P (q ∷ ps) zero k d fits h each = absurd (omega arith)
each_place P (q ∷ ps) (suc count) zero d fits h each = each.0
each_place P (q ∷ ps) (suc count) (suc k) d fits h each = each_place P ps count k d (omega arith) (omega arith) each.1

-- The first that passes, by the library's search through so many numbers.
module _ (test : ℕ → Bool) where
  first_searched : (k j : ℕ) → unwrap_or (find test (range_with_len j k)) (j + k) ≡ first_from test j k
  unfolding first_from
  first_searched zero j = omega arith
  first_searched (suc k) j =
      ⊎_elim (λ (here : test j ≡ true). rw here)
      (λ (later : test j ≡ false).
      let e : j + suc k ≡ suc j + k = omega arith in
      rw (later, e, add-one j) (first_searched k (suc j)))
      (decided (test j))

  pub twin_searched : (i : ℕ) {r : ℕ} {found : Option ℕ} → r ≡ unwrap_or found i → found ≡ find test (range_with_len 0 i) → r ≡ first_from test 0 i
  twin_searched i e found = e ∙ ap (λ (o : Option ℕ). unwrap_or o i) found ∙ rw (zero-add i) at (first_searched i 0)
