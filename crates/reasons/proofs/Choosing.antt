-- Going down a journal's records: what is left to be looked at makes the whole.
-- Assumes nothing.
use Prim.Native.Nat.{ℕ, zero, suc, ◌+◌, ◌-◌, ◌≤◌, ◌<◌}
use native.Mathlib.Numerals.{unary_clauses}
use native.Mathlib.Nat.{not-suc-le-zero, zero-add, add-zero, add_assoc}
use native.Mathlib.Omega.{arith}
use mathlib.Core.Path.{◌≡◌, refl, sym, ◌∙◌}
use Rattle.std.specs.Prelude.{Option, None, Some}
use mathlib.Core.List.{List}
use lib.ListN.{length}
use Rattle.infon.specs.declared.Record.{Record}
use Rattle.reasons.specs.Wanted.{wish, wish_for, one_of, wanted_at, swept_down, found_down, Chooses}

one_at_most : (o : Option Record) → length (one_of o) ≤ 1
unfolding one_of
one_at_most None = omega arith
one_at_most (Some r) = omega arith

found_few : (journal : List ℕ) (i : ℕ) (wanted : List ℕ) → found_down journal i wanted ≤ i
unfolding found_down
found_few journal zero wanted = omega arith
found_few journal (suc i) wanted =
    let one = one_at_most (wanted_at journal wanted i) in
    let rest = found_few journal i (wish_for (wanted_at journal wanted i) wanted) in
    omega arith

-- After some turns of the loop: what the first i records still give, with what was found, is what all of them give.
pub record Choosing (journal : List ℕ) (kept : ℕ) (wanted₀ wanted : List ℕ) (found i : ℕ) : Type 0 where
  pub within : i ≤ kept
  pub wishes : swept_down journal i wanted ≡ swept_down journal kept wanted₀
  pub counts : found + found_down journal i wanted ≡ found_down journal kept wanted₀

pub choosing_begins : (journal : List ℕ) (kept : ℕ) (wanted : List ℕ) → Choosing journal kept wanted wanted 0 kept
choosing_begins journal kept wanted = record { within = omega arith; wishes = refl; counts = zero-add (found_down journal kept wanted) }

-- looking at one record more
choosing_turns : {journal : List ℕ} {kept : ℕ} {wanted₀ wanted : List ℕ} {found : ℕ} (i : ℕ) {o : Option Record} → Choosing journal kept wanted₀ wanted found i
    → 0 < i → o ≡ wanted_at journal wanted (i - 1)
    → Choosing journal kept wanted₀ (wish_for o wanted) (found + length (one_of o)) (i - 1)
unfolding swept_down found_down
choosing_turns zero inv low here = absurd (not-suc-le-zero low)
choosing_turns (suc i) inv low here =
    let told = simp unary_clauses at here in
    simp unary_clauses
    (record {
      within = let before = inv.within in omega arith;
      wishes = rw told inv.wishes;
      counts = rw told (add_assoc _ _ _ ∙ inv.counts);
    })

module _ {journal : List ℕ} {kept : ℕ} {wanted₀ wanted : List ℕ} {found i : ℕ} (inv : Choosing journal kept wanted₀ wanted found i) (low : 0 < i) where
  pub choosing_none : None ≡ wanted_at journal wanted (i - 1) → Choosing journal kept wanted₀ wanted found (i - 1)
  unfolding wish_for one_of
  choosing_none here = rw add-zero at (choosing_turns i inv low here)

  pub choosing_one : {r : Record} {after : List ℕ} → Some r ≡ wanted_at journal wanted (i - 1) → after ≡ wish r.way wanted
      → Choosing journal kept wanted₀ after (found + 1) (i - 1)
  unfolding wish_for one_of
  choosing_one here wished = rw wished (choosing_turns i inv low here)

  pub found_fits : {r : Record} → Some r ≡ wanted_at journal wanted (i - 1) → found + 1 ≤ kept
  found_fits here =
      let few = found_few journal kept wanted₀ in
      let next = (choosing_one here refl).counts in
      omega arith

pub choosing_over : {journal : List ℕ} {kept : ℕ} {wanted₀ wanted : List ℕ} {found : ℕ} (i : ℕ) → Choosing journal kept wanted₀ wanted found i → i ≤ 0
    → Chooses journal kept wanted₀ found wanted
unfolding swept_down found_down
choosing_over {found = found} zero inv low = record { counted = sym (add-zero found) ∙ inv.counts; wishes = inv.wishes }
choosing_over (suc i) inv low = absurd (not-suc-le-zero low)

pub chooses_few : {journal : List ℕ} {kept : ℕ} {wanted : List ℕ} {found : ℕ} {after : List ℕ} → Chooses journal kept wanted found after → found ≤ kept
chooses_few {journal} {kept} {wanted} chooses = let few = found_few journal kept wanted in let told = chooses.counted in omega arith
