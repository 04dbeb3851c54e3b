-- Soundness: every record of a row of good records is for a derivable formula.
-- Assumes nothing.
use Prim.Native.Nat.{ℕ, ◌<◌}
use mathlib.Core.Path.{◌≡◌, refl, sym, subst}
use mathlib.Core.Logic.{⊎_elim}
use mathlib.Core.Bool.{true, false, ◌&&◌, false≢true}
use mathlib.Core.List.Memᴰ
use mathlib.Core.List.{List, [], ◌∷◌, ◌++◌, append-nil, append_assoc, reverse, Memᴰ}
use lib.ListN.{length}
use lib.Dec.{eqb}
use borrow.Author.Tests.{eq-eqb}
use Rattle.infon.specs.declared.Way.{Way}
use Rattle.infon.specs.declared.Way.TheVariants.{Hypothesis, Given, Weaken, Left, Right, Both, Apply, Attach}
use Rattle.infon.specs.declared.Record.{Record}
use Rattle.infon.specs.Formula.{Formula, True, and, implies, same}
use Rattle.infon.specs.Listing.{Prefix, wrap}
use Rattle.infon.specs.Calculus.{under, Derives, hypothesis, given, weaken, left, right, both, apply, attach}
use Rattle.infon.specs.Rules.{Shape, truth, primitive, conjunction, implication, shape_of, weakenings, is_truth, is_left, is_right, are_both, is_conclusion, is_condition, numbered, gives}
use Rattle.infon.specs.Journal.{is_recorded, premises_in, is_good}
use Rattle.std.proofs.lemmas.Bool.{and_parts}
use Rattle.infon.proofs.Rows.{witness_some_of}
use Rattle.infon.proofs.Same.{same_eq}
use Rattle.infon.proofs.Prefixes.{listed_mem, wrap_under_reverse, weaker_reverse, shape_truth, shape_conjunction, shape_implication, weakenings_weaker}
use Rattle.infon.proofs.Least.{PremisesBelow}
use Rattle.infon.proofs.Grown.{GoodRow, stop, more, good_parts, recorded_by}

-- what the tests of a rule find, where they pass
truth_found : (s : Shape) → is_truth s ≡ true → s ≡ truth
unfolding is_truth
truth_found truth h = refl
truth_found primitive h = absurd (false≢true h)
truth_found (conjunction l r) h = absurd (false≢true h)
truth_found (implication l r) h = absurd (false≢true h)

left_found : (x : Formula) (s : Shape) → is_left x s ≡ true → (y : Formula) × (s ≡ conjunction x y)
unfolding is_left
left_found x truth h = absurd (false≢true h)
left_found x primitive h = absurd (false≢true h)
left_found x (conjunction l r) h = (r, λ i. conjunction (sym (same_eq x l h) i) r)
left_found x (implication l r) h = absurd (false≢true h)

right_found : (y : Formula) (s : Shape) → is_right y s ≡ true → (x : Formula) × (s ≡ conjunction x y)
unfolding is_right
right_found y truth h = absurd (false≢true h)
right_found y primitive h = absurd (false≢true h)
right_found y (conjunction l r) h = (l, λ i. conjunction l (sym (same_eq y r h) i))
right_found y (implication l r) h = absurd (false≢true h)

upper_found : (y : Formula) (s : Shape) → is_conclusion y s ≡ true → (x : Formula) × (s ≡ implication x y)
unfolding is_conclusion
upper_found y truth h = absurd (false≢true h)
upper_found y primitive h = absurd (false≢true h)
upper_found y (conjunction l r) h = absurd (false≢true h)
upper_found y (implication l r) h = (l, λ i. implication l (sym (same_eq y r h) i))

both_found : (x y : Formula) (s : Shape) → are_both x y s ≡ true → s ≡ conjunction x y
unfolding are_both is_left is_right
both_found x y truth h = absurd (false≢true h)
both_found x y primitive h = absurd (false≢true h)
both_found x y (conjunction l r) h =
    let parts = and_parts (same x l) (same y r) h in
    λ i. conjunction (sym (same_eq x l parts.0) i) (sym (same_eq y r parts.1) i)
both_found x y (implication l r) h = absurd (false≢true h)

applied_found : (x y : Formula) (s : Shape) → is_condition x s && is_conclusion y s ≡ true → s ≡ implication x y
unfolding is_condition is_conclusion
applied_found x y truth h = absurd (false≢true h)
applied_found x y primitive h = absurd (false≢true h)
applied_found x y (conjunction l r) h = absurd (false≢true h)
applied_found x y (implication l r) h =
    let parts = and_parts (same x l) (same y r) h in
    λ i. implication (sym (same_eq x l parts.0) i) (sym (same_eq y r parts.1) i)

-- a record's number is recorded
pub by_recorded : (r : Record) (done : List Record) → Memᴰ r done → is_recorded r.formula done ≡ true
unfolding is_recorded
by_recorded r done m = witness_some_of (λ (s : Record). eqb r.formula s.formula) m (eq-eqb r.formula r.formula refl)

module _ (hyps fs : List Formula) where
  -- the rules of the calculus, with the row of quotations kept innermost first
  outer : (w : Prefix) (x : Formula) → Derives hyps (wrap w x) → Derives hyps (under (reverse w) x)
  outer w x d = subst (Derives hyps) (wrap_under_reverse w x) d

  inner : (w : Prefix) (x : Formula) → Derives hyps (under (reverse w) x) → Derives hyps (wrap w x)
  inner w x d = subst (Derives hyps) (sym (wrap_under_reverse w x)) d

  -- what a good record is
  pub record Good (done : List Record) (r : Record) : Type 0 where
    pub below : r.formula < length fs
    pub fresh : is_recorded r.formula done ≡ false
    pub premises : premises_in r.way done ≡ true
    pub follows : gives hyps fs r.way (numbered fs r.formula) ≡ true

  pub good_is : (done : List Record) (r : Record) → is_good hyps fs done r ≡ true → Good done r
  good_is done r h =
      let parts = good_parts hyps fs done r h in
      record { below = parts.0; fresh = parts.1; premises = parts.2; follows = parts.3 }

  -- records that are for listed, derivable formulas
  pub record Sound (done : List Record) : Type 0 where
    pub listed : (r : Record) → Memᴰ r done → r.formula < length fs
    pub derived : (r : Record) → Memᴰ r done → Derives hyps (numbered fs r.formula)

  pub premise_derived : (done : List Record) (p : ℕ) → Sound done → is_recorded p done ≡ true → Derives hyps (numbered fs p)
  premise_derived done p sound h =
      let found = recorded_by p done h in
      subst (λ (n : ℕ). Derives hyps (numbered fs n)) (sym found.1.1) (sound.derived found.0 found.1.0)

  -- the premises of a way that are recorded are numbers of the list
  premise_below : (done : List Record) (p : ℕ) → Sound done → is_recorded p done ≡ true → p < length fs
  premise_below done p sound h =
      let found = recorded_by p done h in
      subst (λ (n : ℕ). n < length fs) (sym found.1.1) (sound.listed found.0 found.1.0)

  pub premises_below : (done : List Record) (way : Way) → Sound done → premises_in way done ≡ true → PremisesBelow (length fs) way
  unfolding premises_in
  premises_below done Hypothesis sound h = tt
  premises_below done Given sound h = tt
  premises_below done (Weaken p) sound h = premise_below done p sound h
  premises_below done (Left p) sound h = premise_below done p sound h
  premises_below done (Right p) sound h = premise_below done p sound h
  premises_below done (Both p q) sound h =
      let both_in = and_parts (is_recorded p done) (is_recorded q done) h in
      (premise_below done p sound both_in.0, premise_below done q sound both_in.1)
  premises_below done (Apply p q) sound h =
      let both_in = and_parts (is_recorded p done) (is_recorded q done) h in
      (premise_below done p sound both_in.0, premise_below done q sound both_in.1)
  premises_below done (Attach p) sound h = premise_below done p sound h

  way_derives : (done : List Record) (way : Way) (z : Formula) → Sound done → premises_in way done ≡ true
      → gives hyps fs way z ≡ true → Derives hyps z
  unfolding premises_in gives
  way_derives done Hypothesis z sound prem h = hypothesis z (listed_mem z hyps h)
  way_derives done Given z sound prem h =
      let found = shape_truth z (truth_found (shape_of z) h) in
      subst (Derives hyps) (sym found.1) (inner found.0 True (given (reverse found.0)))
  way_derives done (Weaken p) z sound prem h =
      let found = weakenings_weaker (numbered fs p) (listed_mem z (weakenings (numbered fs p)) h) in
      let v = found.0 in
      let w = found.1.0 in
      let x = found.1.1.0 in
      let from = subst (Derives hyps) found.1.1.1.1.0 (premise_derived done p sound prem) in
      subst (Derives hyps) (sym found.1.1.1.1.1)
      (inner v x (weaken (reverse v) (reverse w) x (weaker_reverse found.1.1.1.0) (outer w x from)))
  way_derives done (Left p) z sound prem h =
      let shape = left_found z (shape_of (numbered fs p)) h in
      let found = shape_conjunction (numbered fs p) shape.1 in
      let w = found.0 in
      let x = found.1.0 in
      let y = found.1.1.0 in
      let from = subst (Derives hyps) found.1.1.1.0 (premise_derived done p sound prem) in
      subst (Derives hyps) (sym found.1.1.1.1.0) (inner w x (left (reverse w) x y (outer w (and x y) from)))
  way_derives done (Right p) z sound prem h =
      let shape = right_found z (shape_of (numbered fs p)) h in
      let found = shape_conjunction (numbered fs p) shape.1 in
      let w = found.0 in
      let x = found.1.0 in
      let y = found.1.1.0 in
      let from = subst (Derives hyps) found.1.1.1.0 (premise_derived done p sound prem) in
      subst (Derives hyps) (sym found.1.1.1.1.1) (inner w y (right (reverse w) x y (outer w (and x y) from)))
  way_derives done (Both p q) z sound prem h =
      let premises = and_parts (is_recorded p done) (is_recorded q done) prem in
      let found = shape_conjunction z (both_found (numbered fs p) (numbered fs q) (shape_of z) h) in
      let w = found.0 in
      let x = found.1.0 in
      let y = found.1.1.0 in
      let dx = subst (Derives hyps) found.1.1.1.1.0 (premise_derived done p sound premises.0) in
      let dy = subst (Derives hyps) found.1.1.1.1.1 (premise_derived done q sound premises.1) in
      subst (Derives hyps) (sym found.1.1.1.0) (inner w (and x y) (both (reverse w) x y (outer w x dx) (outer w y dy)))
  way_derives done (Apply p q) z sound prem h =
      let premises = and_parts (is_recorded p done) (is_recorded q done) prem in
      let found = shape_implication (numbered fs q) (applied_found (numbered fs p) z (shape_of (numbered fs q)) h) in
      let w = found.0 in
      let x = found.1.0 in
      let y = found.1.1.0 in
      let dx = subst (Derives hyps) found.1.1.1.1.0 (premise_derived done p sound premises.0) in
      let di = subst (Derives hyps) found.1.1.1.0 (premise_derived done q sound premises.1) in
      subst (Derives hyps) (sym found.1.1.1.1.1) (inner w y (apply (reverse w) x y (outer w x dx) (outer w (implies x y) di)))
  way_derives done (Attach p) z sound prem h =
      let shape = upper_found (numbered fs p) (shape_of z) h in
      let found = shape_implication z shape.1 in
      let w = found.0 in
      let x = found.1.0 in
      let y = found.1.1.0 in
      let dy = subst (Derives hyps) found.1.1.1.1.1 (premise_derived done p sound prem) in
      subst (Derives hyps) (sym found.1.1.1.0) (inner w (implies x y) (attach (reverse w) x y (outer w y dy)))

  pub good_derives : (done : List Record) (r : Record) → Sound done → is_good hyps fs done r ≡ true
      → Derives hyps (numbered fs r.formula)
  good_derives done r sound h =
      let good = good_is done r h in
      way_derives done r.way (numbered fs r.formula) sound good.premises good.follows

  pub sound_empty : Sound []
  sound_empty = record { listed = λ r m. absurd (Memᴰ.not-nil m); derived = λ r m. absurd (Memᴰ.not-nil m) }

  pub sound_more : (done : List Record) (r : Record) → Sound done → is_good hyps fs done r ≡ true → Sound (done ++ (r ∷ []))
  sound_more done r sound h =
      record {
        listed =
            λ s m.
            ⊎_elim
            (λ (i : Memᴰ s done). sound.listed s i)
            (λ (i : Memᴰ s (r ∷ [])).
            subst (λ (t : Record). t.formula < length fs) (sym (Memᴰ.eq_of_singleton i)) (good_is done r h).below)
            (Memᴰ.append_cases done m);
        derived =
            λ s m.
            ⊎_elim
            (λ (i : Memᴰ s done). sound.derived s i)
            (λ (i : Memᴰ s (r ∷ [])).
            subst (λ (t : Record). Derives hyps (numbered fs t.formula)) (sym (Memᴰ.eq_of_singleton i))
            (good_derives done r sound h))
            (Memᴰ.append_cases done m);
      }

  pub sound_row : (done rest : List Record) → Sound done → GoodRow hyps fs done rest → Sound (done ++ rest)
  sound_row done rest sound (stop d) = subst Sound (sym (append-nil done)) sound
  sound_row done rest sound (more d r later h row) =
      subst Sound (append_assoc done (r ∷ []) later) (sound_row (done ++ (r ∷ [])) later (sound_more done r sound h) row)
