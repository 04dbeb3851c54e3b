-- The least way to a formula, rule by rule.
-- Assumes nothing.
use Prim.Native.Nat.{ℕ, ◌<◌}
use mathlib.Core.Path.{◌≡◌, refl, sym, ◌∙◌}
use mathlib.Core.Bool.{Bool, true, false, ◌&&◌}
use Rattle.std.specs.Prelude.{Option, None, Some}
use mathlib.Core.List.{List, [], ◌∷◌, ◌++◌, map}
use lib.Dec.{ltb}
use borrow.Author.Tests.{eq-eqb, ne_eqb, lt-ltb}
use Rattle.infon.specs.declared.Way.{Way}
use Rattle.infon.specs.declared.Way.TheVariants.{Hypothesis, Given, Weaken, Left, Right, Both, Apply, Attach}
use Rattle.infon.specs.Bytes.{first_of}
use Rattle.infon.specs.Journal.{numbers_from, all_ways}
use Rattle.formulas.specs.Table.{cell}
use Rattle.formulas.specs.Tests.{gives_in, is_marked, premises_marked, leads_to, good_in}
use Rattle.ways.specs.Search.{least_among, pairs_of, least_way_in, due_way_in}
use Rattle.ways.proofs.Firsts.{all_fail, alike_first, append_found, append_none}

module _ (t : List ℕ) (n : ℕ) (marks : List ℕ) (f : ℕ) where
  -- the ways of one rule and then others
  pub found : (xs ys : List Way) {way : Way} → Some way ≡ least_among xs t n marks f → Some way ≡ least_among (xs ++ ys) t n marks f
  unfolding least_among
  found xs ys e = sym (append_found (leads_to t n marks f) xs ys (sym e))

  pub past : (xs ys : List Way) {r : Option Way} → None ≡ least_among xs t n marks f → r ≡ least_among ys t n marks f
      → r ≡ least_among (xs ++ ys) t n marks f
  unfolding least_among
  past xs ys none later = later ∙ sym (append_none (leads_to t n marks f) xs ys (sym none))

  -- rules 1 and 2
  pub by_hypothesis : {hyp : ℕ} → hyp ≡ cell t 5 f → hyp ≡ 1 → Some Hypothesis ≡ least_among (Hypothesis ∷ (Given ∷ [])) t n marks f
  unfolding least_among leads_to premises_marked gives_in first_of
  by_hypothesis e h = rw (eq-eqb (cell t 5 f) 1 (sym e ∙ h))

  pub by_given : {hyp kind : ℕ} → hyp ≡ cell t 5 f → (hyp ≡ 1 → ⊥) → kind ≡ cell t 0 f → kind ≡ 0
      → Some Given ≡ least_among (Hypothesis ∷ (Given ∷ [])) t n marks f
  unfolding least_among leads_to premises_marked gives_in first_of
  by_given e h d k = rw (ne_eqb (cell t 5 f) 1 (λ same. h (e ∙ same)), eq-eqb (cell t 0 f) 0 (sym d ∙ k))

  pub not_at_once : {hyp kind : ℕ} → hyp ≡ cell t 5 f → (hyp ≡ 1 → ⊥) → kind ≡ cell t 0 f → (kind ≡ 0 → ⊥)
      → None ≡ least_among (Hypothesis ∷ (Given ∷ [])) t n marks f
  unfolding least_among leads_to premises_marked gives_in first_of
  not_at_once e h d k = rw (ne_eqb (cell t 5 f) 1 (λ same. h (e ∙ same)), ne_eqb (cell t 0 f) 0 (λ same. k (d ∙ same)))

  -- all rules, one after the other
  abbrev in_order : List ℕ → List Way
  in_order ns =
      (Hypothesis ∷ (Given ∷ []))
      ++ (map Weaken ns ++ (map Left ns ++ (map Right ns ++ (pairs_of Both n ++ (pairs_of Apply n ++ map Attach ns)))))

  pub all_rules : {r : Option Way} → r ≡ least_among (in_order (numbers_from 0 n)) t n marks f → r ≡ least_way_in t n marks f
  unfolding least_way_in all_ways pairs_of
  all_rules e = e

  -- only what is not marked is due
  good_unmarked : (way : Way) → f < n → is_marked n marks f ≡ false
      → good_in t n marks (record { formula = f; way = way }) ≡ leads_to t n marks f way
  unfolding good_in
  good_unmarked way inside unmarked = rw (lt-ltb f n inside, unmarked)

  good_marked : (way : Way) → is_marked n marks f ≡ true → good_in t n marks (record { formula = f; way = way }) ≡ false
  unfolding good_in
  good_marked way marked = rw marked (neither (ltb f n))
    where
      neither : (b : Bool) → b && false && leads_to t n marks f way ≡ false
      neither true = refl
      neither false = refl

  pub due_marked : is_marked n marks f ≡ true → None ≡ due_way_in t n marks f
  unfolding due_way_in
  due_marked marked =
      sym
      (all_fail (λ (way : Way). good_in t n marks (record { formula = f; way = way })) (all_ways (numbers_from 0 n))
      (λ way. good_marked way marked))

  pub due_open : {r : Option Way} → f < n → is_marked n marks f ≡ false → r ≡ least_way_in t n marks f → r ≡ due_way_in t n marks f
  unfolding due_way_in least_way_in least_among
  due_open inside unmarked e =
      e
      ∙ sym
      (alike_first (λ (way : Way). good_in t n marks (record { formula = f; way = way })) (leads_to t n marks f)
      (all_ways (numbers_from 0 n)) (λ way. good_unmarked way inside unmarked))
