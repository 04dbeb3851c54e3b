-- Rules 6, 7 and 8: the least way of each, a law for each branch of the code.
-- Assumes nothing.
use Prim.Native.Nat.{ℕ, suc, ◌≤◌, ◌<◌}
use mathlib.Core.Path.{◌≡◌, refl, sym, ◌∙◌, ap, subst}
use mathlib.Core.Logic.{◌⊎◌, inl, inr, ⊎_elim}
use mathlib.Core.Bool.{Bool, true, false, cond, ◌&&◌, false≢true}
use Rattle.std.proofs.lemmas.Bool.{and_parts, and_from, cases_Bool, false_from_ne_true}
use Rattle.std.specs.Prelude.{Option, None, Some, MatchOption, leb}
use mathlib.Core.List.{List, map}
use native.Mathlib.Nat.{eq-or-lt_of_le}
use native.Mathlib.Omega.{arith}
use lib.Dec.{ltb, eqb}
use borrow.Author.Tests.{eqb-true, eq-eqb, ne_eqb, ltb-true, ltb-false, leb-true, leb-false, le-leb, lt-leb}
use Rattle.infon.specs.declared.Way.{Way}
use Rattle.infon.specs.declared.Way.TheVariants.{Both, Apply, Attach}
use Rattle.infon.specs.Bytes.{first_of}
use Rattle.infon.specs.Journal.{numbers_from}
use Rattle.formulas.specs.Table.{cell}
use Rattle.formulas.specs.Tests.{is_marked, leads_to}
use Rattle.formulas.proofs.Given.{marked_below}
use Rattle.links.specs.Chains.{FirstFrom, FoundFrom}
use Rattle.ways.specs.Search.{least_among, pairs_of, condition_in, better_of}
use Rattle.ways.proofs.Firsts.{pair_found, pair_none, map_found, map_none, found_first, none_first_lem}
use Rattle.ways.proofs.Leads.{Parts, both_parts, both_leads, apply_parts, apply_leads, attach_parts, attach_leads, goes_on}

pub found_among : (ways : List Way) (t : List ℕ) (n : ℕ) (marks : List ℕ) (f : ℕ) {way : Way}
    → first_of (leads_to t n marks f) ways ≡ Some way → Some way ≡ least_among ways t n marks f
unfolding least_among
found_among ways t n marks f h = sym h

pub none_among : (ways : List Way) (t : List ℕ) (n : ℕ) (marks : List ℕ) (f : ℕ) → first_of (leads_to t n marks f) ways ≡ None
    → None ≡ least_among ways t n marks f
unfolding least_among
none_among ways t n marks f h = sym h

-- a number that was read is not another
other_kind : {kind cell k : ℕ} → kind ≡ cell → (kind ≡ k → ⊥) → cell ≡ k → ⊥
other_kind e h same = h (e ∙ same)

-- two marks that were tested together
marked_two : (n : ℕ) (marks : List ℕ) (p q : ℕ) {r : Bool} → r ≡ is_marked n marks p && is_marked n marks q → r ≡ true
    → (is_marked n marks p ≡ true) × (is_marked n marks q ≡ true)
marked_two n marks p q e h = and_parts (is_marked n marks p) (is_marked n marks q) (sym e ∙ h)

unmarked_two : (n : ℕ) (marks : List ℕ) (p q : ℕ) {r : Bool} → r ≡ is_marked n marks p && is_marked n marks q → r ≡ false
    → is_marked n marks p ≡ true → is_marked n marks q ≡ true → ⊥
unmarked_two n marks p q e h first second = false≢true (sym h ∙ (e ∙ and_from _ _ first second))

module _ (t : List ℕ) (n : ℕ) (marks : List ℕ) (f : ℕ) where
  -- rule 6
  pub both_found : {kind left right : ℕ} {r : Bool} → kind ≡ cell t 0 f → kind ≡ 2 → left ≡ cell t 2 f → right ≡ cell t 3 f
      → r ≡ is_marked n marks left && is_marked n marks right → r ≡ true
      → Some (Both left right) ≡ least_among (pairs_of Both n) t n marks f
  both_found {kind} {left} {right} k two l r tested passed =
      let marked = marked_two n marks left right tested passed in
      let parts : Parts t n marks f left right 2 f left right =
      record {
        first_marked = marked.0;
        second_marked = marked.1;
        is_kind = sym k ∙ two;
        left_is = sym l;
        right_is = sym r;
      } in
      found_among (pairs_of Both n) t n marks f
      (pair_found (leads_to t n marks f) Both n left right (marked_below n marks left marked.0)
      (marked_below n marks right marked.1) (both_leads t n marks f left right parts)
      (λ p q less. false_from_ne_true (leads_to t n marks f (Both p q)) (λ h. let e = (both_parts t n marks f p q h).left_is in omega arith))
      (λ q less.
      false_from_ne_true (leads_to t n marks f (Both left q)) (λ h. let e = (both_parts t n marks f left q h).right_is in omega arith)))

  pub both_unmarked : {left right : ℕ} {r : Bool} → left ≡ cell t 2 f → right ≡ cell t 3 f
      → r ≡ is_marked n marks left && is_marked n marks right → r ≡ false → None ≡ least_among (pairs_of Both n) t n marks f
  both_unmarked {left} {right} l r tested failed =
      none_among (pairs_of Both n) t n marks f
      (pair_none (leads_to t n marks f) Both n
      (λ p q.
      false_from_ne_true (leads_to t n marks f (Both p q))
      (λ h.
      let parts = both_parts t n marks f p q h in
      unmarked_two n marks left right tested failed
      (subst (λ (x : ℕ). is_marked n marks x ≡ true) (sym parts.left_is ∙ sym l) parts.first_marked)
      (subst (λ (x : ℕ). is_marked n marks x ≡ true) (sym parts.right_is ∙ sym r) parts.second_marked))))

  pub both_other : {kind : ℕ} → kind ≡ cell t 0 f → (kind ≡ 2 → ⊥) → None ≡ least_among (pairs_of Both n) t n marks f
  both_other k two =
      none_among (pairs_of Both n) t n marks f
      (pair_none (leads_to t n marks f) Both n
      (λ p q. false_from_ne_true (leads_to t n marks f (Both p q)) (λ h. other_kind k two (both_parts t n marks f p q h).is_kind)))

  -- rule 8
  pub attach_found : {kind p : ℕ} {r : Bool} → kind ≡ cell t 0 f → kind ≡ 3 → p ≡ cell t 3 f → r ≡ is_marked n marks p → r ≡ true
      → Some (Attach p) ≡ least_among (map Attach (numbers_from 0 n)) t n marks f
  attach_found {kind} {p} k three right tested passed =
      let marked = sym tested ∙ passed in
      found_among (map Attach (numbers_from 0 n)) t n marks f
      (map_found (leads_to t n marks f) Attach (numbers_from 0 n)
      (found_first (λ (q : ℕ). leads_to t n marks f (Attach q)) n p (marked_below n marks p marked)
      (attach_leads t n marks f p marked (sym k ∙ three) (sym right))
      (λ q less.
      false_from_ne_true (leads_to t n marks f (Attach q)) (λ h. let e = (attach_parts t n marks f q h).1.1 in omega arith))))

  pub attach_unmarked : {p : ℕ} {r : Bool} → p ≡ cell t 3 f → r ≡ is_marked n marks p → r ≡ false
      → None ≡ least_among (map Attach (numbers_from 0 n)) t n marks f
  attach_unmarked {p} right tested failed =
      none_among (map Attach (numbers_from 0 n)) t n marks f
      (map_none (leads_to t n marks f) Attach (numbers_from 0 n)
      (none_first_lem (λ (q : ℕ). leads_to t n marks f (Attach q)) n
      (λ q less.
      false_from_ne_true (leads_to t n marks f (Attach q))
      (λ h.
      let parts = attach_parts t n marks f q h in
      false≢true
      (sym failed
      ∙ (tested ∙ subst (λ (x : ℕ). is_marked n marks x ≡ true) (sym parts.1.1 ∙ sym right) parts.0))))))

  pub attach_other : {kind : ℕ} → kind ≡ cell t 0 f → (kind ≡ 3 → ⊥)
      → None ≡ least_among (map Attach (numbers_from 0 n)) t n marks f
  attach_other k three =
      none_among (map Attach (numbers_from 0 n)) t n marks f
      (map_none (leads_to t n marks f) Attach (numbers_from 0 n)
      (none_first_lem (λ (q : ℕ). leads_to t n marks f (Attach q)) n
      (λ q less.
      false_from_ne_true (leads_to t n marks f (Attach q)) (λ h. other_kind k three (attach_parts t n marks f q h).1.0))))

-- the condition that rule 7 finds at an implication
module _ (t : List ℕ) (n : ℕ) (marks : List ℕ) (q : ℕ) where
  pub condition_found : {p : ℕ} → is_marked n marks q ≡ true → cell t 0 q ≡ 3 → p ≡ cell t 2 q → is_marked n marks p ≡ true
      → Some p ≡ condition_in t n marks q
  unfolding condition_in
  condition_found {p} first kind left second =
      let there : is_marked n marks (cell t 2 q) ≡ true = subst (λ (x : ℕ). is_marked n marks x ≡ true) left second in
      rw (first, eq-eqb (cell t 0 q) 3 kind, there) (ap (λ (x : ℕ). Some x) left)

  pub condition_unmarked : {p : ℕ} → p ≡ cell t 2 q → is_marked n marks p ≡ false → None ≡ condition_in t n marks q
  unfolding condition_in
  condition_unmarked left second =
      let there : is_marked n marks (cell t 2 q) ≡ false = subst (λ (x : ℕ). is_marked n marks x ≡ false) left second in
      rw there (neither (is_marked n marks q && eqb (cell t 0 q) 3))
    where
      neither : (b : Bool) → None ≡ cond (b && false) (Some (cell t 2 q)) None
      neither true = refl
      neither false = refl

  pub condition_other : is_marked n marks q ≡ true → (cell t 0 q ≡ 3 → ⊥) → None ≡ condition_in t n marks q
  unfolding condition_in
  condition_other first kind = rw (first, ne_eqb (cell t 0 q) 3 kind)

  pub condition_free : is_marked n marks q ≡ false → None ≡ condition_in t n marks q
  unfolding condition_in
  condition_free first = rw first

  -- what a condition says of rule 7
  condition_only : (p f : ℕ) → leads_to t n marks f (Apply p q) ≡ true → condition_in t n marks q ≡ Some p
  unfolding condition_in
  condition_only p f h =
      let parts = apply_parts t n marks f p q h in
      let there : is_marked n marks (cell t 2 q) ≡ true =
      subst (λ (x : ℕ). is_marked n marks x ≡ true) (sym parts.left_is) parts.first_marked in
      rw (parts.second_marked, eq-eqb (cell t 0 q) 3 parts.is_kind, there) (ap (λ (x : ℕ). Some x) parts.left_is)

  condition_good : (p f : ℕ) → cell t 3 q ≡ f → Some p ≡ condition_in t n marks q → leads_to t n marks f (Apply p q) ≡ true
  unfolding condition_in
  condition_good p f right e =
      ⊎_elim
      (λ (h : is_marked n marks q && eqb (cell t 0 q) 3 && is_marked n marks (cell t 2 q) ≡ true).
      let outer = and_parts (is_marked n marks q && eqb (cell t 0 q) 3) (is_marked n marks (cell t 2 q)) h in
      let inner = and_parts (is_marked n marks q) (eqb (cell t 0 q) 3) outer.0 in
      let found : ◌≡◌ {A = Option ℕ} (Some p) (Some (cell t 2 q)) = rw h at e in
      let left : cell t 2 q ≡ p = cc in
      apply_leads t n marks f p q
      (record {
        first_marked = subst (λ (x : ℕ). is_marked n marks x ≡ true) left outer.1;
        second_marked = inner.0;
        is_kind = eqb-true (cell t 0 q) 3 inner.1;
        left_is = left;
        right_is = right;
      }))
      (λ (h : is_marked n marks q && eqb (cell t 0 q) 3 && is_marked n marks (cell t 2 q) ≡ false).
      absurd (let none : ◌≡◌ {A = Option ℕ} (Some p) None = rw h at e in let z : ◌≡◌ {A = ℕ} 0 1 = cc in omega arith))
      (cases_Bool (is_marked n marks q && eqb (cell t 0 q) 3 && is_marked n marks (cell t 2 q)))

-- The best pair of premises before q: it leads to f, and no pair that does comes before it.
pub record Pair (t : List ℕ) (n : ℕ) (marks : List ℕ) (f first second q : ℕ) : Type 0 where
  pub earlier : second < q
  pub good : leads_to t n marks f (Apply first second) ≡ true
  pub least : (p' q' : ℕ) → q' < q → leads_to t n marks f (Apply p' q') ≡ true → (first < p') ⊎ ((first ≡ p') × (second ≤ q'))

-- none before q
abbrev pub NoPair : List ℕ → ℕ → List ℕ → ℕ → ℕ → Type 0
NoPair t n marks f q = (p' q' : ℕ) → q' < q → leads_to t n marks f (Apply p' q') ≡ true → ⊥

abbrev pub Best : List ℕ → ℕ → List ℕ → ℕ → Option (ℕ × ℕ) → ℕ → Type 0
Best t n marks f None q = NoPair t n marks f q
Best t n marks f (Some (first, second)) q = Pair t n marks f first second q

-- The walk of rule 7 along the chain of f: the best pair before its place, which ends in f.
abbrev pub Walking : List ℕ → ℕ → List ℕ → ℕ → Option (ℕ × ℕ) → Option ℕ → Type 0
Walking t n marks f best None = Best t n marks f best n
Walking t n marks f best (Some q) = (q < n) × ((cell t 3 q ≡ f) × Best t n marks f best q)

module _ (t : List ℕ) (n : ℕ) (marks : List ℕ) (f : ℕ) where
  second_inside : (p q : ℕ) → leads_to t n marks f (Apply p q) ≡ true → q < n
  second_inside p q h = marked_below n marks q (apply_parts t n marks f p q h).second_marked

  first_inside : (p q : ℕ) → leads_to t n marks f (Apply p q) ≡ true → p < n
  first_inside p q h = marked_below n marks p (apply_parts t n marks f p q h).first_marked

  none_before : (place : ℕ) → FirstFrom t 3 f n 0 place → NoPair t n marks f place
  none_before place first p' q' less h =
      first.between q' (omega arith) less (second_inside p' q' h) (apply_parts t n marks f p' q' h).right_is

  pub walking_begins : (at : Option ℕ) → FoundFrom t 3 f n 0 at → Walking t n marks f None at
  walking_begins None found = none_before n found
  walking_begins (Some q) found = (found.0, ((found.1.here found.0).1, none_before q found.1))

  -- pairs whose second premise lies before the next place lie before this one or at it
  up_to : (q q' after p' : ℕ) → FirstFrom t 3 f n (suc q) after → q' < after → leads_to t n marks f (Apply p' q') ≡ true
      → (q' < q) ⊎ (q ≡ q')
  up_to q q' after p' first less h =
      ⊎_elim (λ (low : ltb q' q ≡ true). inl (ltb-true q' q low))
      (λ (high : ltb q' q ≡ false).
      ⊎_elim (λ (same : q ≡ q'). inr same)
      (λ (more : q < q').
      absurd (first.between q' more less (second_inside p' q' h) (apply_parts t n marks f p' q' h).right_is))
      (eq-or-lt_of_le (ltb-false q' q high)))
      (cases_Bool (ltb q' q))

  at_place : (q q' p' : ℕ) {o : Option ℕ} → q ≡ q' → o ≡ condition_in t n marks q → leads_to t n marks f (Apply p' q') ≡ true → o ≡ Some p'
  at_place q q' p' same e h =
      e ∙ (ap (condition_in t n marks) same ∙ condition_only t n marks q' p' f h)

  same_place : (q q' p p' : ℕ) → q ≡ q' → Some p ≡ condition_in t n marks q → leads_to t n marks f (Apply p' q') ≡ true → p ≡ p'
  same_place q q' p p' same e h = let there : ◌≡◌ {A = Option ℕ} (Some p) (Some p') = at_place q q' p' same e h in cc

  module _ (q after : ℕ) (inside : q < n) (next : FirstFrom t 3 f n (suc q) after) where
    on : q < after
    on = goes_on t 3 f n q after inside next

    -- an implication whose condition is not recorded, or that is none, changes nothing
    passed : (best : Option (ℕ × ℕ)) → Best t n marks f best q → None ≡ condition_in t n marks q → Best t n marks f best after
    passed None none e =
        λ p' q' before h.
        ⊎_elim (λ (low : q' < q). none p' q' low h)
        (λ (same : q ≡ q').
        let there : ◌≡◌ {A = Option ℕ} None (Some p') = at_place q q' p' same e h in
        let z : ◌≡◌ {A = ℕ} 0 1 = cc in
        absurd (omega arith))
        (up_to q q' after p' next before h)
    passed (Some (first, second)) pair e =
        record {
          earlier = let so = pair.earlier in let far = on in omega arith;
          good = pair.good;
          least =
              λ p' q' before h.
              ⊎_elim (λ (low : q' < q). pair.least p' q' low h)
              (λ (same : q ≡ q').
              let there : ◌≡◌ {A = Option ℕ} None (Some p') = at_place q q' p' same e h in
              let z : ◌≡◌ {A = ℕ} 0 1 = cc in
              absurd (omega arith))
              (up_to q q' after p' next before h);
        }

    -- the first, or one with a smaller first premise, is taken
    taken : (p : ℕ) → cell t 3 q ≡ f → Some p ≡ condition_in t n marks q
        → ((p' q' : ℕ) → q' < q → leads_to t n marks f (Apply p' q') ≡ true → p < p') → Pair t n marks f p q after
    taken p right e before =
        record {
          earlier = on;
          good = condition_good t n marks q p f right e;
          least =
              λ p' q' less h.
              ⊎_elim (λ (low : q' < q). inl (before p' q' low h))
              (λ (same : q ≡ q'). inr (same_place q q' p p' same e h, omega arith))
              (up_to q q' after p' next less h);
        }

    kept : (first second p : ℕ) → Pair t n marks f first second q → first ≤ p → Some p ≡ condition_in t n marks q
        → Pair t n marks f first second after
    kept first second p pair more e =
        record {
          earlier = let so = pair.earlier in let far = on in omega arith;
          good = pair.good;
          least =
              λ p' q' before h.
              ⊎_elim (λ (low : q' < q). pair.least p' q' low h)
              (λ (same : q ≡ q').
              let there = same_place q q' p p' same e h in
              ⊎_elim (λ (eq : first ≡ p). inr (eq ∙ there, let so = pair.earlier in omega arith))
              (λ (lt : first < p). inl (omega arith))
              (eq-or-lt_of_le more))
              (up_to q q' after p' next before h);
        }

    bettered : (best : Option (ℕ × ℕ)) (p : ℕ) → Best t n marks f best q → cell t 3 q ≡ f → Some p ≡ condition_in t n marks q
        → Best t n marks f (better_of best p q) after
    unfolding better_of
    bettered None p none right e = taken p right e (λ p' q' low h. absurd (none p' q' low h))
    bettered (Some (first, second)) p pair right e =
        ⊎_elim (λ (more : leb first p ≡ true). rw more (kept first second p pair (leb-true first p more) e))
        (λ (less : leb first p ≡ false).
        let low = leb-false first p less in
        rw less
        (taken p right e
        (λ p' q' low' h.
        ⊎_elim (λ (l : first < p'). omega arith) (λ (s : (first ≡ p') × (second ≤ q')). omega arith) (pair.least p' q' low' h))))
        (cases_Bool (leb first p))

  -- the next of the chain is the first behind this one
  behind : {q place : ℕ} → cell t 3 q ≡ f → FirstFrom t 3 (cell t 3 q) n (suc q) place → FirstFrom t 3 f n (suc q) place
  behind {q} {place} right first = subst (λ (y : ℕ). FirstFrom t 3 y n (suc q) place) right first

  turned : (best : Option (ℕ × ℕ)) (q p : ℕ) (at : Option ℕ) → Walking t n marks f best (Some q) → Some p ≡ condition_in t n marks q
      → FoundFrom t 3 (cell t 3 q) n (suc q) at → Walking t n marks f (better_of best p q) at
  turned best q p None walk e found = bettered q n walk.0 (behind walk.1.0 found) best p walk.1.1 walk.1.0 e
  turned best q p (Some after) walk e found =
      let next = behind walk.1.0 found.1 in
      (found.0, ((next.here found.0).1, bettered q after walk.0 next best p walk.1.1 walk.1.0 e))

  pub walking_turns : (best now : Option (ℕ × ℕ)) (was at : Option ℕ) (q p : ℕ) → Walking t n marks f best was → was ≡ Some q
      → Some p ≡ condition_in t n marks q → now ≡ better_of best p q → FoundFrom t 3 (cell t 3 q) n (suc q) at
      → Walking t n marks f now at
  walking_turns best now was at q p walk e condition better found =
      subst (λ (b : Option (ℕ × ℕ)). Walking t n marks f b at) (sym better)
      (turned best q p at (subst (Walking t n marks f best) e walk) condition found)

  passed_by : (best : Option (ℕ × ℕ)) (q : ℕ) (at : Option ℕ) → Walking t n marks f best (Some q) → None ≡ condition_in t n marks q
      → FoundFrom t 3 (cell t 3 q) n (suc q) at → Walking t n marks f best at
  passed_by best q None walk e found = passed q n walk.0 (behind walk.1.0 found) best walk.1.1 e
  passed_by best q (Some after) walk e found =
      let next = behind walk.1.0 found.1 in
      (found.0, ((next.here found.0).1, passed q after walk.0 next best walk.1.1 e))

  pub walking_passes : (best now : Option (ℕ × ℕ)) (was at : Option ℕ) (q : ℕ) → Walking t n marks f best was → was ≡ Some q
      → None ≡ condition_in t n marks q → now ≡ best → FoundFrom t 3 (cell t 3 q) n (suc q) at → Walking t n marks f now at
  walking_passes best now was at q walk e condition same found =
      subst (λ (b : Option (ℕ × ℕ)). Walking t n marks f b at) (sym same)
      (passed_by best q at (subst (Walking t n marks f best) e walk) condition found)

  pub walking_inside : (best : Option (ℕ × ℕ)) (was : Option ℕ) {q : ℕ} → Walking t n marks f best was → was ≡ Some q → (q < n) × (cell t 3 q ≡ f)
  walking_inside best was walk e = let here = subst (Walking t n marks f best) e walk in (here.0, here.1.0)

  best_found : {first second : ℕ} → Walking t n marks f (Some (first, second)) None
      → Some (Apply first second) ≡ least_among (pairs_of Apply n) t n marks f
  best_found {first} {second} best =
      found_among (pairs_of Apply n) t n marks f
      (pair_found (leads_to t n marks f) Apply n first second (first_inside first second best.good)
      (second_inside first second best.good) best.good
      (λ p' q' below.
      false_from_ne_true (leads_to t n marks f (Apply p' q'))
      (λ h.
      let inside = second_inside p' q' h in
      ⊎_elim (λ (l : first < p'). omega arith) (λ (s : (first ≡ p') × (second ≤ q')). omega arith)
      (best.least p' q' inside h)))
      (λ q' below.
      false_from_ne_true (leads_to t n marks f (Apply first q'))
      (λ h.
      let inside = second_inside first q' h in
      ⊎_elim (λ (l : first < first). omega arith) (λ (s : (first ≡ first) × (second ≤ q')). omega arith)
      (best.least first q' inside h))))

  best_none : Walking t n marks f None None → None ≡ least_among (pairs_of Apply n) t n marks f
  best_none none =
      none_among (pairs_of Apply n) t n marks f
      (pair_none (leads_to t n marks f) Apply n
      (λ p' q'. false_from_ne_true (leads_to t n marks f (Apply p' q')) (λ h. none p' q' (second_inside p' q' h) h)))

  pub walked_all : (best : Option (ℕ × ℕ)) (was : Option ℕ) (Post : ℕ × ℕ → Type 0) {r : Option Way} → Walking t n marks f best was → was ≡ None
      → MatchOption best (r ≡ None) Post → ((p q : ℕ) → Post (p, q) → r ≡ Some (Apply p q))
      → r ≡ least_among (pairs_of Apply n) t n marks f
  walked_all None was Post walk e none pair = none ∙ best_none (subst (Walking t n marks f None) e walk)
  walked_all (Some (first, second)) was Post walk e post pair =
      pair first second post ∙ best_found (subst (Walking t n marks f (Some (first, second))) e walk)

-- what the better of two pairs is
pub better_kept : {best : Option (ℕ × ℕ)} {first second : ℕ} (p q : ℕ) → best ≡ Some (first, second) → first ≤ p → best ≡ better_of best p q
unfolding better_of
better_kept {first = first} p q e h = rw (e, le-leb first p h)

pub better_taken : {best : Option (ℕ × ℕ)} {first second : ℕ} (p q : ℕ) → best ≡ Some (first, second) → p < first
    → Some (p, q) ≡ better_of best p q
unfolding better_of
better_taken {first = first} p q e h = rw (e, lt-leb first p h)

pub better_first : {best : Option (ℕ × ℕ)} (p q : ℕ) → best ≡ None → Some (p, q) ≡ better_of best p q
unfolding better_of
better_first p q e = rw e
