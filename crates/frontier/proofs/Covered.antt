-- The set covers: once it is filled, after a formula is recorded and touched, and after a member without a way is taken out.
-- The next record is found in it.
-- Assumes nothing.
use Prim.Native.Nat.{ℕ, zero, suc, ◌-◌, ◌≤◌, ◌<◌}
use mathlib.Core.Path.{◌≡◌, refl, sym, ◌∙◌, ap, subst}
use mathlib.Core.Logic.{◌⊎◌, inl, inr, ⊎_elim}
use mathlib.Core.Bool.{Bool, true, false, ◌&&◌, not, false≢true}
use Rattle.std.proofs.lemmas.Bool.{and_parts, and_from, cases_Bool, false_from_ne_true}
use Rattle.std.specs.Prelude.{Option, None, Some}
use mathlib.Core.List.{List, Memᴰ}
use native.Mathlib.Numerals.{add-one}
use native.Mathlib.Omega.{arith}
use lib.ListN.{length, get_or, set}
use lib.Seq.{get_or-set_same, get_or-set_other}
use lib.Dec.{ltb, eqb}
use borrow.Author.Tests.{eqb-true, eqb-false, eq-eqb, lt-ltb, ltb-true, ltb-false}
use Rattle.infon.specs.declared.Way.{Way}
use Rattle.infon.specs.declared.Way.TheVariants.{Hypothesis, Given, Weaken, Left, Right, Both, Apply, Attach}
use Rattle.infon.specs.declared.Record.{Record}
use Rattle.infon.specs.Journal.{numbers_from, all_ways}
use Rattle.infon.proofs.Ascending.{first_none}
use Rattle.infon.proofs.Least.{way_mem}
use Rattle.formulas.specs.Tests.{is_marked, premises_marked, good_in}
use Rattle.formulas.proofs.Given.{premises_below}
use Rattle.ways.specs.Search.{due_way_in, next_in}
use Rattle.ways.proofs.Firsts.{all_fail}
use Rattle.ways.proofs.Leads.{place_or}
use Rattle.ways.proofs.Onward.{next_from, onward_begins, onward_found, onward_goes_on, onward_over}
use Rattle.members.specs.Members.{is_in, without_member, NoneBelow, LeastAt, LeastIn}
use Rattle.frontier.specs.Touched.{Covers, CoversBut, wanted_all, touching, taking_all}
use Rattle.frontier.specs.Found.{Found}
use Rattle.members.proofs.Membership.{without_clears, without_keeps}
use Rattle.frontier.proofs.Wanting.{all_keeps, all_has, without_long}
use Rattle.frontier.proofs.Premises.{by, Goods, goods, good_of, leads_of, by_weaken, by_left, by_right, by_both_first, by_both_second, by_apply_first, by_apply_second, by_attach, in_taking, hypothesis_taken, given_taken}

module _ (t : List ℕ) (n : ℕ) (marks : List ℕ) where
  -- each good record is wanted as the set is filled
  wanted_first : (g : ℕ) (way : Way) → Goods t n marks g way → Memᴰ (by g way) (taking_all t n marks 0 n)
  unfolding premises_marked
  wanted_first g Hypothesis parts = hypothesis_taken t n marks g (ltb-true g n parts.listed)
  wanted_first g Given parts = given_taken t n marks g (ltb-true g n parts.listed)
  wanted_first g (Weaken p) parts =
      in_taking t n marks _ p parts.premises
      (by_weaken t n marks g p (ltb-true g n parts.listed) (leads_of t n marks g (Weaken p) parts))
  wanted_first g (Left p) parts = in_taking t n marks _ p parts.premises (by_left t n marks g p (leads_of t n marks g (Left p) parts))
  wanted_first g (Right p) parts = in_taking t n marks _ p parts.premises (by_right t n marks g p (leads_of t n marks g (Right p) parts))
  wanted_first g (Both p q) parts =
      in_taking t n marks _ p (and_parts (is_marked n marks p) (is_marked n marks q) parts.premises).0
      (by_both_first t n marks g p q (ltb-true g n parts.listed) (leads_of t n marks g (Both p q) parts))
  wanted_first g (Apply p q) parts =
      in_taking t n marks _ p (and_parts (is_marked n marks p) (is_marked n marks q) parts.premises).0
      (by_apply_first t n marks g p q (leads_of t n marks g (Apply p q) parts))
  wanted_first g (Attach p) parts =
      in_taking t n marks _ p parts.premises
      (by_attach t n marks g p (ltb-true g n parts.listed) (leads_of t n marks g (Attach p) parts))

  -- a filled set covers
  pub covers_filled : (cover : List ℕ) {after : List ℕ} → n ≤ 4096 → 64 ≤ length cover
      → after ≡ wanted_all t n marks cover (taking_all t n marks 0 n) → Covers t n marks after
  covers_filled cover few long e r good =
      rw e
      (all_has t n marks few (taking_all t n marks 0 n) cover r long
      (wanted_first r.formula r.way (goods t n marks r.formula r.way good)) good)

  module _ (f : ℕ) (low : f < n) (room : n ≤ length marks) where
    now_marked : is_marked n (set marks f 1) f ≡ true
    unfolding is_marked
    now_marked = and_from _ _ (lt-ltb f n low) (eq-eqb (get_or (set marks f 1) f 0) 1 (get_or-set_same marks f 1 0 (omega arith)))

    other_marked : (p : ℕ) → (p ≡ f → ⊥) → is_marked n (set marks f 1) p ≡ is_marked n marks p
    unfolding is_marked
    other_marked p apart = ap (λ (m : ℕ). ltb p n && eqb m 1) (get_or-set_other marks f p 1 0 apart)

    -- what is not marked now is not f, and was not marked before; what is marked now was marked before, or is f
    not_now : (g : ℕ) → not (is_marked n (set marks f 1) g) ≡ true → g ≡ f → ⊥
    not_now g h e = false≢true (subst (λ (b : Bool). not b ≡ true) (ap (is_marked n (set marks f 1)) e ∙ now_marked) h)

    still_open : (g : ℕ) → not (is_marked n (set marks f 1) g) ≡ true → not (is_marked n marks g) ≡ true
    still_open g h = subst (λ (b : Bool). not b ≡ true) (other_marked g (not_now g h)) h

    was_marked : (p : ℕ) → is_marked n (set marks f 1) p ≡ true → (p ≡ f) ⊎ (is_marked n marks p ≡ true)
    was_marked p h =
        ⊎_elim (λ (e : eqb p f ≡ true). inl (eqb-true p f e))
        (λ (e : eqb p f ≡ false). inr (sym (other_marked p (eqb-false p f e)) ∙ h))
        (cases_Bool (eqb p f))

    -- a record that is good now has f as a premise, or its premises were marked before
    touched_or : (r : Record) (p : ℕ) → is_marked n (set marks f 1) p ≡ true → Memᴰ r (touching t n p)
        → Memᴰ r (touching t n f) ⊎ (is_marked n marks p ≡ true)
    touched_or r p marked there =
        ⊎_elim (λ (e : p ≡ f). inl (subst (λ (q : ℕ). Memᴰ r (touching t n q)) e there)) (λ (old : is_marked n marks p ≡ true). inr old)
        (was_marked p marked)

    both_or : (r : Record) (p q : ℕ) → is_marked n (set marks f 1) p && is_marked n (set marks f 1) q ≡ true → Memᴰ r (touching t n p)
        → Memᴰ r (touching t n q) → Memᴰ r (touching t n f) ⊎ (is_marked n marks p && is_marked n marks q ≡ true)
    both_or r p q marked first second =
        let both = and_parts (is_marked n (set marks f 1) p) (is_marked n (set marks f 1) q) marked in
        ⊎_elim (λ there. inl there)
        (λ old. ⊎_elim (λ there. inl there) (λ older. inr (and_from _ _ old older)) (touched_or r q both.1 second))
        (touched_or r p both.0 first)

    old_premises : (g : ℕ) (way : Way) → Goods t n (set marks f 1) g way
        → Memᴰ (by g way) (touching t n f) ⊎ (premises_marked n marks way ≡ true)
    unfolding premises_marked
    old_premises g Hypothesis parts = inr refl
    old_premises g Given parts = inr refl
    old_premises g (Weaken p) parts =
        touched_or (by g (Weaken p)) p parts.premises
        (by_weaken t n (set marks f 1) g p (ltb-true g n parts.listed) (leads_of t n (set marks f 1) g (Weaken p) parts))
    old_premises g (Left p) parts =
        touched_or (by g (Left p)) p parts.premises (by_left t n (set marks f 1) g p (leads_of t n (set marks f 1) g (Left p) parts))
    old_premises g (Right p) parts =
        touched_or (by g (Right p)) p parts.premises (by_right t n (set marks f 1) g p (leads_of t n (set marks f 1) g (Right p) parts))
    old_premises g (Both p q) parts =
        let leads = leads_of t n (set marks f 1) g (Both p q) parts in
        let inside = ltb-true g n parts.listed in
        both_or (by g (Both p q)) p q parts.premises (by_both_first t n (set marks f 1) g p q inside leads)
        (by_both_second t n (set marks f 1) g p q inside leads)
    old_premises g (Apply p q) parts =
        let leads = leads_of t n (set marks f 1) g (Apply p q) parts in
        both_or (by g (Apply p q)) p q parts.premises (by_apply_first t n (set marks f 1) g p q leads)
        (by_apply_second t n (set marks f 1) g p q leads)
    old_premises g (Attach p) parts =
        touched_or (by g (Attach p)) p parts.premises
        (by_attach t n (set marks f 1) g p (ltb-true g n parts.listed) (leads_of t n (set marks f 1) g (Attach p) parts))

    -- a set that covers but for f and gains all that f touches covers after f is recorded
    pub covers_touched : (cover : List ℕ) {after : List ℕ} → n ≤ 4096 → 64 ≤ length cover → CoversBut t n marks cover f
        → after ≡ wanted_all t n (set marks f 1) cover (touching t n f) → Covers t n (set marks f 1) after
    covers_touched cover few long covers e r good =
        let parts = goods t n (set marks f 1) r.formula r.way good in
        rw e
        (⊎_elim
        (λ (there : Memᴰ r (touching t n f)). all_has t n (set marks f 1) few (touching t n f) cover r long there good)
        (λ (old : premises_marked n marks r.way ≡ true).
        all_keeps t n (set marks f 1) few (touching t n f) cover r.formula long
        (covers r
        (good_of t n marks r.formula r.way
        (record {
          listed = parts.listed;
          unmarked = still_open r.formula parts.unmarked;
          premises = old;
          gives = parts.gives;
        }))
        (not_now r.formula parts.unmarked)))
        (old_premises r.formula r.way parts))

  -- a formula for which no record is due has no good record
  none_due : (f : ℕ) {due : Option Way} → due ≡ due_way_in t n marks f → due ≡ None → (r : Record) → r.formula ≡ f
      → good_in t n marks r ≡ true → ⊥
  unfolding due_way_in
  none_due f e missing r same good =
      let parts = goods t n marks r.formula r.way good in
      let bad =
      first_none (λ (way : Way). good_in t n marks (by f way)) (all_ways (numbers_from 0 n))
      (sym e ∙ missing) r.way
      (way_mem n r.way (premises_below n marks r.way parts.premises)) in
      false≢true (sym bad ∙ subst (λ (g : ℕ). good_in t n marks (by g r.way) ≡ true) same good)

  -- a set that covers has every formula for which a record is due
  not_due : (cover : List ℕ) (g : ℕ) → Covers t n marks cover → is_in cover g ≡ false → None ≡ due_way_in t n marks g
  unfolding due_way_in
  not_due cover g covers out =
      sym
      (all_fail (λ (way : Way). good_in t n marks (by g way)) (all_ways (numbers_from 0 n))
      (λ way. false_from_ne_true (good_in t n marks (by g way)) (λ good. false≢true (sym out ∙ covers (by g way) good))))

  onward_to : (cover : List ℕ) → Covers t n marks cover → (f : ℕ) → f ≤ n → ((i : ℕ) → i < f → is_in cover i ≡ false)
      → next_in t n marks ≡ next_from t n marks f
  onward_to cover covers zero within out = onward_begins t n marks
  onward_to cover covers (suc f) within out =
      onward_to cover covers f (omega arith) (λ i low. out i (omega arith))
      ∙ (onward_goes_on t n marks f (omega arith) (not_due cover f covers (out f (omega arith))) refl
      ∙ ap (next_from t n marks) (add-one f))

  -- The search: the set covers all the time, its least member is at hand, and what comes after it stands as before.
  pub record Passing (cover₀ cover : List ℕ) (at : Option ℕ) : Type 0 where
    pub long : length cover ≡ length cover₀
    pub covers : Covers t n marks cover
    pub least : LeastIn cover at
    pub after : (f : ℕ) → at ≡ Some f → (i : ℕ) → f ≤ i → is_in cover i ≡ is_in cover₀ i
    pub beyond : (i : ℕ) → n ≤ i → is_in cover i ≡ is_in cover₀ i

  module _ {cover₀ cover : List ℕ} {at : Option ℕ} (passing : Passing cover₀ cover at) where
    module _ {f : ℕ} (here : at ≡ Some f) where
      pub least_here : LeastAt cover f
      least_here = subst (LeastIn cover) here passing.least

      -- a member that was asked for its way is taken out
      module _ (low : f < n) (few : n ≤ 4096) (long : 64 ≤ length cover₀) {rest : List ℕ} (is-rest : rest ≡ without_member cover f)
          {due : Option Way} (is_due : due ≡ due_way_in t n marks f) where
        is_long : 64 ≤ length cover
        is_long = let same = passing.long in omega arith

        inside : f < 4096
        inside = omega arith

        same_long : length rest ≡ length cover₀
        same_long = ap length is-rest ∙ (without_long cover f ∙ passing.long)

        other_in : (i : ℕ) → (i ≡ f → ⊥) → is_in rest i ≡ is_in cover i
        other_in i apart = rw is-rest (without_keeps cover f inside is_long i apart)

        f_out : is_in rest f ≡ false
        f_out = rw is-rest (without_clears cover f inside is_long least_here.member)

        out_to : (i : ℕ) → i < suc f → is_in rest i ≡ false
        out_to i less =
            ⊎_elim (λ (e : eqb i f ≡ true). ap (is_in rest) (eqb-true i f e) ∙ f_out)
            (λ (e : eqb i f ≡ false).
            let apart = eqb-false i f e in
            other_in i apart ∙ least_here.before i (omega (arith, apart)))
            (cases_Bool (eqb i f))

        covers_rest : CoversBut t n marks rest f
        covers_rest r good apart = other_in r.formula apart ∙ passing.covers r good

        pub passing_found : {way : Way} → due ≡ Some way → Found t n marks cover₀ (Some (by f way)) rest
        passing_found {way} told =
            let to = onward_to cover passing.covers f (omega arith) least_here.before in
            record {
              is_next = sym (to ∙ onward_found t n marks f low is_due told);
              long = same_long;
              covers = λ q e. let same : by f way ≡ q = cc in subst (λ (g : ℕ). CoversBut t n marks rest g) (ap (λ (p : Record). p.formula) same) covers_rest;
              taken = out_to;
              stays = λ i h. other_in i (λ e. omega arith) ∙ passing.after f here i (omega arith);
            }

        module _ (told : due ≡ None) where
          later : (next : ℕ) → LeastAt rest next → f < next
          later next least =
              ⊎_elim (λ (h : ltb f next ≡ true). ltb-true f next h)
              (λ (h : ltb f next ≡ false).
              let upto = ltb-false f next h in
              absurd (false≢true (sym (out_to next (omega arith)) ∙ least.member)))
              (cases_Bool (ltb f next))

          -- the next member comes later
          pub passing_further : (next : Option ℕ) → LeastIn rest next → n - place_or n next < n - place_or n at
          unfolding place_or
          passing_further None least = rw here (omega arith)
          passing_further (Some next) least = rw here (let further = later next least in omega arith)

          pub passing_turn : {next : Option ℕ} → LeastIn rest next → Passing cover₀ rest next
          passing_turn {next} least =
              record {
                long = same_long;
                covers = λ r good. covers_rest r good (λ same. none_due f is_due told r same good);
                least = least;
                after =
                    λ g e i h.
                    let further = later g (subst (LeastIn rest) e least) in
                    other_in i (λ same. omega arith) ∙ passing.after f here i (omega arith);
                beyond = λ i h. other_in i (λ e. omega arith) ∙ passing.beyond i h;
              }

    over : NoneBelow cover n → Found t n marks cover₀ None cover
    over none =
        let to = onward_to cover passing.covers n (omega arith) none in
        record {
          is_next = sym (to ∙ onward_over t n marks n (omega arith));
          long = passing.long;
          covers = λ r e. absurd (let z : ◌≡◌ {A = ℕ} 0 1 = cc in omega arith);
          taken = none;
          stays = passing.beyond;
        }

    -- no listed formula is left
    pub passing_past : {f : ℕ} → at ≡ Some f → n ≤ f → Found t n marks cover₀ None cover
    passing_past e high = over (λ i h. (least_here e).before i (omega arith))

    pub passing_over : at ≡ None → n ≤ 4096 → Found t n marks cover₀ None cover
    passing_over e few = over (λ i h. let none : NoneBelow cover 4096 = subst (LeastIn cover) e passing.least in none i (omega arith))
