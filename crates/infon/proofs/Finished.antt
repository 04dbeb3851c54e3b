-- Completeness: a finished journal records exactly the derivable formulas of the list.
-- Assumes nothing.
use Prim.Native.Nat.{ℕ, ◌<◌}
use mathlib.Core.Path.{◌≡◌, refl, sym, ◌∙◌, ap, subst}
use mathlib.Core.Logic.{⊎_elim}
use mathlib.Core.Bool.{true, false, not, false≢true}
use mathlib.Core.List.{List, Memᴰ}
use lib.ListN.{length}
use borrow.Author.Tests.{lt-ltb}
use Rattle.infon.specs.declared.Way.{Way}
use Rattle.infon.specs.declared.Way.TheVariants.{Hypothesis, Given, Weaken, Left, Right, Both, Apply, Attach}
use Rattle.infon.specs.declared.Record.{Record}
use Rattle.infon.specs.Formula.{Formula, True, and, implies, same}
use Rattle.infon.specs.Listing.{Prefix, wrap, is_listed}
use Rattle.infon.specs.Calculus.{Weaker, Derives}
use Rattle.infon.specs.Rules.{shape_of, is_truth, is_left, is_right, are_both, is_conclusion, is_condition, numbered, gives}
use Rattle.infon.specs.Journal.{is_recorded, premises_in, is_good, all_records, next, is_finished}
use Rattle.infon.specs.Run.{is_on_record}
use Rattle.std.proofs.lemmas.Bool.{and_from, cases_Bool}
use Rattle.infon.proofs.Rows.{some_of_witness, witness_some_of}
use Rattle.infon.proofs.Same.{same_refl, same_eq}
use Rattle.infon.proofs.Prefixes.{listed_mem, mem_listed, shape_wrap_True, shape_wrap_and, shape_wrap_implies, weaker_weakenings}
use Rattle.infon.proofs.Listed.{listed_number, numbered_mem}
use Rattle.infon.proofs.Locality.{Closed, Complete, derivable_recorded}
use Rattle.infon.proofs.Ascending.{first_none}
use Rattle.infon.proofs.Least.{PremisesBelow, all_has}
use Rattle.infon.proofs.Grown.{recorded_by, finished_none}
use Rattle.infon.proofs.Sound.{Sound, premise_derived, by_recorded}

module _ (hyps fs : List Formula) where
  -- in a finished journal no record is good
  none_good : (done : List Record) (r : Record) → is_finished hyps fs done ≡ true → r.formula < length fs
      → PremisesBelow (length fs) r.way → is_good hyps fs done r ≡ false
  unfolding next
  none_good done r finished low premises =
      first_none (is_good hyps fs done) (all_records (length fs)) (finished_none hyps fs done finished) r (all_has (length fs) r low premises)

  is_good_lem : (done : List Record) (r : Record) → r.formula < length fs → is_recorded r.formula done ≡ false
      → premises_in r.way done ≡ true → gives hyps fs r.way (numbered fs r.formula) ≡ true → is_good hyps fs done r ≡ true
  unfolding is_good
  is_good_lem done r low fresh premises follows =
      and_from _ _ (and_from _ _ (and_from _ _ (lt-ltb r.formula (length fs) low) (ap not fresh)) premises) follows

  -- so whatever a rule gives is recorded
  forced : (done : List Record) (n : ℕ) (way : Way) → is_finished hyps fs done ≡ true → n < length fs → PremisesBelow (length fs) way
      → premises_in way done ≡ true → gives hyps fs way (numbered fs n) ≡ true → is_recorded n done ≡ true
  forced done n way finished low below premises follows =
      let r : Record = record { formula = n; way = way } in
      ⊎_elim (λ yes. yes)
      (λ fresh.
      absurd (false≢true (sym (none_good done r finished low below) ∙ is_good_lem done r low fresh premises follows)))
      (cases_Bool (is_recorded n done))

  -- a formula that is recorded, by its number
  answered_by : (done : List Record) (n : ℕ) (x : Formula) → is_recorded n done ≡ true → numbered fs n ≡ x → is_on_record fs done x ≡ true
  unfolding is_on_record
  answered_by done n x h e =
      let found = recorded_by n done h in
      witness_some_of (λ (r : Record). same x (numbered fs r.formula)) found.1.0
      (subst (λ (y : Formula). same x y ≡ true) (sym e ∙ ap (numbered fs) found.1.1) (same_refl x))

  number_of : (done : List Record) (x : Formula) → Sound hyps fs done → is_on_record fs done x ≡ true
      → (p : ℕ) × ((p < length fs) × ((is_recorded p done ≡ true) × (numbered fs p ≡ x)))
  unfolding is_on_record
  number_of done x sound h =
      let found = some_of_witness (λ (r : Record). same x (numbered fs r.formula)) done h in
      let r = found.0 in (
        r.formula,
        (
          sound.listed r found.1.0,
          (by_recorded r done found.1.0, sym (same_eq x (numbered fs r.formula) found.1.1)),
        ),
      )

  conclude : (done : List Record) (way : Way) (z : Formula) → is_finished hyps fs done ≡ true → is_listed z fs ≡ true
      → PremisesBelow (length fs) way → premises_in way done ≡ true → gives hyps fs way z ≡ true → is_on_record fs done z ≡ true
  conclude done way z finished listed below premises follows =
      let at = listed_number (listed_mem z fs listed) in
      answered_by done at.0 z
      (forced done at.0 way finished at.1.0 below premises
      (subst (λ (x : Formula). gives hyps fs way x ≡ true) (sym at.1.1) follows))
      at.1.1

  gives_left : (p : ℕ) (w : Prefix) (x y : Formula) → numbered fs p ≡ wrap w (and x y) → gives hyps fs (Left p) (wrap w x) ≡ true
  unfolding gives is_left
  gives_left p w x y e = ap (λ (a : Formula). is_left (wrap w x) (shape_of a)) e ∙ rw shape_wrap_and (same_refl (wrap w x))

  gives_right : (p : ℕ) (w : Prefix) (x y : Formula) → numbered fs p ≡ wrap w (and x y) → gives hyps fs (Right p) (wrap w y) ≡ true
  unfolding gives is_right
  gives_right p w x y e = ap (λ (a : Formula). is_right (wrap w y) (shape_of a)) e ∙ rw shape_wrap_and (same_refl (wrap w y))

  gives_both : (p q : ℕ) (w : Prefix) (x y : Formula) → numbered fs p ≡ wrap w x → numbered fs q ≡ wrap w y
      → gives hyps fs (Both p q) (wrap w (and x y)) ≡ true
  unfolding gives are_both is_left is_right
  gives_both p q w x y ex ey =
      rw (ex, ey, shape_wrap_and) (and_from _ _ (same_refl (wrap w x)) (same_refl (wrap w y)))

  gives_apply : (p q : ℕ) (w : Prefix) (x y : Formula) → numbered fs p ≡ wrap w x → numbered fs q ≡ wrap w (implies x y)
      → gives hyps fs (Apply p q) (wrap w y) ≡ true
  unfolding gives is_condition is_conclusion
  gives_apply p q w x y ex ei =
      rw (ex, ei, shape_wrap_implies) (and_from _ _ (same_refl (wrap w x)) (same_refl (wrap w y)))

  gives_attach : (p : ℕ) (w : Prefix) (x y : Formula) → numbered fs p ≡ wrap w y → gives hyps fs (Attach p) (wrap w (implies x y)) ≡ true
  unfolding gives is_conclusion
  gives_attach p w x y e = rw (e, shape_wrap_implies) (same_refl (wrap w y))

  gives_given : (w : Prefix) → gives hyps fs Given (wrap w True) ≡ true
  unfolding gives is_truth
  gives_given w = rw shape_wrap_True

  gives_weaken : (p : ℕ) (v w : Prefix) (x : Formula) → Weaker v w → numbered fs p ≡ wrap w x → gives hyps fs (Weaken p) (wrap v x) ≡ true
  unfolding gives
  gives_weaken p v w x le e = rw e (mem_listed (weaker_weakenings x le))

  gives_hypothesis : (x : Formula) → Memᴰ x hyps → gives hyps fs Hypothesis x ≡ true
  unfolding gives
  gives_hypothesis x m = mem_listed m

  -- the records of a finished journal are closed under the rules on the list
  complete : (done : List Record) → Sound hyps fs done → is_finished hyps fs done ≡ true
      → ((x : Formula) → Memᴰ x hyps → is_listed x fs ≡ true)
      → Complete hyps (λ (x : Formula). is_listed x fs) (λ (x : Formula). is_on_record fs done x)
  unfolding premises_in
  complete done sound finished listed =
      record {
        by_hypothesis =
            λ x m. (listed x m, conclude done Hypothesis x finished (listed x m) tt refl (gives_hypothesis x m));
        by_given = λ w l. conclude done Given (wrap w True) finished l tt refl (gives_given w);
        by_weaken =
            λ v w x le h l.
            let p = number_of done (wrap w x) sound h in
            conclude done (Weaken p.0) (wrap v x) finished l p.1.0 p.1.1.0 (gives_weaken p.0 v w x le p.1.1.1);
        by_left =
            λ w x y h l.
            let p = number_of done (wrap w (and x y)) sound h in
            conclude done (Left p.0) (wrap w x) finished l p.1.0 p.1.1.0 (gives_left p.0 w x y p.1.1.1);
        by_right =
            λ w x y h l.
            let p = number_of done (wrap w (and x y)) sound h in
            conclude done (Right p.0) (wrap w y) finished l p.1.0 p.1.1.0 (gives_right p.0 w x y p.1.1.1);
        by_both =
            λ w x y hx hy l.
            let p = number_of done (wrap w x) sound hx in
            let q = number_of done (wrap w y) sound hy in
            conclude done (Both p.0 q.0) (wrap w (and x y)) finished l (p.1.0, q.1.0)
            (and_from _ _ p.1.1.0 q.1.1.0) (gives_both p.0 q.0 w x y p.1.1.1 q.1.1.1);
        by_apply =
            λ w x y hx hi l.
            let p = number_of done (wrap w x) sound hx in
            let q = number_of done (wrap w (implies x y)) sound hi in
            conclude done (Apply p.0 q.0) (wrap w y) finished l (p.1.0, q.1.0) (and_from _ _ p.1.1.0 q.1.1.0)
            (gives_apply p.0 q.0 w x y p.1.1.1 q.1.1.1);
        by_attach =
            λ w x y h l.
            let p = number_of done (wrap w y) sound h in
            conclude done (Attach p.0) (wrap w (implies x y)) finished l p.1.0 p.1.1.0
            (gives_attach p.0 w x y p.1.1.1);
      }

-- The list as it is proved to be: closed, holding the hypotheses, each formula once.
pub record List-of (hyps fs : List Formula) : Type 0 where
  pub closed : Closed (λ (x : Formula). is_listed x fs)
  pub hypotheses : (x : Formula) → Memᴰ x hyps → is_listed x fs ≡ true
  pub once : (m n : ℕ) → m < length fs → n < length fs → numbered fs m ≡ numbered fs n → m ≡ n

module _ (hyps fs : List Formula) (lists : List-of hyps fs) where
  -- demand 2, for formulas of the list: recorded in a finished journal exactly if derivable
  pub derivable_answered : (done : List Record) (z : Formula) → Sound hyps fs done → is_finished hyps fs done ≡ true → is_listed z fs ≡ true
      → Derives hyps z → is_on_record fs done z ≡ true
  derivable_answered done z sound finished listed d =
      derivable_recorded hyps (λ (x : Formula). is_listed x fs) (λ (x : Formula). is_on_record fs done x) lists.closed
      (complete hyps fs done sound finished lists.hypotheses) z listed d

  pub answered_derivable : (done : List Record) (z : Formula) → Sound hyps fs done → is_on_record fs done z ≡ true → Derives hyps z
  answered_derivable done z sound h =
      let p = number_of hyps fs done z sound h in
      subst (Derives hyps) p.1.1.1 (premise_derived hyps fs done p.0 sound p.1.1.0)

  pub derivable_recorded_number : (done : List Record) (n : ℕ) → Sound hyps fs done → is_finished hyps fs done ≡ true → n < length fs
      → Derives hyps (numbered fs n) → is_recorded n done ≡ true
  derivable_recorded_number done n sound finished low d =
      let h = derivable_answered done (numbered fs n) sound finished (mem_listed (numbered_mem fs n low)) d in
      let p = number_of hyps fs done (numbered fs n) sound h in
      subst (λ (m : ℕ). is_recorded m done ≡ true) (lists.once p.0 n p.1.0 low p.1.1.1) p.1.1.0
