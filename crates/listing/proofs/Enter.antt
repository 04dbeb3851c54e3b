-- One form more: it is found among the formulas listed, or put behind them, and the tables hold the list again.
-- Assumes nothing.
use Prim.Native.Nat.{ℕ, ◌+◌, ◌*◌, ◌≤◌, ◌<◌}
use native.Mathlib.Omega.{arith}
use mathlib.Core.Path.{◌≡◌, refl, sym, ◌∙◌, ap, ap₂, subst}
use mathlib.Core.Logic.{◌⊎◌, inl, inr, ⊎_elim}
use mathlib.Core.Bool.{true, false, cond, true≢false}
use mathlib.Core.List.{List, [], ◌∷◌, ◌++◌}
use lib.ListN.{length, get_or, set, take, length-append, get_or-append}
use lib.Seq.{get_or-set_same, get_or-set_other, get_or_at}
use lib.Dec.{ltb, eqb}
use borrow.Author.Tests.{lt-ltb, le-ltb, ltb-true, ltb-false}
use Rattle.std.proofs.lemmas.Bool.{cases_Bool, false_from_ne_true}
use Rattle.infon.specs.Formula.{Formula, True, same}
use Rattle.infon.specs.Listing.{is_listed, enlist}
use Rattle.infon.specs.Rules.{numbered}
use Rattle.formulas.specs.Table.{number_in}
use Rattle.formulas.proofs.Numbers.{number_in_below}
use Rattle.formulas.proofs.Growing.{number_in_unlisted, number_in_append, number_in_last, listed_append, listed_last}
use Rattle.nodes.specs.Nodes.{Node, node_at, count_nodes}
use Rattle.prefix.specs.Weaker.{form_at}
use Rattle.prefix.proofs.Chosen.{weaker_count_bound}
use Rattle.columns.specs.Columns.{stride}
use Rattle.listing.specs.Forms.{own_forms, place_in, key_at, Form, Owned, Placed, Entered}
use Rattle.listing.proofs.Keys.{key_same, found_number}
use Rattle.listing.proofs.Bases.{own_form}

owned_still : (row : List Node) (fs more : List Formula) (keys keys' owners owners' : List ℕ) (k : ℕ) → Owned row fs keys owners k
    → numbered more k ≡ numbered fs k → get_or keys' k 0 ≡ get_or keys k 0 → get_or owners' k 0 ≡ get_or owners k 0 → Owned row more keys' owners' k
owned_still row fs more keys keys' owners owners' k o same-formula same_key same-owner =
    record {
      node = o.node;
      number = o.number;
      form = o.form;
      owner = same-owner ∙ o.owner;
      key = same_key ∙ o.key;
      formula = same-formula ∙ o.formula;
      first = λ a h. ap (λ (x : Formula). is_listed x (own_forms (node_at row a))) same-formula ∙ o.first a h;
    }

last_numbered : (fs : List Formula) (x : Formula) (n : ℕ) → n ≡ length fs → numbered (fs ++ (x ∷ [])) n ≡ x
unfolding numbered
last_numbered fs x n e = get_or_at fs x [] True n (sym e)

still_numbered : (fs more : List Formula) (k : ℕ) → k < length fs → numbered (fs ++ more) k ≡ numbered fs k
unfolding numbered
still_numbered fs more k h = get_or-append fs more True k h

module _ (row : List Node) (shallow : (i : ℕ) → i < count_nodes row → length (node_at row i).pre ≤ 4) where
  pub form_few : (b l : ℕ) → Form row b l → l < stride
  form_few b l form = omega (arith, form.less, weaker_count_bound (node_at row b).pre (shallow b form.below))

  module _ (i m : ℕ) (fs : List Formula) (cand keys owners : List ℕ) (n : ℕ) (so : Entered row i m fs cand keys owners n)
      (form : Form row i m) (key at : ℕ) (key-is : key ≡ key_at row i m) (found : at ≡ place_in key (take n keys))
      (room : n < length keys) (room-too : n < length owners) (inside : i * stride + m < length cand) where
    abbrev x : Formula
    x = form_at row i m

    abbrev place : ℕ
    place = i * stride + m

    at_number : at ≡ number_in fs x
    at_number =
        found
        ∙ found_number key x keys n fs so.count (omega arith)
        (λ k h.
        let o = so.owned k h in
        ap₂ eqb key-is o.key ∙ key_same row shallow i m o.node o.number form o.form ∙ ap (same x) (sym o.formula))

    -- the other forms keep their cells
    apart : (b l : ℕ) → Form row b l → (b < i) ⊎ ((b ≡ i) × (l < m)) → b * stride + l ≡ place → ⊥
    apart b l other (inl less) e = omega (arith, form_few b l other, form_few i m form)
    apart b l other (inr same) e = omega (arith, same.0, same.1, form_few b l other, form_few i m form)

    kept : (more : List Formula) (b l : ℕ) → Form row b l → (b < i) ⊎ ((b ≡ i) × (l < m))
        → (is_listed (form_at row b l) fs ≡ true → is_listed (form_at row b l) more ≡ true)
        → (is_listed (form_at row b l) fs ≡ true → number_in more (form_at row b l) ≡ number_in fs (form_at row b l))
        → Placed row more (set cand place at) b l
    kept more b l other done listed number =
        let old = so.placed b l other done in
        record {
          listed = listed old.listed;
          number =
              get_or-set_other cand place (b * stride + l) at 0 (apart b l other done) ∙ old.number ∙ sym (number old.listed);
        }

    -- a form done by now is one done before, or this one
    done_before : (b l : ℕ) → (b < i) ⊎ ((b ≡ i) × (l < m + 1)) → ((b < i) ⊎ ((b ≡ i) × (l < m))) ⊎ ((b ≡ i) × (l ≡ m))
    done_before b l (inl less) = inl (inl less)
    done_before b l (inr same) =
        ⊎_elim (λ (h : ltb l m ≡ true). inl (inr (same.0, ltb-true l m h)))
        (λ (h : ltb l m ≡ false). inr (same.0, omega (arith, same.1, ltb-false l m h)))
        (cases_Bool (ltb l m))

    placed_now : (more : List Formula) → is_listed x more ≡ true → at ≡ number_in more x
        → ((b l : ℕ) → Form row b l → (b < i) ⊎ ((b ≡ i) × (l < m)) → Placed row more (set cand place at) b l)
        → (b l : ℕ) → Form row b l → (b < i) ⊎ ((b ≡ i) × (l < m + 1)) → Placed row more (set cand place at) b l
    placed_now more listed number before b l other done =
        ⊎_elim (λ earlier. before b l other earlier)
        (λ (this : (b ≡ i) × (l ≡ m)).
        subst (λ (c : ℕ). Placed row more (set cand place at) c l) (sym this.0)
        (subst (λ (k : ℕ). Placed row more (set cand place at) i k) (sym this.1)
        (record { listed = listed; number = get_or-set_same cand place at 0 inside ∙ number })))
        (done_before b l done)

    abbrev Next : List Formula → ℕ → Type 0
    Next more count = Entered row i (m + 1) more (set cand place at) (set keys n key) (set owners n place) count

    untouched : (k : ℕ) → k < n → k ≡ n → ⊥
    untouched k h e = omega arith

    -- the formula is listed already
    enter_old : is_listed x fs ≡ true → Next fs n
    enter_old listed =
        record {
          count = so.count;
          owned = λ k h.
              owned_still row fs fs keys (set keys n key) owners (set owners n place) k (so.owned k h) refl
              (get_or-set_other keys n k key 0 (untouched k h)) (get_or-set_other owners n k place 0 (untouched k h));
          placed = placed_now fs listed at_number (λ b l other done. kept fs b l other done (λ h. h) (λ h. refl));
        }

    -- a formula that is not listed yet is a form of no earlier node
    not_earlier : is_listed x fs ≡ false → (a : ℕ) → a < i → is_listed x (own_forms (node_at row a)) ≡ false
    not_earlier unlisted a less =
        false_from_ne_true (is_listed x (own_forms (node_at row a)))
        (λ h.
        let own = own_form row a x (omega (arith, form.below)) h in
        let listed = (so.placed a own.0 own.1.0 (inl less)).listed in
        true≢false (sym listed ∙ (ap (λ (z : Formula). is_listed z fs) (sym own.1.1) ∙ unlisted)))

    owned_new : is_listed x fs ≡ false → Owned row (fs ++ (x ∷ [])) (set keys n key) (set owners n place) n
    owned_new unlisted =
        record {
          node = i;
          number = m;
          form = form;
          owner = get_or-set_same owners n place 0 room-too;
          key = get_or-set_same keys n key 0 room ∙ key-is;
          formula = last_numbered fs x n so.count;
          first = λ a h. ap (λ (z : Formula). is_listed z (own_forms (node_at row a))) (last_numbered fs x n so.count) ∙ not_earlier unlisted a h;
        }

    -- the formula is new
    enter_new : is_listed x fs ≡ false → Next (fs ++ (x ∷ [])) (n + 1)
    enter_new unlisted =
        record {
          count = omega (arith, so.count, length-append fs (x ∷ []));
          owned = λ k h.
              ⊎_elim
              (λ (less : ltb k n ≡ true).
              let below = ltb-true k n less in
              owned_still row fs (fs ++ (x ∷ [])) keys (set keys n key) owners (set owners n place) k (so.owned k below)
              (still_numbered fs (x ∷ []) k (omega (arith, so.count))) (get_or-set_other keys n k key 0 (untouched k below))
              (get_or-set_other owners n k place 0 (untouched k below)))
              (λ (more : ltb k n ≡ false).
              let e : k ≡ n = omega (arith, ltb-false k n more) in
              subst (Owned row (fs ++ (x ∷ [])) (set keys n key) (set owners n place)) (sym e) (owned_new unlisted))
              (cases_Bool (ltb k n));
          placed =
              placed_now (fs ++ (x ∷ [])) (listed_last fs x)
              (at_number ∙ number_in_unlisted fs x unlisted ∙ sym (number_in_last fs x unlisted))
              (λ b l other done.
              kept (fs ++ (x ∷ [])) b l other done (listed_append fs (x ∷ []) (form_at row b l)) (number_in_append fs (x ∷ []) (form_at row b l)));
        }

    old_below : is_listed x fs ≡ true → at < n
    old_below listed = rw at_number (subst (λ (k : ℕ). number_in fs x < k) (sym so.count) (number_in_below fs x listed))

    new_behind : is_listed x fs ≡ false → n ≤ at
    new_behind unlisted = omega (arith, so.count, at_number, number_in_unlisted fs x unlisted)

    pub entered : Entered row i (m + 1) (enlist fs (x ∷ [])) (set cand place at) (set keys n key) (set owners n place) (cond (ltb at n) n (n + 1))
    unfolding enlist
    entered =
        ⊎_elim (λ (listed : is_listed x fs ≡ true). rw (listed, lt-ltb at n (old_below listed)) (enter_old listed))
        (λ (unlisted : is_listed x fs ≡ false). rw (unlisted, le-ltb at n (new_behind unlisted)) (enter_new unlisted))
        (cases_Bool (is_listed x fs))
