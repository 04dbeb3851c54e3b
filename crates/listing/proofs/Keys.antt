-- Keys: two forms are the same formula exactly if their keys are equal, so a formula is found by its key.
-- Assumes nothing.
use Prim.Native.Nat.{ℕ, suc, ◌+◌, ◌*◌, ◌≤◌, ◌<◌}
use native.Mathlib.Omega.{arith}
use mathlib.Core.Path.{◌≡◌, refl, sym, ◌∙◌, ap, ap₂, subst}
use mathlib.Core.Bool.{Bool, true, cond, false≢true}
use mathlib.Core.List.{List, [], ◌∷◌, append-nil}
use lib.ListN.{length, get_or, take}
use lib.Seq.{get_or-take, length-take-le}
use lib.Dec.{eqb}
use borrow.Author.Tests.{eqb-true, eq-eqb}
use Rattle.infon.specs.Formula.{Formula, True, name, and, implies, quoted, same}
use Rattle.infon.specs.Listing.{Prefix, wrap}
use Rattle.infon.specs.Rules.{prefix_under, core_of, numbered}
use Rattle.infon.proofs.Same.{same_refl, same_eq}
use Rattle.infon.proofs.Prefixes.{prefix_wrap, core_wrap}
use Rattle.formulas.specs.Table.{number_in, put_mask, all_put}
use Rattle.formulas.proofs.Numbers.{same_test}
use Rattle.nodes.specs.Nodes.{Node, node_at, count_nodes}
use Rattle.prefix.specs.Weaker.{choose, is_base, form_at}
use Rattle.prefix.proofs.Chosen.{choose_bottom, choose_length, same_prefix, mask_bound}
use Rattle.twins.specs.Twins.{twin_of}
use Rattle.twins.proofs.Same.{twins_eq, eq_twins, same_twin, twin_same}
use Rattle.columns.specs.Columns.{stride}
use Rattle.listing.specs.Forms.{place_in, key_at, Form}

-- a base under a prefix is taken apart again
base_prefix : (w : Prefix) (x : Formula) → is_base x ≡ true → prefix_under w x ≡ w
unfolding is_base prefix_under
base_prefix w True h = refl
base_prefix w (name a) h = refl
base_prefix w (and x y) h = refl
base_prefix w (implies x y) h = refl
base_prefix w (quoted q x) h = absurd (false≢true h)

base_core : (x : Formula) → is_base x ≡ true → core_of x ≡ x
unfolding is_base core_of
base_core True h = refl
base_core (name a) h = refl
base_core (and x y) h = refl
base_core (implies x y) h = refl
base_core (quoted q x) h = absurd (false≢true h)

pub wrapped_prefix : (w : Prefix) (x : Formula) → is_base x ≡ true → prefix_under [] (wrap w x) ≡ w
wrapped_prefix w x h = prefix_wrap w [] x ∙ ap (λ (v : Prefix). prefix_under v x) (append-nil w) ∙ base_prefix w x h

pub wrapped_core : (w : Prefix) (x : Formula) → is_base x ≡ true → core_of (wrap w x) ≡ x
wrapped_core w x h = core_wrap w x ∙ base_core x h

-- Two forms.
module _ (row : List Node) (shallow : (i : ℕ) → i < count_nodes row → length (node_at row i).pre ≤ 4)
    (b l c m : ℕ) (first : Form row b l) (second : Form row c m) where
  abbrev v : Prefix
  v = choose (node_at row b).pre l

  abbrev w : Prefix
  w = choose (node_at row c).pre m

  mask_v : put_mask v < 16
  mask_v = mask_bound v (rw (choose_length (node_at row b).pre l) (shallow b first.below))

  mask_w : put_mask w < 16
  mask_w = mask_bound w (rw (choose_length (node_at row c).pre m) (shallow c second.below))

  key_formula : key_at row b l ≡ key_at row c m → form_at row b l ≡ form_at row c m
  unfolding key_at form_at
  key_formula e =
      let twin : twin_of row b ≡ twin_of row c = omega (arith, mask_v, mask_w) in
      let mask : put_mask v ≡ put_mask w = omega (arith, mask_v, mask_w) in
      let twins = twins_eq (node_at row b) (node_at row c) (same_twin row b c twin) in
      let bottoms : all_put v ≡ all_put w = choose_bottom (node_at row b).pre l ∙ twins.1 ∙ sym (choose_bottom (node_at row c).pre m) in
      ap₂ wrap (same_prefix v w bottoms mask) twins.0

  formula_key : form_at row b l ≡ form_at row c m → key_at row b l ≡ key_at row c m
  unfolding key_at form_at
  formula_key e =
      let what : (node_at row b).what ≡ (node_at row c).what =
      sym (wrapped_core v (node_at row b).what first.base) ∙ ap core_of e ∙ wrapped_core w (node_at row c).what second.base in
      let prefixes : v ≡ w =
      sym (wrapped_prefix v (node_at row b).what first.base) ∙ ap (prefix_under []) e ∙ wrapped_prefix w (node_at row c).what second.base in
      let bottoms : all_put (node_at row b).pre ≡ all_put (node_at row c).pre =
      sym (choose_bottom (node_at row b).pre l) ∙ ap all_put prefixes ∙ choose_bottom (node_at row c).pre m in
      ap₂ (λ (k n : ℕ). k * stride + n) (twin_same row b c (eq_twins (node_at row b) (node_at row c) what bottoms)) (ap put_mask prefixes)

  pub key_same : eqb (key_at row b l) (key_at row c m) ≡ same (form_at row b l) (form_at row c m)
  key_same =
      same_test (eqb (key_at row b l) (key_at row c m)) (same (form_at row b l) (form_at row c m))
      (λ h.
      subst (λ (x : Formula). same (form_at row b l) x ≡ true) (key_formula (eqb-true (key_at row b l) (key_at row c m) h))
      (same_refl (form_at row b l)))
      (λ h. eq-eqb (key_at row b l) (key_at row c m) (formula_key (same_eq (form_at row b l) (form_at row c m) h)))

-- a formula has the place among the keys that it has among the formulas
place_number : (x : ℕ) (z : Formula) (ks : List ℕ) (fs : List Formula) → length ks ≡ length fs
    → ((k : ℕ) → k < length fs → eqb x (get_or ks k 0) ≡ same z (numbered fs k)) → place_in x ks ≡ number_in fs z
unfolding place_in number_in numbered
place_number x z [] [] e agree = refl
place_number x z [] (f ∷ fs) e agree = absurd (omega arith)
place_number x z (k ∷ ks) [] e agree = absurd (omega arith)
place_number x z (k ∷ ks) (f ∷ fs) e agree =
    ap₂ (λ (t : Bool) (n : ℕ). cond t 0 (suc n)) (agree 0 (omega arith))
    (place_number x z ks fs (omega arith) (λ j h. agree (suc j) (omega arith)))

pub found_number : (x : ℕ) (z : Formula) (keys : List ℕ) (n : ℕ) (fs : List Formula) → n ≡ length fs → n ≤ length keys
    → ((k : ℕ) → k < n → eqb x (get_or keys k 0) ≡ same z (numbered fs k)) → place_in x (take n keys) ≡ number_in fs z
found_number x z keys n fs e fits agree =
    place_number x z (take n keys) fs (length-take-le n keys fits ∙ e)
    (λ k h.
    let below : k < n = omega arith in
    ap (eqb x) (get_or-take n keys k 0 below) ∙ agree k below)
