-- What it means that nodes are twins, what the tests on the table and the file say of it, and that twins are those with the
-- same first twin.
-- Assumes nothing.
use Prim.Native.Nat.{ℕ, zero, suc, ◌+◌, ◌≤◌, ◌<◌}
use native.Mathlib.Nat.{zero-add}
use native.Mathlib.Omega.{arith}
use mathlib.Core.Path.{◌≡◌, refl, sym, ◌∙◌, ap, ap₂, subst}
use mathlib.Core.Logic.{⊎_elim}
use mathlib.Core.Bool.{Bool, true, false, ◌&&◌, true≢false, false≢true}
use mathlib.Core.List.{List, [], ◌∷◌}
use lib.ListN.{length}
use lib.Dec.{ltb}
use borrow.Author.Tests.{ltb-true, ltb-false}
use Rattle.std.proofs.lemmas.Bool.{and_parts, and_from, cases_Bool, false_from_ne_true}
use Rattle.infon.specs.Bytes.{alike}
use Rattle.infon.specs.Formula.{put, Quotation, Formula, spelling, same, is_named}
use Rattle.infon.specs.Listing.{Prefix}
use Rattle.infon.proofs.Rows.{alike_refl, alike_eq}
use Rattle.infon.proofs.Same.{same_refl, same_eq}
use Rattle.infon.proofs.Readable.{spelled_alike}
use Rattle.formulas.specs.Table.{all_put}
use Rattle.formulas.proofs.Numbers.{same_test}
use Rattle.nodes.specs.Nodes.{Node, node_at, count_nodes, nodes_of, node_cell, node_depth, NodesHeld}
use Rattle.nodes.proofs.Every.{node_named}
use Rattle.prefix.specs.Places.{Sized, used, EachPlace, prefix_at}
use Rattle.prefix.proofs.Shown.{prefix_sized, depth_cell}
use Rattle.twins.specs.Twins.{same_principals, are_twins, first_from, twin_of, same_places, Quoting}
use Rattle.twins.proofs.Texts.{prefixes_same, all_quoting}

-- Same principals: the same prefix, once put stands at every place.
pub principals_eq : (v w : Prefix) → same_principals v w ≡ true → all_put v ≡ all_put w
unfolding same_principals all_put
principals_eq [] [] h = refl
principals_eq [] (r ∷ w) h = absurd (false≢true h)
principals_eq (q ∷ v) [] h = absurd (false≢true h)
principals_eq (q ∷ v) (r ∷ w) h =
    let both = and_parts (alike q.principal r.principal) (same_principals v w) h in
    ap₂ (λ (p : List ℕ) (u : Prefix). record { told = put; principal = p } ∷ u) (alike_eq q.principal r.principal both.0)
    (principals_eq v w both.1)

pub eq_principals : (v w : Prefix) → all_put v ≡ all_put w → same_principals v w ≡ true
unfolding same_principals all_put
eq_principals [] [] e = refl
eq_principals [] (r ∷ w) e = absurd (let z : ◌≡◌ {A = ℕ} 0 1 = cc in omega arith)
eq_principals (q ∷ v) [] e = absurd (let z : ◌≡◌ {A = ℕ} 0 1 = cc in omega arith)
eq_principals (q ∷ v) (r ∷ w) e =
    let first : ◌≡◌ {A = Quotation} (record { told = put; principal = q.principal }) (record { told = put; principal = r.principal }) = cc in
    let rest : all_put v ≡ all_put w = cc in
    and_from _ _
    (subst (λ (p : List ℕ). alike q.principal p ≡ true) (ap (λ (u : Quotation). u.principal) first) (alike_refl q.principal))
    (eq_principals v w rest)

principals_length : (v w : Prefix) → same_principals v w ≡ true → length v ≡ length w
unfolding same_principals
principals_length [] [] h = refl
principals_length [] (r ∷ w) h = absurd (false≢true h)
principals_length (q ∷ v) [] h = absurd (false≢true h)
principals_length (q ∷ v) (r ∷ w) h = ap suc (principals_length v w (and_parts (alike q.principal r.principal) (same_principals v w) h).1)

-- Twins.
module _ (n o : Node) where
  pub twins_eq : are_twins n o ≡ true → (n.what ≡ o.what) × (all_put n.pre ≡ all_put o.pre)
  unfolding are_twins
  twins_eq h =
      let both = and_parts (same n.what o.what) (same_principals n.pre o.pre) h in
      (same_eq n.what o.what both.0, principals_eq n.pre o.pre both.1)

  pub eq_twins : n.what ≡ o.what → all_put n.pre ≡ all_put o.pre → are_twins n o ≡ true
  unfolding are_twins
  eq_twins e f =
      and_from _ _ (subst (λ (x : Formula). same n.what x ≡ true) e (same_refl n.what)) (eq_principals n.pre o.pre f)

  unlike_depths : (length n.pre ≡ length o.pre → ⊥) → are_twins n o ≡ false
  unfolding are_twins
  unlike_depths apart =
      false_from_ne_true (are_twins n o)
      (λ h. apart (principals_length n.pre o.pre (and_parts (same n.what o.what) (same_principals n.pre o.pre) h).1))

  twins_spelled : is_named n.what ≡ true → is_named o.what ≡ true
      → are_twins n o ≡ alike (spelling n.what) (spelling o.what) && same_principals n.pre o.pre
  unfolding are_twins
  twins_spelled named others =
      ap (λ (b : Bool). b && same_principals n.pre o.pre)
      (same_test (same n.what o.what) (alike (spelling n.what) (spelling o.what))
      (λ h. subst (λ (x : Formula). alike (spelling n.what) (spelling x) ≡ true) (same_eq n.what o.what h) (alike_refl (spelling n.what)))
      (λ h.
      subst (λ (x : Formula). same n.what x ≡ true)
      (spelled_alike n.what o.what named others (alike_eq (spelling n.what) (spelling o.what) h)) (same_refl n.what)))

-- The tests on the node table and the file.
module _ (file t : List ℕ) (held : NodesHeld file t) (i j : ℕ) (hi : i < count_nodes (nodes_of file)) (hj : j < count_nodes (nodes_of file)) where
  abbrev n : Node
  n = node_at (nodes_of file) i

  abbrev o : Node
  o = node_at (nodes_of file) j

  pub depths_apart : {mine other : ℕ} → mine ≡ node_cell t node_depth i → other ≡ node_cell t node_depth j → (mine ≡ other → ⊥) → are_twins n o ≡ false
  depths_apart first second apart =
      unlike_depths n o (λ e. apart (first ∙ depth_cell file t held i hi ∙ e ∙ sym (second ∙ depth_cell file t held j hj)))

  named_twins : are_twins n o ≡ alike (spelling n.what) (spelling o.what) && same_principals n.pre o.pre
  named_twins = twins_spelled n o (node_named file i hi) (node_named file j hj)

  -- the same as the code has it: the comparison of both texts that came back
  module _ (mine others : List ℕ) (equal : Bool) (e : mine ≡ spelling n.what) (f : others ≡ spelling o.what) (compared : equal ≡ alike mine others) where
    texts_compared : are_twins n o ≡ equal && same_principals n.pre o.pre
    texts_compared = named_twins ∙ ap (λ (b : Bool). b && same_principals n.pre o.pre) (sym (compared ∙ ap₂ alike e f))

    pub texts_fail : equal ≡ false → are_twins n o ≡ false
    texts_fail h = texts_compared ∙ ap (λ (b : Bool). b && same_principals n.pre o.pre) h

    pub texts_pass : equal ≡ true → are_twins n o ≡ same_places file t (used (prefix_at t i)) (used (prefix_at t j))
    texts_pass h = texts_compared ∙ ap (λ (b : Bool). b && same_principals n.pre o.pre) h ∙ sym (prefixes_same file t held i j hi hj)

  -- what the comparison of the principals asks
  pub places_asked : {mine other : ℕ} → mine ≡ node_cell t node_depth i → other ≡ node_cell t node_depth j → mine ≡ other
      → record {
        sized : Sized (prefix_at t i) × Sized (prefix_at t j);
        alike_long : (prefix_at t i).count ≡ (prefix_at t j).count;
        mine : EachPlace (Quoting file t) (used (prefix_at t i));
        others : EachPlace (Quoting file t) (used (prefix_at t j));
      }
  unfolding prefix_at
  places_asked first second e =
      record {
        sized = (prefix_sized file t held i hi, prefix_sized file t held j hj);
        alike_long = sym first ∙ e ∙ second;
        mine = all_quoting file t held i hi;
        others = all_quoting file t held j hj;
      }

-- The first that passes a test: it passes, or it is the one behind them; none before it passes.
module _ (test : ℕ → Bool) where
  pub first_most : (j k : ℕ) → first_from test j k ≤ j + k
  unfolding first_from
  first_most j zero = omega arith
  first_most j (suc k) =
      ⊎_elim (λ (e : test j ≡ true). rw e (omega arith))
      (λ (e : test j ≡ false). let later = first_most (suc j) k in rw e (omega arith))
      (cases_Bool (test j))

  first_passes : (j k : ℕ) → test (j + k) ≡ true → test (first_from test j k) ≡ true
  unfolding first_from
  first_passes j zero h = let e : j + 0 ≡ j = omega arith in rw e at h
  first_passes j (suc k) h =
      ⊎_elim (λ (e : test j ≡ true). rw e e)
      (λ (e : test j ≡ false).
      let f : j + suc k ≡ suc j + k = omega arith in
      rw e (first_passes (suc j) k (rw f at h)))
      (cases_Bool (test j))

  none_before : (j k l : ℕ) → j ≤ l → l < first_from test j k → test l ≡ false
  unfolding first_from
  none_before j zero l from before = absurd (omega arith)
  none_before j (suc k) l from before =
      ⊎_elim (λ (e : test j ≡ true). absurd (let b = rw e at before in omega arith))
      (λ (e : test j ≡ false).
      ⊎_elim (λ (less : ltb j l ≡ true). none_before (suc j) k l (ltb-true j l less) (rw e at before))
      (λ (more : ltb j l ≡ false). let same : l ≡ j = omega (arith, ltb-false j l more) in rw (same, e))
      (cases_Bool (ltb j l)))
      (cases_Bool (test j))

module _ (row : List Node) where
  abbrev twin_to : ℕ → ℕ → Bool
  twin_to i j = are_twins (node_at row i) (node_at row j)

  twins_itself : (i : ℕ) → twin_to i i ≡ true
  twins_itself i = eq_twins (node_at row i) (node_at row i) refl refl

  twins_through : (i j k : ℕ) → twin_to i k ≡ true → twin_to j k ≡ true → twin_to i j ≡ true
  twins_through i j k h l =
      let first = twins_eq (node_at row i) (node_at row k) h in
      let second = twins_eq (node_at row j) (node_at row k) l in
      eq_twins (node_at row i) (node_at row j) (first.0 ∙ sym second.0) (first.1 ∙ sym second.1)

  twins_across : (i j k : ℕ) → twin_to i j ≡ true → twin_to i k ≡ true → twin_to j k ≡ true
  twins_across i j k h l =
      let first = twins_eq (node_at row i) (node_at row j) h in
      let second = twins_eq (node_at row i) (node_at row k) l in
      eq_twins (node_at row j) (node_at row k) (sym first.0 ∙ second.0) (sym first.1 ∙ second.1)

  pub twin_most : (i : ℕ) → twin_of row i ≤ i
  unfolding twin_of
  twin_most i = let most = first_most (twin_to i) 0 i in omega arith

  pub twin_is_one : (i : ℕ) → twin_to i (twin_of row i) ≡ true
  unfolding twin_of
  twin_is_one i = first_passes (twin_to i) 0 i (rw (zero-add i) (twins_itself i))

  pub same_twin : (i j : ℕ) → twin_of row i ≡ twin_of row j → twin_to i j ≡ true
  same_twin i j e = twins_through i j (twin_of row j) (subst (λ (k : ℕ). twin_to i k ≡ true) e (twin_is_one i)) (twin_is_one j)

  twin_not_before : (i j : ℕ) → twin_to i j ≡ true → twin_of row i < twin_of row j → ⊥
  unfolding twin_of
  twin_not_before i j h less =
      true≢false (sym (twins_across i j (twin_of row i) h (twin_is_one i)) ∙ none_before (twin_to j) 0 j (twin_of row i) (omega arith) less)

  twins_back : (i j : ℕ) → twin_to i j ≡ true → twin_to j i ≡ true
  twins_back i j h = twins_across i j i h (twins_itself i)

  pub twin_same : (i j : ℕ) → twin_to i j ≡ true → twin_of row i ≡ twin_of row j
  twin_same i j h =
      ⊎_elim (λ (less : ltb (twin_of row i) (twin_of row j) ≡ true). absurd (twin_not_before i j h (ltb-true _ _ less)))
      (λ (some : ltb (twin_of row i) (twin_of row j) ≡ false).
      ⊎_elim (λ (more : ltb (twin_of row j) (twin_of row i) ≡ true). absurd (twin_not_before j i (twins_back i j h) (ltb-true _ _ more)))
      (λ (none : ltb (twin_of row j) (twin_of row i) ≡ false).
      let a = ltb-false (twin_of row i) (twin_of row j) some in
      let b = ltb-false (twin_of row j) (twin_of row i) none in
      omega arith)
      (cases_Bool (ltb (twin_of row j) (twin_of row i))))
      (cases_Bool (ltb (twin_of row i) (twin_of row j)))
