-- The base of a formula: the first node that has the formula among its forms. The node and the put places tell the formula.
-- Assumes nothing.
use Prim.Native.Nat.{ℕ, zero, suc, ◌+◌, ◌≤◌, ◌<◌}
use native.Mathlib.Omega.{arith}
use mathlib.Core.Path.{◌≡◌, sym, ◌∙◌, ap, ap₂, subst}
use mathlib.Core.Logic.{⊎_elim}
use mathlib.Core.Bool.{Bool, true, false, true≢false, false≢true}
use mathlib.Core.List.{List, [], Memᴰ}
use lib.ListN.{length, get_or}
use lib.Seq.{drop-cons}
use lib.Dec.{ltb}
use borrow.Author.Tests.{ltb-true, ltb-false}
use Rattle.std.proofs.lemmas.Bool.{cases_Bool}
use Rattle.infon.specs.Bytes.{some_of}
use Rattle.infon.specs.Formula.{Formula, True}
use Rattle.infon.specs.Policy.{Entry}
use Rattle.infon.specs.Listing.{Prefix, wrap, weakened, is_listed, list_of}
use Rattle.infon.specs.Rules.{prefix_under, core_of, numbered}
use Rattle.infon.proofs.Prefixes.{listed_mem, mem_listed, wrap_core}
use Rattle.infon.proofs.Listed.{enlist_only}
use Rattle.nodes.specs.Nodes.{Node, node_at, roots, count_nodes}
use Rattle.formulas.specs.Table.{number_in, put_mask, all_put, cell, cell_of}
use Rattle.formulas.specs.Tests.{puts_at, base_at}
use Rattle.formulas.proofs.Numbers.{number_in_below, numbered_number_in, numbered_listed}
use Rattle.prefix.specs.Weaker.{weaker_count, choose, is_base, form_at}
use Rattle.prefix.proofs.Chosen.{weakened_count, weakened_at, choose_bottom, same_prefix}
use Rattle.twins.specs.Twins.{first_from}
use Rattle.listing.specs.Forms.{own_forms, listed_to, Form}
use Rattle.listing.specs.Outcome.{base_in, TableFilled}
use Rattle.listing.proofs.Asked.{listed_all}
use Rattle.listing.proofs.Keys.{wrapped_prefix, wrapped_core}

-- The first number that passes a test, where one of those looked at does.
module _ (test : ℕ → Bool) where
  first_found : (k j a : ℕ) → j ≤ a → a < j + k → test a ≡ true → (test (first_from test j k) ≡ true) × (first_from test j k ≤ a)
  unfolding first_from
  first_found zero j a from until passes = absurd (omega arith)
  first_found (suc k) j a from until passes =
      ⊎_elim (λ (here : test j ≡ true). rw here (here, from))
      (λ (not-here : test j ≡ false).
      let apart : j ≡ a → ⊥ = λ e. true≢false (sym passes ∙ (ap test (sym e) ∙ not-here)) in
      rw not-here (first_found k (suc j) a (omega (arith, apart)) (omega arith) passes))
      (cases_Bool (test j))

  first_is : (k n : ℕ) → n < k → test n ≡ true → ((a : ℕ) → a < n → test a ≡ false) → first_from test 0 k ≡ n
  first_is k n below passes before =
      let first = first_from test 0 k in
      let found = first_found k 0 n (omega arith) (omega arith) passes in
      ⊎_elim (λ (less : ltb first n ≡ true). absurd (true≢false (sym found.0 ∙ before first (ltb-true first n less))))
      (λ (more : ltb first n ≡ false). omega (arith, found.1, ltb-false first n more))
      (cases_Bool (ltb first n))

-- The weaker forms of a formula by number.
weakened_number : (w : Prefix) (x : Formula) (l : ℕ) → l < weaker_count w → numbered (weakened w x) l ≡ wrap (choose w l) x
unfolding numbered
weakened_number w x l less =
    let xs = weakened w x in
    let inside : l < length xs = omega (arith, weakened_count w x) in
    ap (λ (s : List Formula). get_or s 0 True) (sym (drop-cons xs l True inside) ∙ drop-cons xs l x inside) ∙ weakened_at w x l less

-- The forms of a node, by number.
module _ (row : List Node) (a : ℕ) where
  form_own : (l : ℕ) → Form row a l → is_listed (form_at row a l) (own_forms (node_at row a)) ≡ true
  unfolding own_forms form_at
  form_own l form =
      let w = (node_at row a).pre in
      let y = (node_at row a).what in
      rw form.base
      (subst (λ (z : Formula). is_listed z (weakened w y) ≡ true) (weakened_number w y l form.less)
      (numbered_listed (weakened w y) l (omega (arith, form.less, weakened_count w y))))

  pub own_form : (x : Formula) → a < count_nodes row → is_listed x (own_forms (node_at row a)) ≡ true → (l : ℕ) × (Form row a l × (x ≡ form_at row a l))
  unfolding own_forms form_at is_listed some_of
  own_form x below listed =
      let w = (node_at row a).pre in
      let y = (node_at row a).what in
      ⊎_elim
      (λ (base : is_base y ≡ true).
      let inside : is_listed x (weakened w y) ≡ true = rw base at listed in
      let l = number_in (weakened w y) x in
      let less : l < weaker_count w = omega (arith, number_in_below (weakened w y) x inside, weakened_count w y) in (
        l,
        (
          record { below = below; base = base; less = less },
          sym (numbered_number_in (weakened w y) x inside) ∙ weakened_number w y l less,
        ),
      ))
      (λ (none : is_base y ≡ false). absurd (false≢true (rw none at listed)))
      (cases_Bool (is_base y))

-- a form that no earlier node has is of its own node's base
pub base_is : (row : List Node) (b l : ℕ) → Form row b l → (x : Formula) → x ≡ form_at row b l
    → ((a : ℕ) → a < b → is_listed x (own_forms (node_at row a)) ≡ false) → base_in row x ≡ b
unfolding base_in
base_is row b l form x e first =
    first_is (λ (a : ℕ). is_listed x (own_forms (node_at row a))) (count_nodes row) b form.below (rw e (form_own row b l form)) first

-- a listed formula is a form of some node
listed_at : (row : List Node) (x : Formula) (i : ℕ) → is_listed x (listed_to row i) ≡ true
    → (a : ℕ) × ((a < i) × (is_listed x (own_forms (node_at row a)) ≡ true))
unfolding listed_to is_listed some_of
listed_at row x zero h = absurd (false≢true h)
listed_at row x (suc i) h =
    ⊎_elim
    (λ (old : Memᴰ x (listed_to row i)).
    let found = listed_at row x i (mem_listed old) in
    (found.0, (omega (arith, found.1.0), found.1.1)))
    (λ (own : Memᴰ x (own_forms (node_at row i))). (i, (omega arith, mem_listed own)))
    (enlist_only (listed_to row i) (own_forms (node_at row i)) (listed_mem x (listed_to row (suc i)) h))

-- What a node tells of a formula: what stands behind the prefix, and the prefix but for its kinds.
pub record Tells (row : List Node) (b : ℕ) (x : Formula) : Type 0 where
  pub below : b < count_nodes row
  pub core : core_of x ≡ (node_at row b).what
  pub principals : all_put (prefix_under [] x) ≡ all_put (node_at row b).pre

form_tells : (row : List Node) (b l : ℕ) → Form row b l → (x : Formula) → x ≡ form_at row b l → Tells row b x
unfolding form_at
form_tells row b l form x e =
    let w = (node_at row b).pre in
    let y = (node_at row b).what in
    record {
      below = form.below;
      core = ap core_of e ∙ wrapped_core (choose w l) y form.base;
      principals = ap (λ (z : Formula). all_put (prefix_under [] z)) e ∙ ap all_put (wrapped_prefix (choose w l) y form.base) ∙ choose_bottom w l;
    }

-- The base of a listed formula has the formula behind its prefix, and the principals of the prefix stand above it.
pub base_tells : (es : List Entry) (i : ℕ) → i < length (list_of es)
    → Tells (roots es) (base_in (roots es) (numbered (list_of es) i)) (numbered (list_of es) i)
unfolding base_in
base_tells es i h =
    let row = roots es in
    let x = numbered (list_of es) i in
    let listed = subst (λ (fs : List Formula). is_listed x fs ≡ true) (sym (listed_all es)) (numbered_listed (list_of es) i h) in
    let some = listed_at row x (count_nodes row) listed in
    let b = base_in row x in
    let found = first_found (λ (a : ℕ). is_listed x (own_forms (node_at row a))) (count_nodes row) 0 some.0 (omega arith) (omega (arith, some.1.0)) some.1.1 in
    let own = own_form row b x (omega (arith, found.1, some.1.0)) found.0 in
    form_tells row b own.0 own.1.0 x own.1.1

-- What a number stands for can be read off the two tables: the node of its base is in the last column, its put places are in the
-- second,
pub number_tells : (es : List Entry) (before table : List ℕ) → TableFilled es before table → (i : ℕ) → i < length (list_of es)
    → Tells (roots es) (cell table base_at i) (numbered (list_of es) i) × (cell table puts_at i ≡ put_mask (prefix_under [] (numbered (list_of es) i)))
unfolding cell_of
number_tells es before table filled i h = (rw (filled.bases i h) (base_tells es i h), filled.holds.cells puts_at i (omega arith) h)

-- and no other formula has that base and those put places.
pub one_formula : (row : List Node) (b : ℕ) (x y : Formula) → Tells row b x → Tells row b y
    → put_mask (prefix_under [] x) ≡ put_mask (prefix_under [] y) → x ≡ y
unfolding wrap
one_formula row b x y first second puts =
    let prefixes = same_prefix (prefix_under [] x) (prefix_under [] y) (first.principals ∙ sym second.principals) puts in
    sym (wrap_core [] x) ∙ ap₂ wrap prefixes (first.core ∙ sym second.core) ∙ wrap_core [] y
