-- The columns worked out of the numbers are the cells that the formula table is to have.
-- Assumes nothing.
use Prim.Native.Nat.{ℕ, zero, suc, ◌+◌, ◌-◌, ◌/◌, ◌%◌, ◌≤◌, ◌<◌}
use native.Mathlib.Numerals.{add-one}
use native.Mathlib.Omega.{arith}
use mathlib.Core.Path.{◌≡◌, refl, sym, ◌∙◌, ap, ap₂, subst}
use mathlib.Core.Logic.{◌⊎◌, inl, inr, ⊎_elim}
use mathlib.Core.Bool.{true, false, true≢false, false≢true}
use mathlib.Core.List.{List, []}
use lib.ListN.{get_or}
use lib.Dec.{ltb}
use borrow.Author.Tests.{ltb-true, ltb-false}
use Rattle.std.proofs.lemmas.Bool.{cases_Bool}
use Rattle.infon.specs.Formula.{Formula, True, name, and, implies, quoted, nodes}
use Rattle.infon.specs.Listing.{Prefix, wrap, is_listed}
use Rattle.infon.specs.Rules.{shape_under, shape_of, prefix_under, core_of, numbered}
use Rattle.infon.proofs.Prefixes.{shape_wrap}
use Rattle.nodes.specs.Nodes.{Node, node_at, count_nodes, kind_of, nodes_of, node_rows, node_kind, node_end, node_cell, NodesHeld}
use Rattle.nodes.proofs.Order.{quoted_high}
use Rattle.formulas.specs.Table.{number_in, no_number, put_mask, all_put, bottom_of, shape_kind, left_number, right_number}
use Rattle.prefix.specs.Weaker.{weaker_count, choose, inwards, is_base, form_at}
use Rattle.prefix.proofs.Chosen.{choose_bottom, choose_last, choose_length, weaker_count_positive, mask_bound}
use Rattle.prefix.proofs.Shown.{kind_cell, count_few, pre_few, node_weaker}
use Rattle.prefix.proofs.Inside.{kind_quoted, base_kind, quoted_kind, inside_below, inside_weaker, inside_form, Parts, left_below, right_below, left_form, right_form, left_weaker, right_weaker}
use Rattle.columns.specs.Columns.{stride, inward_kind, form_number_from, form_number, kind_column, put_column, left_column, right_column, bottom_column, base_column, IsForm, IsOwner}
use Rattle.columns.proofs.Steps.{kind_inward, form_parts, right_number_lem}
use Rattle.listing.specs.Forms.{key_at, Form, Owned, Placed}
use Rattle.listing.specs.Outcome.{base_in}
use Rattle.listing.proofs.Keys.{wrapped_prefix, wrapped_core}
use Rattle.listing.proofs.Bases.{base_is}
use Rattle.listing.proofs.Enter.{form_few}

-- what a base's shape under a prefix tells
shape_kind_lem : (w : Prefix) (x : Formula) → is_base x ≡ true → shape_kind (shape_under w x) ≡ kind_of x
unfolding is_base shape_under shape_kind kind_of
shape_kind_lem w True h = refl
shape_kind_lem w (name a) h = refl
shape_kind_lem w (and x y) h = refl
shape_kind_lem w (implies x y) h = refl
shape_kind_lem w (quoted q x) h = absurd (false≢true h)

-- a base with no parts
no_left : (fs : List Formula) (w : Prefix) (x : Formula) → kind_of x < 2 → left_number fs (shape_under w x) ≡ no_number
unfolding kind_of shape_under left_number
no_left fs w True h = refl
no_left fs w (name a) h = refl
no_left fs w (and x y) h = absurd (omega arith)
no_left fs w (implies x y) h = absurd (omega arith)
no_left fs w (quoted q x) h = absurd (let more = quoted_high q x in omega arith)

no_right : (fs : List Formula) (w : Prefix) (x : Formula) → kind_of x < 2 → right_number fs (shape_under w x) ≡ no_number
unfolding kind_of shape_under right_number
no_right fs w True h = refl
no_right fs w (name a) h = refl
no_right fs w (and x y) h = absurd (omega arith)
no_right fs w (implies x y) h = absurd (omega arith)
no_right fs w (quoted q x) h = absurd (let more = quoted_high q x in omega arith)

-- The number of a form, found on the way down to its base.
module _ (file t : List ℕ) (held : NodesHeld file t) (fs : List Formula) (cand : List ℕ)
    (placed : (b l : ℕ) → Form (nodes_of file) b l → Placed (nodes_of file) fs cand b l) where
  abbrev row : List Node
  row = nodes_of file

  abbrev Down : ℕ → ℕ → ℕ → Type 0
  Down k j m = (form_number_from t cand k j m ≡ number_in fs (form_at row j m)) × (is_listed (form_at row j m) fs ≡ true)

  number_down : (k j m : ℕ) → k ≡ node_rows - j → j < count_nodes row → m < weaker_count (node_at row j).pre → Down k j m
  unfolding form_number_from
  number_down zero j m e below less = absurd (omega (arith, count_few file t held))
  number_down (suc k) j m e below less =
      let kind = kind_cell file t held j below in
      ⊎_elim
      (λ (low : ltb (node_cell t node_kind j) 4 ≡ true).
      let base = base_kind (node_at row j).what (subst (λ (n : ℕ). n < 4) kind (ltb-true (node_cell t node_kind j) 4 low)) in
      let here = placed j m (record { below = below; base = base; less = less }) in
      rw low (here.number, here.listed))
      (λ (high : ltb (node_cell t node_kind j) 4 ≡ false).
      let quoting = kind_quoted (node_at row j).what (subst (λ (n : ℕ). 4 ≤ n) kind (ltb-false (node_cell t node_kind j) 4 high)) in
      let q = quoting.0 in
      let x = quoting.1.0 in
      let what = quoting.1.1 in
      let step : inward_kind (node_cell t node_kind j) m ≡ inwards q.told m = ap (λ (n : ℕ). inward_kind n m) (kind ∙ ap kind_of what) ∙ kind_inward q x m in
      let further =
      number_down k (suc j) (inwards q.told m) (omega arith) (inside_below row j m below q x what) (inside_weaker row j m below q x what less) in
      let same = inside_form row j m below q x what in
      rw (high, step) (further.0 ∙ ap (number_in fs) same, subst (λ (z : Formula). is_listed z fs ≡ true) same further.1))
      (cases_Bool (ltb (node_cell t node_kind j) 4))

  module _ (j m : ℕ) (below : j < count_nodes row) (less : m < weaker_count (node_at row j).pre) where
    pub number_form : form_number t cand j m ≡ number_in fs (form_at row j m)
    unfolding form_number
    number_form = (number_down (node_rows - j) j m refl below less).0

    pub form_listed : is_listed (form_at row j m) fs ≡ true
    form_listed = (number_down (node_rows - j) j m refl below less).1

  -- One formula.
  module _ (keys owners : List ℕ) (i : ℕ) (o : Owned row fs keys owners i) where
    abbrev b : ℕ
    b = o.node

    abbrev l : ℕ
    l = o.number

    abbrev w : Prefix
    w = choose (node_at row b).pre l

    abbrev x : Formula
    x = (node_at row b).what

    pub owner_node : get_or owners i 0 / stride ≡ b
    owner_node = omega (arith, o.owner, form_few row (pre_few file t held) b l o.form)

    pub owner_number : get_or owners i 0 % stride ≡ l
    owner_number = omega (arith, o.owner, form_few row (pre_few file t held) b l o.form)

    kind_here : node_cell t node_kind b ≡ kind_of x
    kind_here = kind_cell file t held b o.form.below

    base_below : kind_of x < 4
    base_below =
        ⊎_elim (λ (low : ltb (kind_of x) 4 ≡ true). ltb-true (kind_of x) 4 low)
        (λ (high : ltb (kind_of x) 4 ≡ false). absurd (true≢false (sym o.form.base ∙ quoted_kind x (ltb-false (kind_of x) 4 high))))
        (cases_Bool (ltb (kind_of x) 4))

    abbrev form_here : IsForm file b l
    form_here = (o.form.below, o.form.less)

    pub is_owner : IsOwner file t owners i
    is_owner =
        rw (owner_node, owner_number, kind_here) (form_here, base_below)

    formula_is : numbered fs i ≡ wrap w x
    unfolding form_at
    formula_is = o.formula

    shape_is : shape_of (numbered fs i) ≡ shape_under w x
    shape_is = ap shape_of formula_is ∙ shape_wrap w x

    pub kind_column_lem : kind_column t owners i ≡ shape_kind (shape_of (numbered fs i))
    unfolding kind_column
    kind_column_lem =
        ap (λ (n : ℕ). node_cell t node_kind n) owner_node ∙ kind_here ∙ sym (shape_kind_lem w x o.form.base) ∙ ap shape_kind (sym shape_is)

    prefix_is : prefix_under [] (numbered fs i) ≡ w
    prefix_is = ap (prefix_under []) formula_is ∙ wrapped_prefix w x o.form.base

    core_is : core_of (numbered fs i) ≡ x
    core_is = ap core_of formula_is ∙ wrapped_core w x o.form.base

    pub put_column_lem : put_column keys i ≡ put_mask (prefix_under [] (numbered fs i))
    unfolding put_column key_at
    put_column_lem =
        let few : put_mask w < 16 = mask_bound w (rw (choose_length (node_at row b).pre l) (pre_few file t held b o.form.below)) in
        let rest : get_or keys i 0 % stride ≡ put_mask w = omega (arith, o.key) in
        rest ∙ ap put_mask (sym prefix_is)

    -- the parts
    module _ (two : 2 ≤ node_cell t node_kind b) where
      abbrev parts : Parts row b
      parts = form_parts file t held b l form_here two (rw kind_here base_below)

      left_number_lem : form_number t cand (b + 1) l ≡ number_in fs (wrap w parts.left)
      left_number_lem =
          ap (λ (n : ℕ). form_number t cand n l) (add-one b)
          ∙ number_form (suc b) l (left_below row b o.form.below parts) (left_weaker row b o.form.below parts l o.form.less)
          ∙ ap (number_in fs) (left_form row b o.form.below parts l)

      right_number_is : form_number t cand (node_cell t node_end (b + 1)) l ≡ number_in fs (wrap w parts.right)
      right_number_is =
          ap (λ (n : ℕ). form_number t cand n l) (right_number_lem file t held b l form_here two (rw kind_here base_below))
          ∙ number_form (suc b + nodes parts.left) l (right_below row b o.form.below parts)
          (right_weaker row b o.form.below parts l o.form.less)
          ∙ ap (number_in fs) (right_form row b o.form.below parts l)

      left_shown : number_in fs (wrap w parts.left) ≡ left_number fs (shape_under w x)
      unfolding shape_under left_number
      left_shown = by parts.whole
        where
          by : (x ≡ and parts.left parts.right) ⊎ (x ≡ implies parts.left parts.right)
              → number_in fs (wrap w parts.left) ≡ left_number fs (shape_under w x)
          by (inl e) = ap (λ (y : Formula). left_number fs (shape_under w y)) (sym e)
          by (inr e) = ap (λ (y : Formula). left_number fs (shape_under w y)) (sym e)

      right_shown : number_in fs (wrap w parts.right) ≡ right_number fs (shape_under w x)
      unfolding shape_under right_number
      right_shown = by parts.whole
        where
          by : (x ≡ and parts.left parts.right) ⊎ (x ≡ implies parts.left parts.right)
              → number_in fs (wrap w parts.right) ≡ right_number fs (shape_under w x)
          by (inl e) = ap (λ (y : Formula). right_number fs (shape_under w y)) (sym e)
          by (inr e) = ap (λ (y : Formula). right_number fs (shape_under w y)) (sym e)

    pub left_column_lem : left_column t cand owners i ≡ left_number fs (shape_of (numbered fs i))
    unfolding left_column no_number
    left_column_lem =
        rw (owner_node, owner_number, shape_is)
        (⊎_elim
        (λ (none : ltb (node_cell t node_kind b) 2 ≡ true).
        rw none (sym (no_left fs w x (subst (λ (n : ℕ). n < 2) kind_here (ltb-true (node_cell t node_kind b) 2 none)))))
        (λ (two : ltb (node_cell t node_kind b) 2 ≡ false).
        let some = ltb-false (node_cell t node_kind b) 2 two in
        rw two (left_number_lem some ∙ left_shown some))
        (cases_Bool (ltb (node_cell t node_kind b) 2)))

    pub right_column_lem : right_column t cand owners i ≡ right_number fs (shape_of (numbered fs i))
    unfolding right_column no_number
    right_column_lem =
        rw (owner_node, owner_number, shape_is)
        (⊎_elim
        (λ (none : ltb (node_cell t node_kind b) 2 ≡ true).
        rw none (sym (no_right fs w x (subst (λ (n : ℕ). n < 2) kind_here (ltb-true (node_cell t node_kind b) 2 none)))))
        (λ (two : ltb (node_cell t node_kind b) 2 ≡ false).
        let some = ltb-false (node_cell t node_kind b) 2 two in
        rw two (right_number_is some ∙ right_shown some))
        (cases_Bool (ltb (node_cell t node_kind b) 2)))

    -- the form with put at every place
    last_form : form_at row b (weaker_count (node_at row b).pre - 1) ≡ bottom_of (numbered fs i)
    unfolding form_at bottom_of
    last_form =
        ap₂ wrap
        (choose_last (node_at row b).pre ∙ sym (choose_bottom (node_at row b).pre l) ∙ ap all_put (sym prefix_is))
        (sym core_is)

    last_placed : Placed row fs cand b (weaker_count (node_at row b).pre - 1)
    last_placed =
        placed b (weaker_count (node_at row b).pre - 1)
        (record { below = o.form.below; base = o.form.base; less = omega (arith, weaker_count_positive (node_at row b).pre) })

    pub bottom_column_lem : bottom_column t cand owners i ≡ number_in fs (bottom_of (numbered fs i))
    unfolding bottom_column
    bottom_column_lem =
        rw (owner_node, node_weaker file t held b o.form.below) (last_placed.number ∙ ap (number_in fs) last_form)

    pub bottom_listed : is_listed (bottom_of (numbered fs i)) fs ≡ true
    bottom_listed = subst (λ (z : Formula). is_listed z fs ≡ true) last_form last_placed.listed

    pub base_column_lem : base_column owners i ≡ base_in row (numbered fs i)
    unfolding base_column
    base_column_lem = owner_node ∙ sym (base_is row b l o.form (numbered fs i) o.formula o.first)
