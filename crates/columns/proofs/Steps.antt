-- From a form to the base below it, a step each; and columns, a cell each.
-- Assumes nothing.
use Prim.Native.Nat.{ℕ, zero, suc, ◌+◌, ◌*◌, ◌-◌, ◌/◌, ◌%◌, ◌≤◌, ◌<◌}
use native.Mathlib.Numerals.{add-one}
use native.Mathlib.Omega.{arith}
use mathlib.Core.Path.{◌≡◌, refl, sym, ◌∙◌, ap, subst}
use mathlib.Core.Bool.{true, false, cond}
use mathlib.Core.List.{List}
use lib.ListN.{length, get_or, length-set}
use lib.Dec.{ltb}
use borrow.Author.Tests.{lt-ltb, le-ltb, ltb-false}
use Rattle.infon.specs.Formula.{Told, said, put, Quotation, Formula, True, name, and, implies, quoted, nodes}
use Rattle.nodes.specs.declared.Kind.{Kind}
use Rattle.nodes.specs.Columns.{kind_by, number_of}
use Rattle.nodes.specs.Nodes.{node_at, kind_of, nodes_of, node_rows, node_kind, node_end, node_cell, NodesHeld}
use Rattle.formulas.specs.Table.{table_rows, with_cell}
use Rattle.prefix.specs.Places.{Sized, used, prefix_at, Readable, weaker_count_of}
use Rattle.prefix.specs.Weaker.{inwards}
use Rattle.prefix.proofs.Chosen.{weaker_count_bound, weaker_count_positive}
use Rattle.prefix.proofs.Shown.{kind_cell, end_cell, pre_few, count_few, readable, prefix_sized, node_weaker}
use Rattle.prefix.proofs.Inside.{kind_quoted, inside_below, inside_weaker, Parts, parts_of, left_below, right_below, left_what, left_weaker, right_weaker}
use Rattle.columns.specs.declared.Forms.{Forms}
use Rattle.columns.specs.Columns.{stride, inward_kind, form_number_from, form_number, left_column, right_column, IsForm, IsOwner, with_column}

-- a kind that is named has its number
kind_few : (w : Formula) → kind_of w < 6
unfolding kind_of
kind_few True = omega arith
kind_few (name a) = omega arith
kind_few (and x y) = omega arith
kind_few (implies x y) = omega arith
kind_few (quoted q x) = told_few q.told
  where
    told_few : (t : Told) → kind_of (quoted (record { told = t; principal = q.principal }) x) < 6
    told_few said = omega arith
    told_few put = omega arith

kind_number : (n : ℕ) → n < 6 → number_of (kind_by n) ≡ n
kind_number zero h = refl
kind_number (suc zero) h = refl
kind_number (suc (suc zero)) h = refl
kind_number (suc (suc (suc zero))) h = refl
kind_number (suc (suc (suc (suc zero)))) h = refl
kind_number (suc (suc (suc (suc (suc n))))) h = omega arith

-- What is known of a form.
module _ (file t : List ℕ) (held : NodesHeld file t) (b m : ℕ) (form : IsForm file b m) where
  pub form_row : b < node_rows
  form_row = omega (arith, form.0, count_few file t held)

  pub form_few : m < stride
  form_few =
      omega
      (arith, form.1, weaker_count_bound (node_at (nodes_of file) b).pre (pre_few file t held b form.0))

  -- and of the kind that was read of its node
  pub form_kind : {kind : Kind} → kind ≡ kind_by (node_cell t node_kind b) → number_of kind ≡ node_cell t node_kind b
  form_kind read =
      ap number_of read
      ∙ kind_number (node_cell t node_kind b)
      (rw (kind_cell file t held b form.0) (kind_few (node_at (nodes_of file) b).what))

inward_told : (told : Told) (p : List ℕ) (x : Formula) (m : ℕ)
    → inward_kind (kind_of (quoted (record { told = told; principal = p }) x)) m ≡ inwards told m
unfolding kind_of inward_kind inwards
inward_told said p x m = refl
inward_told put p x m = refl

pub kind_inward : (q : Quotation) (x : Formula) (m : ℕ) → inward_kind (kind_of (quoted q x)) m ≡ inwards q.told m
kind_inward q x m = inward_told q.told q.principal x m

-- one quotation further in is a form again
pub form_inward : (file t : List ℕ) (held : NodesHeld file t) (b m : ℕ) → IsForm file b m → 4 ≤ node_cell t node_kind b
    → IsForm file (b + 1) (inward_kind (node_cell t node_kind b) m)
form_inward file t held b m (below, less) h =
    let row = nodes_of file in
    let kind = kind_cell file t held b below in
    let quoting = kind_quoted (node_at row b).what (subst (λ (k : ℕ). 4 ≤ k) kind h) in
    let q = quoting.0 in
    let x = quoting.1.0 in
    let e = quoting.1.1 in
    let step : inward_kind (node_cell t node_kind b) m ≡ inwards q.told m = ap (λ (k : ℕ). inward_kind k m) (kind ∙ ap kind_of e) ∙ kind_inward q x m in
    rw (add-one b, step) (inside_below row b m below q x e, inside_weaker row b m below q x e less)

-- The way down: what is left of it gives the same number.
pub record Going (file t cand : List ℕ) (j m at form kind : ℕ) : Type 0 where
  pub is_form : IsForm file at form
  pub kind_is : kind ≡ node_cell t node_kind at
  pub rest : form_number_from t cand (node_rows - at) at form ≡ form_number t cand j m

pub going_begins : (file t cand : List ℕ) (j m kind : ℕ) → IsForm file j m → kind ≡ node_cell t node_kind j → Going file t cand j m j m kind
unfolding form_number
going_begins file t cand j m kind form read = record { is_form = form; kind_is = read; rest = refl }

module _ (file t : List ℕ) (held : NodesHeld file t) (cand : List ℕ) (j m at form kind : ℕ) (going : Going file t cand j m at form kind) where
  one_step : form_number_from t cand (node_rows - at) at form
      ≡ cond (ltb kind 4) (get_or cand (at * stride + form) 0) (form_number_from t cand (node_rows - (at + 1)) (suc at) (inward_kind kind form))
  unfolding form_number_from
  one_step =
      let e : node_rows - at ≡ suc (node_rows - (at + 1)) = omega (arith, form_row file t held at form going.is_form) in
      rw going.kind_is (ap (λ (k : ℕ). form_number_from t cand k at form) e)

  pub further : 4 ≤ kind → IsForm file (at + 1) (inward_kind kind form)
  further h = rw going.kind_is (form_inward file t held at form going.is_form (subst (λ (k : ℕ). 4 ≤ k) going.kind_is h))

  pub going_row : 4 ≤ kind → at + 1 < node_rows
  going_row h = form_row file t held (at + 1) (inward_kind kind form) (further h)

  pub going_on : 4 ≤ kind → (next kind' : ℕ) → next ≡ inward_kind kind form → kind' ≡ node_cell t node_kind (at + 1)
      → Going file t cand j m (at + 1) next kind'
  going_on h next kind' e read =
      record {
        is_form = rw e (further h);
        kind_is = read;
        rest =
            rw (e, add-one at)
            (sym (rw (le-ltb kind 4 h, add-one at) at one_step) ∙ going.rest);
      }

  pub going_over : kind < 4 → get_or cand (at * stride + form) 0 ≡ form_number t cand j m
  going_over h = sym (rw (lt-ltb kind 4 h) at one_step) ∙ going.rest

-- one more cell of a column
pub column_turn : (column : ℕ) (f : ℕ → ℕ) (i v : ℕ) (before table next : List ℕ) → table ≡ with_column column f i before → v ≡ f i
    → next ≡ with_cell table column i v → next ≡ with_column column f (i + 1) before
unfolding with_column
column_turn column f i v before table next e value written = rw (written, e, value, add-one i)

pub column_length : (column : ℕ) (f : ℕ → ℕ) (i : ℕ) (before : List ℕ) → length (with_column column f i before) ≡ length before
unfolding with_column
column_length column f zero before = refl
column_length column f (suc i) before = length-set (with_column column f i before) (column * table_rows + i) (f i) ∙ column_length column f i before

-- The parts of a base's form are forms.
module _ (file t : List ℕ) (held : NodesHeld file t) (b m : ℕ) (form : IsForm file b m) (two : 2 ≤ node_cell t node_kind b) (base : node_cell t node_kind b < 4) where
  pub form_parts : Parts (nodes_of file) b
  form_parts =
      let kind = kind_cell file t held b form.0 in
      parts_of (nodes_of file) b form.0 (subst (λ (k : ℕ). 2 ≤ k) kind two) (subst (λ (k : ℕ). k < 4) kind base)

  pub left_is_form : IsForm file (b + 1) m
  left_is_form =
      rw (add-one b) (left_below (nodes_of file) b form.0 form_parts, left_weaker (nodes_of file) b form.0 form_parts m form.1)

  pub right_number_lem : node_cell t node_end (b + 1) ≡ suc b + nodes form_parts.left
  right_number_lem =
      let left = left_below (nodes_of file) b form.0 form_parts in
      ap (λ (n : ℕ). node_cell t node_end n) (add-one b) ∙ end_cell file t held (suc b) left
      ∙ ap (λ (x : Formula). suc b + nodes x) (left_what (nodes_of file) b form.0 form_parts)

  pub right_is_form : IsForm file (node_cell t node_end (b + 1)) m
  right_is_form =
      rw right_number_lem (right_below (nodes_of file) b form.0 form_parts, right_weaker (nodes_of file) b form.0 form_parts m form.1)

-- One formula, by its owner as it was read.
pub record OwnerRead (file t owners : List ℕ) (i owner : ℕ) : Type 0 where
  pub held : NodesHeld file t
  pub owner_is : owner ≡ get_or owners i 0
  pub owned : IsOwner file t owners i

pub owner_read : (forms : Forms) {i owner : ℕ} → i < forms.n → owner ≡ get_or forms.owners.now i 0
    → OwnerRead forms.policy.file.now forms.policy.nodes.now forms.owners.now i owner
owner_read forms {i} below e = record { held = forms.policy.held; owner_is = e; owned = forms.owned.owned i below }

module _ {file t owners : List ℕ} {i owner : ℕ} (read : OwnerRead file t owners i owner) where
  pub owner_form : IsForm file (owner / stride) (owner % stride)
  owner_form = rw read.owner_is read.owned.0

  pub owner_base : node_cell t node_kind (owner / stride) < 4
  owner_base = rw read.owner_is read.owned.1

  pub owner_row : owner / stride < node_rows
  owner_row = form_row file t read.held (owner / stride) (owner % stride) owner_form

  -- and by the kind of its base
  module _ (cand : List ℕ) {kind : Kind} (base : kind ≡ kind_by (node_cell t node_kind (owner / stride))) where
    kind_is : number_of kind ≡ node_cell t node_kind (owner / stride)
    kind_is = form_kind file t read.held (owner / stride) (owner % stride) owner_form base

    pub left_none : ltb (number_of kind) 2 ≡ true → 0xFFFF ≡ left_column t cand owners i
    unfolding left_column
    left_none h = rw (← read.owner_is, ← kind_is, h)

    pub right_none : ltb (number_of kind) 2 ≡ true → 0xFFFF ≡ right_column t cand owners i
    unfolding right_column
    right_none h = rw (← read.owner_is, ← kind_is, h)

    module _ (two : ltb (number_of kind) 2 ≡ false) where
      has_parts : 2 ≤ node_cell t node_kind (owner / stride)
      has_parts = subst (λ (k : ℕ). 2 ≤ k) kind_is (ltb-false (number_of kind) 2 two)

      pub left_form : IsForm file (owner / stride + 1) (owner % stride)
      left_form = left_is_form file t read.held (owner / stride) (owner % stride) owner_form has_parts owner_base

      pub left_row : owner / stride + 1 < node_rows
      left_row = form_row file t read.held (owner / stride + 1) (owner % stride) left_form

      pub left_some : {n : ℕ} → n ≡ form_number t cand (owner / stride + 1) (owner % stride) → n ≡ left_column t cand owners i
      unfolding left_column
      left_some e = rw (← read.owner_is, ← kind_is, two) e

      pub right_form : {right : ℕ} → right ≡ node_cell t node_end (owner / stride + 1) → IsForm file right (owner % stride)
      right_form e = rw e (right_is_form file t read.held (owner / stride) (owner % stride) owner_form has_parts owner_base)

      pub right_some : {n right : ℕ} → right ≡ node_cell t node_end (owner / stride + 1) → n ≡ form_number t cand right (owner % stride)
          → n ≡ right_column t cand owners i
      unfolding right_column
      right_some e f = rw (← read.owner_is, ← kind_is, two, ← e) f

-- The prefix of a form's node, by value.
module _ (file t : List ℕ) (held : NodesHeld file t) (b m : ℕ) (form : IsForm file b m) where
  pub form_readable : Readable t b
  form_readable = readable file t held b form.0

  pub form_sized : Sized (prefix_at t b)
  form_sized = prefix_sized file t held b form.0

  pub form_weaker_some : 1 ≤ weaker_count_of (used (prefix_at t b))
  form_weaker_some =
      rw (node_weaker file t held b form.0) (weaker_count_positive (node_at (nodes_of file) b).pre)

  pub form_weaker_few : weaker_count_of (used (prefix_at t b)) ≤ stride
  form_weaker_few =
      rw (node_weaker file t held b form.0)
      (weaker_count_bound (node_at (nodes_of file) b).pre (pre_few file t held b form.0))
