-- Inwards from a node over quotations to its base: what node that is, and how its kinds lead there.
-- Assumes nothing.
use Prim.Native.Nat.{ℕ, suc, ◌+◌, ◌≤◌, ◌<◌}
use native.Mathlib.Omega.{arith}
use mathlib.Core.Path.{◌≡◌, refl, sym, ◌∙◌, ap, subst}
use mathlib.Core.Bool.{Bool, true, false, false≢true}
use mathlib.Core.List.{List, ◌∷◌}
use Rattle.infon.specs.Formula.{Told, said, put, Quotation, Formula, True, name, and, implies, quoted}
use Rattle.infon.specs.Listing.{Prefix}
use Rattle.infon.specs.Rules.{prefix_under, core_of}
use Rattle.nodes.specs.Nodes.{Node, inner, node_at, count_nodes, nodes_of, kind_of, node_cell, node_kind, NodesHeld}
use Rattle.nodes.proofs.Order.{quoted_inner, quoted_high}
use Rattle.prefix.proofs.Shown.{kind_cell}
use Rattle.prefix.proofs.Inside.{kind_quoted, inside_below}
use Rattle.nodes.specs.declared.Kind.{Kind}
use lib.Dec.{ltb}
use Rattle.nodes.specs.Columns.{kind_by, number_of}
use Rattle.nodes.specs.declared.Kind.{Kind}
use Rattle.facts.specs.OneLine.{quotations, base_of}

-- One quotation further in.
module _ (row : List Node) (r : ℕ) (h : r < count_nodes row) (q : Quotation) (x : Formula) (e : (node_at row r).what ≡ quoted q x) where
  step_what : (node_at row (suc r)).what ≡ x
  unfolding inner
  step_what = ap (λ (n : Node). n.what) (quoted_inner row r h q x e)

  step_pre : (node_at row (suc r)).pre ≡ q ∷ (node_at row r).pre
  unfolding inner
  step_pre = ap (λ (n : Node). n.pre) (quoted_inner row r h q x e)

  step_below : suc r < count_nodes row
  step_below = inside_below row r 0 h q x e

  step_base : base_of row (suc r) ≡ base_of row r
  unfolding base_of quotations
  step_base =
      let inside : quotations (node_at row (suc r)).what ≡ quotations x = ap quotations step_what in
      let here : quotations (node_at row r).what ≡ suc (quotations x) = ap quotations e in
      omega arith

-- What the base is: it has the formula's core, and its prefix.
pub record IsBase (row : List Node) (w : Prefix) (x : Formula) (i : ℕ) : Type 0 where
  pub below : i < count_nodes row
  pub core : (node_at row i).what ≡ core_of x
  pub prefix : (node_at row i).pre ≡ prefix_under w x

module _ (row : List Node) where
  base_here : (r : ℕ) (x : Formula) → r < count_nodes row → (node_at row r).what ≡ x → quotations x ≡ 0 → core_of x ≡ x
      → prefix_under (node_at row r).pre x ≡ (node_at row r).pre → IsBase row (node_at row r).pre x (base_of row r)
  unfolding base_of
  base_here r x h e none core prefix =
      let here : r + quotations (node_at row r).what ≡ r = omega (arith, ap quotations e, none) in
      rw here (record { below = h; core = e ∙ sym core; prefix = sym prefix })

  base_by : (x : Formula) (r : ℕ) → r < count_nodes row → (node_at row r).what ≡ x → IsBase row (node_at row r).pre x (base_of row r)
  unfolding quotations core_of prefix_under
  base_by True r h e = base_here r True h e refl refl refl
  base_by (name a) r h e = base_here r (name a) h e refl refl refl
  base_by (and x y) r h e = base_here r (and x y) h e refl refl refl
  base_by (implies x y) r h e = base_here r (implies x y) h e refl refl refl
  base_by (quoted q x) r h e =
      let inside = base_by x (suc r) (step_below row r h q x e) (step_what row r h q x e) in
      let there = step_base row r h q x e in
      let above = step_pre row r h q x e in
      record {
        below = subst (λ (i : ℕ). i < count_nodes row) there inside.below;
        core = subst (λ (i : ℕ). (node_at row i).what ≡ core_of x) there inside.core;
        prefix =
            subst (λ (i : ℕ). (node_at row i).pre ≡ prefix_under (q ∷ (node_at row r).pre) x) there
            (inside.prefix ∙ ap (λ (w : Prefix). prefix_under w x) above);
      }

  pub base_is : (r : ℕ) → r < count_nodes row → IsBase row (node_at row r).pre (node_at row r).what (base_of row r)
  base_is r h = base_by (node_at row r).what r h refl

-- How far the loop has come: node i has the same base.
pub record Inwards (row : List Node) (r i : ℕ) : Type 0 where
  pub below : i < count_nodes row
  pub base : base_of row i ≡ base_of row r

-- a quotation's kind is 4 or 5
high_kind : (x : Formula) → ltb (number_of (kind_by (kind_of x))) 4 ≡ false → 4 ≤ kind_of x
unfolding kind_of
high_kind True e = absurd (false≢true (sym e))
high_kind (name a) e = absurd (false≢true (sym e))
high_kind (and x y) e = absurd (false≢true (sym e))
high_kind (implies x y) e = absurd (false≢true (sym e))
high_kind (quoted q x) e = quoted_high q x

quoted_kind_of : (told : Told) (p : List ℕ) (x : Formula) → ltb (number_of (kind_by (kind_of (quoted (record { told = told; principal = p }) x)))) 4 ≡ false
unfolding kind_of
quoted_kind_of said p x = refl
quoted_kind_of put p x = refl

no_quotations : (x : Formula) → ltb (number_of (kind_by (kind_of x))) 4 ≡ true → quotations x ≡ 0
unfolding quotations
no_quotations True e = refl
no_quotations (name a) e = refl
no_quotations (and x y) e = refl
no_quotations (implies x y) e = refl
no_quotations (quoted q x) e = absurd (false≢true (sym (quoted_kind_of q.told q.principal x) ∙ e))

module _ (file t : List ℕ) (held : NodesHeld file t) (r i : ℕ) (so : Inwards (nodes_of file) r i) {found : Bool} {kind : Kind}
    (e : kind ≡ kind_by (node_cell t node_kind i)) (f : found ≡ ltb (number_of kind) 4) where
  found_is : found ≡ ltb (number_of (kind_by (kind_of (node_at (nodes_of file) i).what))) 4
  found_is = f ∙ ap (λ (k : Kind). ltb (number_of k) 4) (e ∙ ap kind_by (kind_cell file t held i so.below))

  pub inwards_on : found ≡ false → Inwards (nodes_of file) r (i + 1)
  inwards_on here =
      let quotation = kind_quoted (node_at (nodes_of file) i).what (high_kind (node_at (nodes_of file) i).what (sym found_is ∙ here)) in
      let next : i + 1 ≡ suc i = omega arith in
      rw next
      (record {
        below = step_below (nodes_of file) i so.below quotation.0 quotation.1.0 quotation.1.1;
        base = step_base (nodes_of file) i so.below quotation.0 quotation.1.0 quotation.1.1 ∙ so.base;
      })

  pub inwards_over : found ≡ true → i ≡ base_of (nodes_of file) r
  unfolding base_of
  inwards_over none_here =
      let none = no_quotations (node_at (nodes_of file) i).what (sym found_is ∙ none_here) in
      let base : i + quotations (node_at (nodes_of file) i).what ≡ base_of (nodes_of file) r = so.base in
      omega arith
