-- The forms of a node and of the nodes inside it: behind a quotation and below `+` and `>` the parts' forms are forms of nodes.
-- Assumes nothing.
use Prim.Native.Nat.{ℕ, suc, ◌+◌, ◌≤◌, ◌<◌}
use native.Mathlib.Omega.{arith}
use mathlib.Core.Path.{◌≡◌, refl, sym, ◌∙◌, ap, ap₂, subst}
use mathlib.Core.Logic.{◌⊎◌, inl, inr}
use mathlib.Core.Bool.{true, false}
use mathlib.Core.List.{List, ◌∷◌}
use lib.ListN.{length}
use Rattle.infon.specs.Formula.{Quotation, Formula, True, name, and, implies, quoted, spelling, nodes}
use Rattle.infon.specs.Listing.{Prefix, wrap}
use Rattle.nodes.specs.Nodes.{Node, part, inner, node_at, count_nodes, kind_of}
use Rattle.nodes.proofs.Order.{node_within, nodes_positive, and_left, and_right, implies_left, implies_right, quoted_inner, quoted_high}
use Rattle.prefix.specs.Weaker.{weaker_count, choose, inwards, is_base, form_at}
use Rattle.prefix.proofs.Chosen.{wrap_inwards, inwards_below}

-- what a kind tells of the formula
abbrev IsQuoted : Formula → Type 0
IsQuoted w = (q : Quotation) × ((x : Formula) × (w ≡ quoted q x))

pub kind_quoted : (w : Formula) → 4 ≤ kind_of w → IsQuoted w
unfolding kind_of
kind_quoted True h = absurd (omega arith)
kind_quoted (name a) h = absurd (omega arith)
kind_quoted (and x y) h = absurd (omega arith)
kind_quoted (implies x y) h = absurd (omega arith)
kind_quoted (quoted q x) h = (q, (x, refl))

pub base_kind : (w : Formula) → kind_of w < 4 → is_base w ≡ true
unfolding kind_of is_base
base_kind True h = refl
base_kind (name a) h = refl
base_kind (and x y) h = refl
base_kind (implies x y) h = refl
base_kind (quoted q x) h = absurd (let more = quoted_high q x in omega arith)

pub quoted_kind : (w : Formula) → 4 ≤ kind_of w → is_base w ≡ false
unfolding kind_of is_base
quoted_kind True h = absurd (omega arith)
quoted_kind (name a) h = absurd (omega arith)
quoted_kind (and x y) h = absurd (omega arith)
quoted_kind (implies x y) h = absurd (omega arith)
quoted_kind (quoted q x) h = refl

and_size : (x y : Formula) → nodes (and x y) ≡ suc (nodes x + nodes y)
unfolding nodes
and_size x y = refl

implies_size : (x y : Formula) → nodes (implies x y) ≡ suc (nodes x + nodes y)
unfolding nodes
implies_size x y = refl

-- One quotation further in.
module _ (row : List Node) (j m : ℕ) (h : j < count_nodes row) (q : Quotation) (x : Formula) (e : (node_at row j).what ≡ quoted q x) where
  inside_node : node_at row (suc j) ≡ inner j (node_at row j) q x
  inside_node = quoted_inner row j h q x e

  inside_pre : (node_at row (suc j)).pre ≡ q ∷ (node_at row j).pre
  unfolding inner
  inside_pre = ap (λ (n : Node). n.pre) inside_node

  inside_what : (node_at row (suc j)).what ≡ x
  unfolding inner
  inside_what = ap (λ (n : Node). n.what) inside_node

  pub inside_below : suc j < count_nodes row
  unfolding nodes
  inside_below =
      let within = subst (λ (y : Formula). j + nodes y ≤ count_nodes row) e (node_within row j h) in
      omega (arith, nodes_positive x)

  pub inside_weaker : m < weaker_count (node_at row j).pre → inwards q.told m < weaker_count (node_at row (suc j)).pre
  inside_weaker less = rw inside_pre (inwards_below q (node_at row j).pre m less)

  pub inside_form : form_at row (suc j) (inwards q.told m) ≡ form_at row j m
  unfolding form_at
  inside_form =
      ap₂ (λ (w : Prefix) (y : Formula). wrap (choose w (inwards q.told m)) y) inside_pre inside_what
      ∙ wrap_inwards q (node_at row j).pre x m
      ∙ ap (wrap (choose (node_at row j).pre m)) (sym e)

-- The parts of a conjunction or an implication: the left one right behind it, the right one behind the left one's last node.
pub record Parts (row : List Node) (i : ℕ) : Type 0 where
  pub left : Formula
  pub right : Formula
  pub whole : ((node_at row i).what ≡ and left right) ⊎ ((node_at row i).what ≡ implies left right)
  pub left_node : node_at row (suc i) ≡ part (node_at row i) 2 left
  pub right_node : node_at row (suc i + nodes left) ≡ part (node_at row i) (3 + length (spelling left)) right

module _ (row : List Node) (i : ℕ) (h : i < count_nodes row) where
  parts_by_lem : (w : Formula) → (node_at row i).what ≡ w → 2 ≤ kind_of w → kind_of w < 4 → Parts row i
  unfolding kind_of
  parts_by_lem True e low high = absurd (omega arith)
  parts_by_lem (name a) e low high = absurd (omega arith)
  parts_by_lem (and x y) e low high =
      record { left = x; right = y; whole = inl e; left_node = and_left row i h x y e; right_node = and_right row i h x y e }
  parts_by_lem (implies x y) e low high =
      record { left = x; right = y; whole = inr e; left_node = implies_left row i h x y e; right_node = implies_right row i h x y e }
  parts_by_lem (quoted q x) e low high = absurd (let more = quoted_high q x in omega arith)

  pub parts_of : 2 ≤ kind_of (node_at row i).what → kind_of (node_at row i).what < 4 → Parts row i
  parts_of = parts_by_lem (node_at row i).what refl

  module _ (p : Parts row i) where
    size : nodes (node_at row i).what ≡ suc (nodes p.left + nodes p.right)
    size = by p.whole
      where
        by : ((node_at row i).what ≡ and p.left p.right) ⊎ ((node_at row i).what ≡ implies p.left p.right)
            → nodes (node_at row i).what ≡ suc (nodes p.left + nodes p.right)
        by (inl e) = ap nodes e ∙ and_size p.left p.right
        by (inr e) = ap nodes e ∙ implies_size p.left p.right

    pub left_below : suc i < count_nodes row
    left_below = omega (arith, size, node_within row i h, nodes_positive p.right)

    pub right_below : suc i + nodes p.left < count_nodes row
    right_below = omega (arith, size, node_within row i h, nodes_positive p.right)

    pub left_what : (node_at row (suc i)).what ≡ p.left
    unfolding part
    left_what = ap (λ (n : Node). n.what) p.left_node

    part_form : (j behind m : ℕ) (z : Formula) → node_at row j ≡ part (node_at row i) behind z
        → form_at row j m ≡ wrap (choose (node_at row i).pre m) z
    unfolding form_at part
    part_form j behind m z e = ap (λ (n : Node). wrap (choose n.pre m) n.what) e

    part_weaker : (j behind m : ℕ) (z : Formula) → node_at row j ≡ part (node_at row i) behind z → m < weaker_count (node_at row i).pre
        → m < weaker_count (node_at row j).pre
    unfolding part
    part_weaker j behind m z e less = subst (λ (n : Node). m < weaker_count n.pre) (sym e) less

    pub left_form : (m : ℕ) → form_at row (suc i) m ≡ wrap (choose (node_at row i).pre m) p.left
    left_form m = part_form (suc i) 2 m p.left p.left_node

    pub right_form : (m : ℕ) → form_at row (suc i + nodes p.left) m ≡ wrap (choose (node_at row i).pre m) p.right
    right_form m = part_form (suc i + nodes p.left) (3 + length (spelling p.left)) m p.right p.right_node

    pub left_weaker : (m : ℕ) → m < weaker_count (node_at row i).pre → m < weaker_count (node_at row (suc i)).pre
    left_weaker m = part_weaker (suc i) 2 m p.left p.left_node

    pub right_weaker : (m : ℕ) → m < weaker_count (node_at row i).pre → m < weaker_count (node_at row (suc i + nodes p.left)).pre
    right_weaker m = part_weaker (suc i + nodes p.left) (3 + length (spelling p.left)) m p.right p.right_node
