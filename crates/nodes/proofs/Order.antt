-- Nodes in their order: a node's own nodes come right behind it, its parts first; so the parts' numbers are known.
-- Assumes nothing.
use Prim.Native.Nat.{ℕ, zero, suc, ◌+◌, ◌-◌, ◌<◌, ◌≤◌}
use native.Mathlib.Nat.{zero-add, add-zero, suc-add}
use native.Mathlib.Omega.{arith}
use mathlib.Core.Path.{◌≡◌, refl, sym, ◌∙◌, ap}
use mathlib.Core.List.{List, [], ◌∷◌, ◌++◌}
use lib.ListN.{length, get_or, drop}
use Rattle.infon.specs.Formula.{Told, said, put, Quotation, Formula, True, name, and, implies, quoted, spelling, nodes}
use Rattle.nodes.specs.Nodes.{Node, part, inner, kids_of, kids, after, nowhere, node_at, count_nodes, kind_of}

-- Going on from where one has got to.
pub after_nil : (i k : ℕ) → after i k [] ≡ []
unfolding after
after_nil i zero = refl
after_nil i (suc k) = refl

pub after_add : (a b i : ℕ) (row : List Node) → after i (a + b) row ≡ after (i + a) b (after i a row)
unfolding after
after_add zero b i row = rw (zero-add b, add-zero i)
after_add (suc a) b i [] = after_nil i (suc a + b) ∙ sym (after_nil (i + suc a) b)
after_add (suc a) b i (n ∷ row) =
    let e : suc i + a ≡ i + suc a = omega arith in
    rw (suc-add a b, ← e) (after_add a b (suc i) (kids i n ++ row))

-- Counts. Every formula has a node, and a node's kids have all its nodes but one.
pub nodes_positive : (x : Formula) → 1 ≤ nodes x
unfolding nodes
nodes_positive True = omega arith
nodes_positive (name a) = omega arith
nodes_positive (and x y) = omega arith
nodes_positive (implies x y) = omega arith
nodes_positive (quoted q x) = omega arith

pub count_append : (front back : List Node) → count_nodes (front ++ back) ≡ count_nodes front + count_nodes back
unfolding count_nodes
count_append [] back = sym (zero-add (count_nodes back))
count_append (n ∷ front) back = let below = count_append front back in omega arith

kids_of_count : (i : ℕ) (n : Node) (x : Formula) → suc (count_nodes (kids_of i n x)) ≡ nodes x
unfolding count_nodes kids_of nodes part inner
kids_of_count i n True = refl
kids_of_count i n (name a) = refl
kids_of_count i n (and x y) = omega arith
kids_of_count i n (implies x y) = omega arith
kids_of_count i n (quoted q x) = omega arith

pub kids_count : (i : ℕ) (n : Node) → suc (count_nodes (kids i n)) ≡ nodes n.what
unfolding kids
kids_count i n = kids_of_count i n n.what

pub count_after : (i k : ℕ) (row : List Node) → count_nodes (after i k row) ≡ count_nodes row - k
unfolding after count_nodes
count_after i zero row = omega arith
count_after i (suc k) [] = omega arith
count_after i (suc k) (n ∷ row) =
    omega (arith, count_after (suc i) k (kids i n ++ row), count_append (kids i n) row, kids_count i n)

-- A row of n nodes still has a first one while fewer than n have been gone through.
first_behind : (row : List Node) → 0 < count_nodes row → row ≡ get_or row 0 nowhere ∷ drop 1 row
unfolding count_nodes
first_behind [] h = absurd (omega arith)
first_behind (n ∷ row) h = refl

pub after_first : (i k : ℕ) (row : List Node) → k < count_nodes row → after i k row ≡ get_or (after i k row) 0 nowhere ∷ drop 1 (after i k row)
after_first i k row h = first_behind (after i k row) (omega (arith, count_after i k row))

none_left : (row : List Node) → count_nodes row ≡ 0 → row ≡ []
unfolding count_nodes
none_left [] e = refl
none_left (n ∷ row) e = absurd (omega (arith, nodes_positive n.what))

pub after_none : (i k : ℕ) (row : List Node) → count_nodes row ≤ k → after i k row ≡ []
after_none i k row h = none_left (after i k row) (omega (arith, count_after i k row))

-- one node further: its kids take its place
pub after_step : (i k : ℕ) (row : List Node) → k < count_nodes row
    → after i (suc k) row ≡ kids (i + k) (get_or (after i k row) 0 nowhere) ++ drop 1 (after i k row)
unfolding after
after_step i k row h =
    let e : suc k ≡ k + 1 = omega arith in
    ap (λ j. after i j row) e ∙ after_add k 1 i row ∙ ap (after (i + k) 1) (after_first i k row h)

-- behind all nodes of a formula, the row that stood behind it is left
pub after_all : (i : ℕ) (x : Formula) (n : Node) (row : List Node) → n.what ≡ x → after i (nodes x) (n ∷ row) ≡ row
unfolding after kids kids_of nodes part inner
after_all i True n row e = rw e
after_all i (name a) n row e = rw e
after_all i (and x y) n row e =
    rw e
    (after_add (nodes x) (nodes y) (suc i) _ ∙ ap (after (suc i + nodes x) (nodes y)) (after_all (suc i) x _ _ refl)
    ∙ after_all (suc i + nodes x) y _ row refl)
after_all i (implies x y) n row e =
    rw e
    (after_add (nodes x) (nodes y) (suc i) _ ∙ ap (after (suc i + nodes x) (nodes y)) (after_all (suc i) x _ _ refl)
    ∙ after_all (suc i + nodes x) y _ row refl)
after_all i (quoted q x) n row e = rw e (after_all (suc i) x _ row refl)

-- The numbers of the parts, in a row and for a node i of it.
module _ (row : List Node) (i : ℕ) (below : i < count_nodes row) where
  pub node_first : after 0 i row ≡ node_at row i ∷ drop 1 (after 0 i row)
  unfolding node_at
  node_first = after_first 0 i row below

  pub node_step : after 0 (suc i) row ≡ kids i (node_at row i) ++ drop 1 (after 0 i row)
  unfolding node_at
  node_step = after_step 0 i row below ∙ ap (λ j. kids j (get_or (after 0 i row) 0 nowhere) ++ drop 1 (after 0 i row)) (zero-add i)

  -- all its nodes are nodes of the row
  pub node_within : i + nodes (node_at row i).what ≤ count_nodes row
  unfolding count_nodes
  node_within = omega (arith, count_after 0 i row, ap count_nodes node_first)

  -- the row that stands behind all its nodes
  pub node_behind : after 0 (i + nodes (node_at row i).what) row ≡ drop 1 (after 0 i row)
  node_behind =
      after_add i (nodes (node_at row i).what) 0 row
      ∙ ap (after (0 + i) (nodes (node_at row i).what)) node_first
      ∙ after_all (0 + i) (node_at row i).what (node_at row i) (drop 1 (after 0 i row)) refl

  kids_told : (x : Formula) → (node_at row i).what ≡ x → after 0 (suc i) row ≡ kids_of i (node_at row i) x ++ drop 1 (after 0 i row)
  unfolding kids
  kids_told x e = node_step ∙ ap (λ y. kids_of i (node_at row i) y ++ drop 1 (after 0 i row)) e

  first_of_two : (x y : Node) → after 0 (suc i) row ≡ x ∷ (y ∷ drop 1 (after 0 i row)) → node_at row (suc i) ≡ x
  unfolding node_at
  first_of_two x y e = ap (λ r. get_or r 0 nowhere) e

  second_of_two : (x y : Node) → after 0 (suc i) row ≡ x ∷ (y ∷ drop 1 (after 0 i row)) → node_at row (suc i + nodes x.what) ≡ y
  unfolding node_at
  second_of_two x y e =
      ap (λ r. get_or r 0 nowhere)
      (after_add (suc i) (nodes x.what) 0 row ∙ ap (after (0 + suc i) (nodes x.what)) e
      ∙ after_all (0 + suc i) x.what x (y ∷ drop 1 (after 0 i row)) refl)

  module _ (x y : Formula) where
    pub and_left : (node_at row i).what ≡ and x y → node_at row (suc i) ≡ part (node_at row i) 2 x
    unfolding kids_of
    and_left e = first_of_two _ _ (kids_told (and x y) e)

    pub and_right : (node_at row i).what ≡ and x y → node_at row (suc i + nodes x) ≡ part (node_at row i) (3 + length (spelling x)) y
    unfolding kids_of part
    and_right e = second_of_two _ _ (kids_told (and x y) e)

    pub implies_left : (node_at row i).what ≡ implies x y → node_at row (suc i) ≡ part (node_at row i) 2 x
    unfolding kids_of
    implies_left e = first_of_two _ _ (kids_told (implies x y) e)

    pub implies_right : (node_at row i).what ≡ implies x y → node_at row (suc i + nodes x) ≡ part (node_at row i) (3 + length (spelling x)) y
    unfolding kids_of part
    implies_right e = second_of_two _ _ (kids_told (implies x y) e)

  pub quoted_inner : (q : Quotation) (x : Formula) → (node_at row i).what ≡ quoted q x → node_at row (suc i) ≡ inner i (node_at row i) q x
  unfolding kids_of node_at
  quoted_inner q x e = ap (λ r. get_or r 0 nowhere) (kids_told (quoted q x) e)

-- A quotation's kind is 4 or 5.
told_kind_lem : (told : Told) (principal : List ℕ) (x : Formula) → 4 ≤ kind_of (quoted (record { told = told; principal = principal }) x)
unfolding kind_of
told_kind_lem said principal x = omega arith
told_kind_lem put principal x = omega arith

pub quoted_high : (q : Quotation) (x : Formula) → 4 ≤ kind_of (quoted q x)
quoted_high q x = told_kind_lem q.told q.principal x
