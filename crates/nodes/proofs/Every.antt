-- What holds of the first row and goes from a node to its kids holds of every node: names are names, and the nearest quotation
-- above a node is the one that its prefix begins with.
-- Assumes nothing.
use Prim.Native.Nat.{ℕ, zero, suc, ◌<◌, ◌≤◌}
use native.Mathlib.Omega.{arith}
use mathlib.Core.Path.{◌≡◌, refl, sym, ap, subst}
use mathlib.Core.Logic.{◌⊎◌, inl, inr}
use mathlib.Core.Bool.{true}
use mathlib.Core.List.{List, [], ◌∷◌, ◌++◌, Memᴰ}
use lib.ListN.{length, drop}
use Rattle.infon.specs.Formula.{Quotation, Formula, True, name, and, implies, quoted, is_name, is_named}
use Rattle.infon.specs.Policy.{Entry, entries_of, entries_from, lines_of, formula_in}
use Rattle.std.proofs.lemmas.Bool.{and_parts}
use Rattle.infon.proofs.Named.{entries_named}
use Rattle.nodes.specs.Nodes.{Node, none_above, part, inner, kids_of, kids, after, node_at, root, roots, count_nodes, nodes_of}
use Rattle.nodes.proofs.Order.{node_first, node_step}

-- every node of a row
abbrev pub Each : (Node → Type 0) → List Node → Type 0
Each P [] = Unit {0}
Each P (n ∷ row) = P n × Each P row

pub each_append : (P : Node → Type 0) (front back : List Node) → Each P front → Each P back → Each P (front ++ back)
each_append P [] back h k = k
each_append P (n ∷ front) back h k = (h.0, each_append P front back h.1 k)

pub each_map : (P Q : Node → Type 0) (row : List Node) → ((n : Node) → P n → Q n) → Each P row → Each Q row
each_map P Q [] f h = tt
each_map P Q (n ∷ row) f h = (f n h.0, each_map P Q row f h.1)

-- a law of the rows still to be gone through
pub every_row : (Q : ℕ → List Node → Type 0) (row : List Node)
    → ((i : ℕ) (rest : List Node) → i < count_nodes row → Q i (node_at row i ∷ rest) → Q (suc i) (kids i (node_at row i) ++ rest))
    → Q 0 row → (i : ℕ) → i ≤ count_nodes row → Q i (after 0 i row)
unfolding after
every_row Q row step first zero h = first
every_row Q row step first (suc i) h =
    let so_far = every_row Q row step first i (omega arith) in
    subst (Q (suc i)) (sym (node_step row i h)) (step i (drop 1 (after 0 i row)) h (subst (Q i) (node_first row i h) so_far))

-- a law of the nodes, of each by its number: it holds of the first row, stays while a node waits, and goes to the kids
module _ (P : ℕ → Node → Type 0) (row : List Node)
    (waits : (i : ℕ) (n : Node) → P i n → P (suc i) n)
    (goes : (i : ℕ) → i < count_nodes row → P i (node_at row i) → Each (P (suc i)) (kids i (node_at row i)))
    (first : Each (P 0) row) where
  pub every_waiting : (i : ℕ) → i ≤ count_nodes row → Each (P i) (after 0 i row)
  every_waiting =
      every_row (λ i. Each (P i)) row
      (λ i rest h each. each_append (P (suc i)) (kids i (node_at row i)) rest (goes i h each.0) (each_map (P i) (P (suc i)) rest (waits i) each.1))
      first

  pub every_node : (i : ℕ) → i < count_nodes row → P i (node_at row i)
  every_node i h = (subst (Each (P i)) (node_first row i h) (every_waiting i (omega arith))).0

-- Names.
abbrev Named : Node → Type 0
Named n = is_named n.what ≡ true

kids_named : (i : ℕ) (n : Node) (x : Formula) → is_named x ≡ true → Each Named (kids_of i n x)
unfolding kids_of is_named part inner
kids_named i n True h = tt
kids_named i n (name a) h = tt
kids_named i n (and x y) h = let both = and_parts (is_named x) (is_named y) h in (both.0, (both.1, tt))
kids_named i n (implies x y) h = let both = and_parts (is_named x) (is_named y) h in (both.0, (both.1, tt))
kids_named i n (quoted q x) h = let both = and_parts (is_name q.principal) (is_named x) h in (both.1, tt)

pub nodes_named : (row : List Node) → Each Named row → (i : ℕ) → i < count_nodes row → is_named (node_at row i).what ≡ true
unfolding kids
nodes_named row first =
    every_node (λ i. Named) row (λ i n h. h) (λ i h named. kids_named i (node_at row i) (node_at row i).what named) first

roots_named : (entries : List Entry) → ((e : Entry) → Memᴰ e entries → is_named (formula_in e.sentence) ≡ true) → Each Named (roots entries)
unfolding roots root
roots_named [] named = tt
roots_named (e ∷ rest) named = (named e (Memᴰ.head refl), roots_named rest (λ f m. named f (Memᴰ.tail m)))

-- every formula that begins at a node of a file is one of the language
pub node_named : (file : List ℕ) (i : ℕ) → i < count_nodes (nodes_of file) → is_named (node_at (nodes_of file) i).what ≡ true
unfolding nodes_of entries_of
node_named file = nodes_named (nodes_of file) (roots_named (entries_from (lines_of file)) (entries_named (lines_of file)))

-- Quotations above. A node under no quotation has none above; any other has the number of the quotation that is innermost in its
-- prefix, and the rest of its prefix is that quotation's own.
pub record Below (row : List Node) (i : ℕ) (n : Node) : Type 0 where
  pub quotation : Quotation
  pub quoting : Formula
  pub earlier : n.above < i
  pub there : (node_at row n.above).what ≡ quoted quotation quoting
  pub prefix : n.pre ≡ quotation ∷ (node_at row n.above).pre

abbrev pub Linked : List Node → ℕ → Node → Type 0
Linked row i n = ((n.pre ≡ []) × (n.above ≡ none_above)) ⊎ Below row i n

later_linked : (row : List Node) (i : ℕ) (n : Node) → Linked row i n → Linked row (suc i) n
later_linked row i n (inl top) = inl top
later_linked row i n (inr b) =
    inr
    (record {
      quotation = b.quotation;
      quoting = b.quoting;
      earlier = omega (arith, b.earlier);
      there = b.there;
      prefix = b.prefix;
    })

part_linked : (row : List Node) (i behind : ℕ) (n : Node) (x : Formula) → Linked row i n → Linked row i (part n behind x)
unfolding part
part_linked row i behind n x (inl top) = inl top
part_linked row i behind n x (inr b) =
    inr (record { quotation = b.quotation; quoting = b.quoting; earlier = b.earlier; there = b.there; prefix = b.prefix })

inner_linked : (row : List Node) (i : ℕ) (q : Quotation) (x : Formula) → (node_at row i).what ≡ quoted q x → Linked row (suc i) (inner i (node_at row i) q x)
unfolding inner
inner_linked row i q x e = inr (record { quotation = q; quoting = x; earlier = omega arith; there = e; prefix = refl })

kids_linked : (row : List Node) (i : ℕ) (x : Formula) → (node_at row i).what ≡ x → Linked row (suc i) (node_at row i)
    → Each (Linked row (suc i)) (kids_of i (node_at row i) x)
unfolding kids_of
kids_linked row i True e h = tt
kids_linked row i (name a) e h = tt
kids_linked row i (and x y) e h = (part_linked row (suc i) _ (node_at row i) x h, (part_linked row (suc i) _ (node_at row i) y h, tt))
kids_linked row i (implies x y) e h = (part_linked row (suc i) _ (node_at row i) x h, (part_linked row (suc i) _ (node_at row i) y h, tt))
kids_linked row i (quoted q x) e h = (inner_linked row i q x e, tt)

-- a row whose nodes stand under nothing yet
abbrev pub Outermost : Node → Type 0
Outermost n = (n.pre ≡ []) × (n.above ≡ none_above)

pub nodes_linked : (row : List Node) → Each Outermost row → (i : ℕ) → i < count_nodes row → Linked row i (node_at row i)
unfolding kids
nodes_linked row first =
    every_node (Linked row) row (later_linked row)
    (λ i h linked. kids_linked row i (node_at row i).what refl (later_linked row i (node_at row i) linked))
    (each_map Outermost (Linked row 0) row (λ n top. inl top) first)

pub roots_outermost : (entries : List Entry) → Each Outermost (roots entries)
unfolding roots root
roots_outermost [] = tt
roots_outermost (e ∷ rest) = ((refl, refl), roots_outermost rest)

pub node_linked : (entries : List Entry) (i : ℕ) → i < count_nodes (roots entries) → Linked (roots entries) i (node_at (roots entries) i)
node_linked entries = nodes_linked (roots entries) (roots_outermost entries)

-- Depth: there are no more quotations above a node than nodes before it.
abbrev Shallow : ℕ → Node → Type 0
Shallow i n = length n.pre ≤ i

kids_shallow : (i : ℕ) (n : Node) (x : Formula) → Shallow i n → Each (Shallow (suc i)) (kids_of i n x)
unfolding kids_of part inner
kids_shallow i n True h = tt
kids_shallow i n (name a) h = tt
kids_shallow i n (and x y) h = (omega arith, (omega arith, tt))
kids_shallow i n (implies x y) h = (omega arith, (omega arith, tt))
kids_shallow i n (quoted q x) h = (omega arith, tt)

pub node_shallow : (entries : List Entry) (i : ℕ) → i < count_nodes (roots entries) → length (node_at (roots entries) i).pre ≤ i
unfolding kids
node_shallow entries =
    every_node Shallow (roots entries) (λ i n h. omega arith)
    (λ i h shallow. kids_shallow i (node_at (roots entries) i) (node_at (roots entries) i).what shallow)
    (each_map Outermost (Shallow 0) (roots entries) (λ n top. omega (arith, ap length top.0)) (roots_outermost entries))
