-- Codes 3 and 4 by nodes: code 3 is given at node 1,025, code 4 at the first node with more than four quotations above it, each
-- at the line of that node.
-- Assumes nothing.
use Prim.Native.Nat.{ℕ, zero, suc, ◌+◌, ◌-◌, ◌<◌, ◌≤◌, max}
use native.Mathlib.Nat.{zero-add, add-zero}
use native.Mathlib.Omega.{arith}
use mathlib.Core.Path.{◌≡◌, refl, sym, ◌∙◌, ap, subst}
use mathlib.Core.Logic.{⊎_elim}
use mathlib.Core.List.{List, [], ◌∷◌, ◌++◌, append_assoc}
use lib.ListN.{length, get_or, drop}
use lib.Dec.{ltb}
use borrow.Author.Tests.{lt-ltb, le-ltb, ltb-true, ltb-false}
use Rattle.infon.specs.Formula.{Formula, True, name, and, implies, quoted, nodes, depth}
use Rattle.infon.specs.Codes.{when, and_then, Verdict, passed, refused}
use Rattle.infon.specs.Policy.{Entry, formula_in, most_nodes, code3_from, code3, most_depth, code4}
use Rattle.std.proofs.lemmas.Bool.{cases_Bool}
use Rattle.infon.proofs.Tried.{and_then_passed, when_passed}
use Rattle.nodes.specs.Nodes.{Node, part, inner, kids_of, kids, after, nowhere, node_at, root, roots, count_nodes}
use Rattle.nodes.proofs.Order.{after_add, after_all, count_append, node_first, node_step, kids_count}
use Rattle.nodes.proofs.Every.{Each, each_append}

-- Lines. While the nodes of a formula are gone through, all come from its line, whatever stands behind.
kids_line : (i : ℕ) (n : Node) (x : Formula) → Each (λ m. m.line ≡ n.line) (kids_of i n x)
unfolding kids_of part inner
kids_line i n True = tt
kids_line i n (name a) = tt
kids_line i n (and x y) = (refl, (refl, tt))
kids_line i n (implies x y) = (refl, (refl, tt))
kids_line i n (quoted q x) = (refl, tt)

each_line : (line : ℕ) (n : Node) (row : List Node) → n.line ≡ line → Each (λ m. m.line ≡ n.line) row → Each (λ m. m.line ≡ line) row
each_line line n row e h = subst (λ l. Each (λ m. m.line ≡ l) row) e h

-- the first k nodes of a front whose nodes are all of one line are of that line
pub front_line : (line k i : ℕ) (front back : List Node) → Each (λ n. n.line ≡ line) front → k < count_nodes front
    → (get_or (after i k (front ++ back)) 0 nowhere).line ≡ line
unfolding after count_nodes kids
front_line line zero i [] back each h = absurd (omega arith)
front_line line zero i (n ∷ front) back each h = each.0
front_line line (suc k) i [] back each h = absurd (omega arith)
front_line line (suc k) i (n ∷ front) back each h =
    let more = each_append (λ m. m.line ≡ line) (kids i n) front (each_line line n (kids i n) each.0 (kids_line i n n.what)) each.1 in
    let enough : k < count_nodes (kids i n ++ front) = omega (arith, count_append (kids i n) front, kids_count i n) in
    rw (← append_assoc (kids i n) front back) (front_line line k (suc i) (kids i n ++ front) back more enough)

-- Code 3, with so many nodes counted before and the nodes numbered from anywhere.
abbrev Code3At : ℕ → ℕ → List Entry → Verdict
Code3At count j entries =
    when (ltb most_nodes (count + count_nodes (roots entries))) 3 (get_or (after j (most_nodes - count) (roots entries)) 0 nowhere).line

module _ (e : Entry) (rest : List Entry) (count j : ℕ) where
  line_over : most_nodes < count + nodes (formula_in e.sentence) → count ≤ most_nodes → Code3At count j (e ∷ rest) ≡ refused 3 e.start
  unfolding roots root count_nodes when
  line_over over few =
      rw (
        lt-ltb most_nodes (count + (nodes (formula_in e.sentence) + count_nodes (roots rest))) (omega arith),
        front_line e.start (most_nodes - count) j (root e ∷ []) (roots rest) (refl, tt) (omega arith),
      )

  line_under : count + nodes (formula_in e.sentence) ≤ most_nodes
      → Code3At (count + nodes (formula_in e.sentence)) (j + nodes (formula_in e.sentence)) rest ≡ Code3At count j (e ∷ rest)
  unfolding roots root count_nodes
  line_under under =
      let size = nodes (formula_in e.sentence) in
      let sum : count + size + count_nodes (roots rest) ≡ count + (size + count_nodes (roots rest)) = omega arith in
      let left : most_nodes - count ≡ size + (most_nodes - (count + size)) = omega arith in
      rw (
        sum,
        left,
        after_add size (most_nodes - (count + size)) j (root e ∷ roots rest),
        after_all j (formula_in e.sentence) (root e) (roots rest) refl,
      )

code3_from_lem : (entries : List Entry) (count j : ℕ) → count ≤ most_nodes → code3_from count entries ≡ Code3At count j entries
unfolding code3_from roots count_nodes when most_nodes and_then
code3_from_lem [] count j few = rw (le-ltb most_nodes (count + 0) (omega arith))
code3_from_lem (e ∷ rest) count j few =
    let size = nodes (formula_in e.sentence) in
    ⊎_elim (λ over. rw over (sym (line_over e rest count j (ltb-true most_nodes (count + size) over) few)))
    (λ under.
    let fits = ltb-false most_nodes (count + size) under in
    rw under (code3_from_lem rest (count + size) (j + size) fits ∙ line_under e rest count j fits))
    (cases_Bool (ltb most_nodes (count + size)))

pub code3_node : (entries : List Entry)
    → code3 entries ≡ when (ltb most_nodes (count_nodes (roots entries))) 3 (node_at (roots entries) most_nodes).line
unfolding code3 node_at most_nodes
code3_node entries =
    code3_from_lem entries 0 0 (omega arith)
    ∙ ap (λ n. when (ltb most_nodes n) 3 (node_at (roots entries) most_nodes).line) (zero-add (count_nodes (roots entries)))

pub code3_few : (entries : List Entry) → code3 entries ≡ passed → count_nodes (roots entries) ≤ most_nodes
code3_few entries h =
    ltb-false most_nodes (count_nodes (roots entries))
    (when_passed (ltb most_nodes (count_nodes (roots entries))) 3 (node_at (roots entries) most_nodes).line (sym (code3_node entries) ∙ h))

-- Code 4 of the rows still to be gone through: a node's depth is what stands above it and what stands inside.
unfoldable pub code4_of : List Node → Verdict
code4_of [] = passed
code4_of (n ∷ row) = and_then (when (ltb most_depth (length n.pre + depth n.what)) 4 n.line) (code4_of row)

pub code4_roots : (entries : List Entry) → code4 entries ≡ code4_of (roots entries)
unfolding code4 code4_of roots root
code4_roots [] = refl
code4_roots (e ∷ rest) = rw (zero-add (depth (formula_in e.sentence)), code4_roots rest)

-- a test that a smaller number passes need not be made before
module _ (most code place : ℕ) (later : Verdict) where
  pub when_less : (low high : ℕ) → low ≤ high
      → and_then (when (ltb most high) code place) later ≡ and_then (when (ltb most low) code place) (and_then (when (ltb most high) code place) later)
  unfolding when and_then
  when_less low high h =
      ⊎_elim (λ over. rw (over, lt-ltb most high (omega (arith, ltb-true most low over)))) (λ under. rw under)
      (cases_Bool (ltb most low))

  when_max : (l a b : ℕ)
      → and_then (when (ltb most (l + max a b)) code place) later
      ≡ and_then (when (ltb most (l + a)) code place) (and_then (when (ltb most (l + b)) code place) later)
  unfolding when and_then
  when_max l a b =
      ⊎_elim (λ over. rw (over, lt-ltb most (l + max a b) (omega (arith, ltb-true most (l + a) over))))
      (λ under.
      ⊎_elim (λ over. rw (under, over, lt-ltb most (l + max a b) (omega (arith, ltb-true most (l + b) over))))
      (λ low.
      rw (under, low, le-ltb most (l + max a b) (omega (arith, ltb-false most (l + a) under, ltb-false most (l + b) low))))
      (cases_Bool (ltb most (l + b))))
      (cases_Bool (ltb most (l + a)))

-- One node: it is too deep itself, or the code is that of its kids and of what stands behind.
module _ (i : ℕ) (n : Node) (row : List Node) where
  code4_kids : (x : Formula)
      → and_then (when (ltb most_depth (length n.pre + depth x)) 4 n.line) (code4_of row)
      ≡ and_then (when (ltb most_depth (length n.pre)) 4 n.line) (code4_of (kids_of i n x ++ row))
  unfolding kids_of depth code4_of part inner
  code4_kids True = rw (add-zero (length n.pre))
  code4_kids (name a) = rw (add-zero (length n.pre))
  code4_kids (and x y) =
      let l = length n.pre in
      when_less most_depth 4 n.line (code4_of row) l (l + max (depth x) (depth y)) (omega arith)
      ∙ ap (and_then (when (ltb most_depth l) 4 n.line)) (when_max most_depth 4 n.line (code4_of row) l (depth x) (depth y))
  code4_kids (implies x y) =
      let l = length n.pre in
      when_less most_depth 4 n.line (code4_of row) l (l + max (depth x) (depth y)) (omega arith)
      ∙ ap (and_then (when (ltb most_depth l) 4 n.line)) (when_max most_depth 4 n.line (code4_of row) l (depth x) (depth y))
  code4_kids (quoted q x) =
      let l = length n.pre in
      let e : l + suc (depth x) ≡ suc l + depth x = omega arith in
      rw e (when_less most_depth 4 n.line (code4_of row) l (suc l + depth x) (omega arith))

  pub code4_step : code4_of (n ∷ row) ≡ and_then (when (ltb most_depth (length n.pre)) 4 n.line) (code4_of (kids i n ++ row))
  unfolding code4_of kids
  code4_step = code4_kids n.what

-- The same by the numbers of the nodes.
module _ (row : List Node) where
  pub code4_next : (i : ℕ) → i < count_nodes row
      → code4_of (after 0 i row) ≡ and_then (when (ltb most_depth (length (node_at row i).pre)) 4 (node_at row i).line) (code4_of (after 0 (suc i) row))
  code4_next i h =
      ap code4_of (node_first row i h) ∙ code4_step i (node_at row i) (drop 1 (after 0 i row))
      ∙ ap (λ r. and_then (when (ltb most_depth (length (node_at row i).pre)) 4 (node_at row i).line) (code4_of r)) (sym (node_step row i h))

  code4_parts : (i : ℕ) → i < count_nodes row → code4_of (after 0 i row) ≡ passed
      → (when (ltb most_depth (length (node_at row i).pre)) 4 (node_at row i).line ≡ passed) × (code4_of (after 0 (suc i) row) ≡ passed)
  code4_parts i h e =
      and_then_passed (when (ltb most_depth (length (node_at row i).pre)) 4 (node_at row i).line) (code4_of (after 0 (suc i) row))
      (sym (code4_next i h) ∙ e)

  code4_rest : code4_of row ≡ passed → (i : ℕ) → i ≤ count_nodes row → code4_of (after 0 i row) ≡ passed
  unfolding after
  code4_rest e zero h = e
  code4_rest e (suc i) h = (code4_parts i h (code4_rest e i (omega arith))).1

  pub shallow_nodes : code4_of row ≡ passed → (i : ℕ) → i < count_nodes row → length (node_at row i).pre ≤ most_depth
  shallow_nodes e i h =
      ltb-false most_depth (length (node_at row i).pre)
      (when_passed (ltb most_depth (length (node_at row i).pre)) 4 (node_at row i).line (code4_parts i h (code4_rest e i (omega arith))).0)
