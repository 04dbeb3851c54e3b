-- The nodes of a file ask, one by one, for what its lines ask for: so the list and code 5 can be had node by node.
-- Assumes nothing.
use Prim.Native.Nat.{ℕ, zero, suc, ◌≤◌, ◌<◌}
use native.Mathlib.Omega.{arith}
use mathlib.Core.Path.{◌≡◌, refl, sym, ◌∙◌, ap}
use mathlib.Core.Bool.{cond}
use mathlib.Core.List.{List, [], ◌∷◌, ◌++◌, append_assoc, append-nil}
use lib.ListN.{length, drop}
use lib.Dec.{ltb}
use borrow.Author.Tests.{lt-ltb, le-ltb}
use Rattle.infon.specs.Formula.{Formula, True, name, and, implies, quoted}
use Rattle.infon.specs.Codes.{when, and_then, Verdict, passed, refused}
use Rattle.infon.specs.Policy.{Entry, formula_in}
use Rattle.infon.specs.Listing.{weakened, weakened_bases, enlist, list_of, most_listed, code5_from, code5}
use Rattle.infon.proofs.Listed.{unskipped, list_from_enlist, enlist_append, enlist_begins, begins_shorter}
use Rattle.nodes.specs.Nodes.{Node, root, part, inner, kids_of, kids, after, node_at, roots, count_nodes}
use Rattle.nodes.proofs.Order.{after_none, node_first, node_step}
use Rattle.nodes.proofs.Codes.{when_less}
use Rattle.prefix.specs.Weaker.{is_base}
use Rattle.listing.specs.Forms.{own_forms, listed_to}

-- all that a row of nodes asks to be listed
unfoldable pub asked : List Node → List Formula
asked [] = []
asked (n ∷ row) = weakened_bases n.pre n.what ++ asked row

asked_roots : (entries : List Entry) → asked (roots entries) ≡ unskipped entries
unfolding asked roots root unskipped
asked_roots [] = refl
asked_roots (e ∷ rest) = ap (λ (xs : List Formula). weakened_bases [] (formula_in e.sentence) ++ xs) (asked_roots rest)

-- a node asks for its own forms, and its kids for the rest
asked_kids : (i : ℕ) (n : Node) (row : List Node) (w : Formula)
    → weakened_bases n.pre w ++ asked row ≡ cond (is_base w) (weakened n.pre w) [] ++ asked (kids_of i n w ++ row)
unfolding weakened_bases is_base asked kids_of part inner
asked_kids i n row True = refl
asked_kids i n row (name a) = refl
asked_kids i n row (and x y) =
    append_assoc (weakened n.pre (and x y)) (weakened_bases n.pre x ++ weakened_bases n.pre y) (asked row)
    ∙ ap (λ (xs : List Formula). weakened n.pre (and x y) ++ xs) (append_assoc (weakened_bases n.pre x) (weakened_bases n.pre y) (asked row))
asked_kids i n row (implies x y) =
    append_assoc (weakened n.pre (implies x y)) (weakened_bases n.pre x ++ weakened_bases n.pre y) (asked row)
    ∙ ap (λ (xs : List Formula). weakened n.pre (implies x y) ++ xs) (append_assoc (weakened_bases n.pre x) (weakened_bases n.pre y) (asked row))
asked_kids i n row (quoted q x) = refl

asked_step : (i : ℕ) (n : Node) (row : List Node) → asked (n ∷ row) ≡ own_forms n ++ asked (kids i n ++ row)
unfolding asked own_forms kids
asked_step i n row = asked_kids i n row n.what

-- What is listed so far and what is still asked for give the whole list.
module _ (row : List Node) where
  listed_so_far : (i : ℕ) → i ≤ count_nodes row → enlist [] (asked row) ≡ enlist (listed_to row i) (asked (after 0 i row))
  unfolding listed_to after
  listed_so_far zero h = refl
  listed_so_far (suc i) h =
      listed_so_far i (omega arith)
      ∙ ap (λ (r : List Node). enlist (listed_to row i) (asked r)) (node_first row i h)
      ∙ ap (enlist (listed_to row i)) (asked_step i (node_at row i) (drop 1 (after 0 i row)))
      ∙ enlist_append (listed_to row i) (own_forms (node_at row i)) (asked (kids i (node_at row i) ++ drop 1 (after 0 i row)))
      ∙ ap (λ (r : List Node). enlist (enlist (listed_to row i) (own_forms (node_at row i))) (asked r)) (sym (node_step row i h))

  listed_whole : enlist [] (asked row) ≡ listed_to row (count_nodes row)
  unfolding asked enlist
  listed_whole =
      listed_so_far (count_nodes row) (omega arith)
      ∙ ap (λ (r : List Node). enlist (listed_to row (count_nodes row)) (asked r)) (after_none 0 (count_nodes row) row (omega arith))

pub listed_all : (entries : List Entry) → listed_to (roots entries) (count_nodes (roots entries)) ≡ list_of entries
unfolding list_of
listed_all entries =
    sym (listed_whole (roots entries)) ∙ ap (enlist []) (asked_roots entries) ∙ sym (list_from_enlist [] entries)

-- Code 5 of the rows still to be gone through.
unfoldable pub code5_of : List Formula → List Node → Verdict
code5_of fs [] = passed
code5_of fs (n ∷ row) =
    let now = enlist fs (weakened_bases n.pre n.what) in
    and_then (when (ltb most_listed (length now)) 5 n.line) (code5_of now row)

code5_from_lem : (fs : List Formula) (entries : List Entry) → code5_from fs entries ≡ code5_of fs (roots entries)
unfolding code5_from code5_of roots root
code5_from_lem fs [] = refl
code5_from_lem fs (e ∷ rest) =
    let now = enlist fs (weakened_bases [] (formula_in e.sentence)) in
    ap (and_then (when (ltb most_listed (length now)) 5 e.start)) (code5_from_lem now rest)

longer : (fs xs : List Formula) → length fs ≤ length (enlist fs xs)
longer fs xs = begins_shorter (enlist_begins fs xs)

module _ (fs : List Formula) (i : ℕ) (n : Node) (row : List Node) where
  abbrev After : Formula → Verdict
  After w =
      let now = enlist fs (weakened_bases n.pre w) in
      and_then (when (ltb most_listed (length now)) 5 n.line) (code5_of now row)

  abbrev Own : Formula → List Formula
  Own w = enlist fs (cond (is_base w) (weakened n.pre w) [])

  leaf_step : (xs : List Formula) → length (enlist fs xs) ≤ most_listed
      → and_then (when (ltb most_listed (length (enlist fs xs))) 5 n.line) (code5_of (enlist fs xs) row) ≡ code5_of (enlist fs xs) row
  unfolding and_then when
  leaf_step xs few = rw (le-ltb most_listed (length (enlist fs xs)) few)

  two_step : (own xs ys : List Formula)
      → and_then (when (ltb most_listed (length (enlist fs (own ++ (xs ++ ys))))) 5 n.line) (code5_of (enlist fs (own ++ (xs ++ ys))) row)
      ≡ and_then (when (ltb most_listed (length (enlist (enlist fs own) xs))) 5 n.line)
      (and_then (when (ltb most_listed (length (enlist (enlist (enlist fs own) xs) ys))) 5 n.line) (code5_of (enlist (enlist (enlist fs own) xs) ys) row))
  two_step own xs ys =
      let e : enlist fs (own ++ (xs ++ ys)) ≡ enlist (enlist (enlist fs own) xs) ys =
      enlist_append fs own (xs ++ ys) ∙ enlist_append (enlist fs own) xs ys in
      ap (λ (now : List Formula). and_then (when (ltb most_listed (length now)) 5 n.line) (code5_of now row)) e
      ∙ when_less most_listed 5 n.line (code5_of (enlist (enlist (enlist fs own) xs) ys) row) (length (enlist (enlist fs own) xs))
      (length (enlist (enlist (enlist fs own) xs) ys)) (longer (enlist (enlist fs own) xs) ys)

  code5_kids : (w : Formula) → length (Own w) ≤ most_listed → After w ≡ code5_of (Own w) (kids_of i n w ++ row)
  unfolding weakened_bases is_base kids_of part inner code5_of enlist
  code5_kids True few = leaf_step (weakened n.pre True) few
  code5_kids (name a) few = leaf_step (weakened n.pre (name a)) few
  code5_kids (and x y) few = two_step (weakened n.pre (and x y)) (weakened_bases n.pre x) (weakened_bases n.pre y)
  code5_kids (implies x y) few = two_step (weakened n.pre (implies x y)) (weakened_bases n.pre x) (weakened_bases n.pre y)
  code5_kids (quoted q x) few = refl

  -- the node's own forms are too many already: so is the line's
  refused_at : (own xs : List Formula) → most_listed < length (enlist fs own)
      → and_then (when (ltb most_listed (length (enlist fs (own ++ xs)))) 5 n.line) (code5_of (enlist fs (own ++ xs)) row) ≡ refused 5 n.line
  unfolding and_then when
  refused_at own xs over =
      let e = ap length (enlist_append fs own xs) in
      rw (lt-ltb most_listed (length (enlist fs (own ++ xs))) (omega (arith, longer (enlist fs own) xs)))

  code5_refused : (w : Formula) → length fs ≤ most_listed → most_listed < length (Own w) → After w ≡ refused 5 n.line
  unfolding weakened_bases is_base enlist
  code5_refused True few over = rw (← append-nil (weakened n.pre True)) (refused_at (weakened n.pre True) [] over)
  code5_refused (name a) few over = rw (← append-nil (weakened n.pre (name a))) (refused_at (weakened n.pre (name a)) [] over)
  code5_refused (and x y) few over = refused_at (weakened n.pre (and x y)) (weakened_bases n.pre x ++ weakened_bases n.pre y) over
  code5_refused (implies x y) few over = refused_at (weakened n.pre (implies x y)) (weakened_bases n.pre x ++ weakened_bases n.pre y) over
  code5_refused (quoted q x) few over = absurd (omega arith)

-- The same by the numbers of the nodes.
module _ (entries : List Entry) where
  pub code5_begins : code5 entries ≡ code5_of (listed_to (roots entries) 0) (after 0 0 (roots entries))
  unfolding code5 listed_to after
  code5_begins = code5_from_lem [] entries

  pub code5_turn : (i : ℕ) → i < count_nodes (roots entries) → length (listed_to (roots entries) (suc i)) ≤ most_listed
      → code5 entries ≡ code5_of (listed_to (roots entries) i) (after 0 i (roots entries))
      → code5 entries ≡ code5_of (listed_to (roots entries) (suc i)) (after 0 (suc i) (roots entries))
  unfolding listed_to own_forms code5_of kids
  code5_turn i h few so_far =
      let row = roots entries in
      so_far
      ∙ ap (code5_of (listed_to row i)) (node_first row i h)
      ∙ code5_kids (listed_to row i) i (node_at row i) (drop 1 (after 0 i row)) (node_at row i).what few
      ∙ ap (code5_of (listed_to row (suc i))) (sym (node_step row i h))

  pub code5_over : (i : ℕ) → i < count_nodes (roots entries) → length (listed_to (roots entries) i) ≤ most_listed
      → most_listed < length (listed_to (roots entries) (suc i))
      → code5 entries ≡ code5_of (listed_to (roots entries) i) (after 0 i (roots entries)) → code5 entries ≡ refused 5 (node_at (roots entries) i).line
  unfolding listed_to own_forms code5_of
  code5_over i h few over so_far =
      let row = roots entries in
      so_far
      ∙ ap (code5_of (listed_to row i)) (node_first row i h)
      ∙ code5_refused (listed_to row i) i (node_at row i) (drop 1 (after 0 i row)) (node_at row i).what few over

  pub code5_end : code5 entries ≡ code5_of (listed_to (roots entries) (count_nodes (roots entries))) (after 0 (count_nodes (roots entries)) (roots entries))
      → code5 entries ≡ passed
  unfolding code5_of
  code5_end so_far =
      so_far
      ∙ ap (code5_of (listed_to (roots entries) (count_nodes (roots entries)))) (after_none 0 (count_nodes (roots entries)) (roots entries) (omega arith))
