-- What stands above each node, from the first to the last: each node hands it down to its kids, which come later.
-- Assumes nothing.
use Prim.Native.Nat.{ℕ, zero, suc, ◌+◌, ◌≤◌, ◌<◌}
use native.Mathlib.Numerals.{add-one}
use native.Mathlib.Decide.{ℕ_discrete}
use native.Mathlib.Omega.{arith}
use mathlib.Core.Path.{◌≡◌, refl, sym, ◌∙◌, ap, subst}
use mathlib.Core.List.{List, [], ◌∷◌, ◌++◌}
use lib.ListN.{length, drop}
use Rattle.infon.specs.Formula.{Quotation, Formula, True, name, and, implies, quoted, spelling, nodes}
use Rattle.infon.specs.Policy.{entries_of}
use Rattle.nodes.specs.Nodes.{Node, none_above, part, inner, kids_of, kids, after, node_at, roots, count_nodes, kind_of, nodes_of, node_value, node_table, node_cell, with_node_cell}
use Rattle.nodes.proofs.Order.{nodes_positive, count_after, node_first, node_step, node_within, and_left, implies_left, quoted_high}
use Rattle.nodes.proofs.Every.{Each, Outermost, roots_outermost, node_shallow}
use Rattle.policy.specs.Filling.{above_put, ended_cell, RowsAre, Holding, Passes, parts_put, down_by, handed_down, EndReads}
use Rattle.policy.proofs.Numbered.{of_leaf, of_parts, of_quoted}
use Rattle.policy.proofs.Cells.{put_same, put_size, put_row, put_column_lem}
use Rattle.policy.proofs.Ends.{node_reads}

-- The two stores.
module _ (t : List ℕ) (long : length t ≡ node_table) (i above depth : ℕ) (here : i < 1024) where
  abbrev first : List ℕ
  first = with_node_cell t 4 i above

  long_first : length first ≡ node_table
  long_first = put_size t long 4 i above (omega arith) here

  pub above_size : length (above_put t i above depth) ≡ node_table
  unfolding above_put
  above_size = put_size first long_first 6 i depth (omega arith) here

  pub above_there : node_cell (above_put t i above depth) 4 i ≡ above
  unfolding above_put
  above_there = put_column_lem first 6 i depth 4 i here here (omega arith) ∙ put_same t long 4 i above (omega arith) here

  pub depth_there : node_cell (above_put t i above depth) 6 i ≡ depth
  unfolding above_put
  depth_there = put_same first long_first 6 i depth (omega arith) here

  pub above_row : (k j : ℕ) → j < 1024 → (j ≡ i → ⊥) → node_cell (above_put t i above depth) k j ≡ node_cell t k j
  unfolding above_put
  above_row k j there apart = put_row first 6 i depth k j here there apart ∙ put_row t 4 i above k j here there apart

  pub above_column : (k j : ℕ) → j < 1024 → (k ≡ 4 → ⊥) → (k ≡ 6 → ⊥) → node_cell (above_put t i above depth) k j ≡ node_cell t k j
  unfolding above_put
  above_column k j there four six = put_column_lem first 6 i depth k j here there six ∙ put_column_lem t 4 i above k j here there four

-- What a node's kind says, by its number.
module _ (t : List ℕ) (i : ℕ) where
  down_leaf : node_cell t 0 i < 2 → t ≡ handed_down t i
  down_leaf h = of_leaf (λ k. t ≡ down_by k t i) (node_cell t 0 i) h refl refl

  down_quoted : 3 < node_cell t 0 i → above_put t (i + 1) i (node_cell t 6 i + 1) ≡ handed_down t i
  down_quoted h = of_quoted (λ k. above_put t (i + 1) i (node_cell t 6 i + 1) ≡ down_by k t i) (node_cell t 0 i) h refl refl

  down_parts : 2 ≤ node_cell t 0 i → node_cell t 0 i ≤ 3 → parts_put t i ≡ handed_down t i
  down_parts h k = of_parts (λ k. parts_put t i ≡ down_by k t i) (node_cell t 0 i) h k refl refl

-- Only rows behind i and before n change, and of them only what stands above.
pub record Down (t after : List ℕ) (i n : ℕ) : Type 0 where
  pub long : length after ≡ node_table
  pub columns : (k j : ℕ) → j < 1024 → (k ≡ 4 → ⊥) → (k ≡ 6 → ⊥) → node_cell after k j ≡ node_cell t k j
  pub earlier : (k j : ℕ) → j < 1024 → j ≤ i → node_cell after k j ≡ node_cell t k j
  pub later : (k j : ℕ) → j < 1024 → n ≤ j → node_cell after k j ≡ node_cell t k j

down_none : (t : List ℕ) (i n : ℕ) → length t ≡ node_table → Down t t i n
down_none t i n long = record { long = long; columns = λ k j h f s. refl; earlier = λ k j h e. refl; later = λ k j h e. refl }

down_put : (t : List ℕ) (i n p above depth : ℕ) → length t ≡ node_table → i < p → p < n → n ≤ 1024 → Down t (above_put t p above depth) i n
down_put t i n p above depth long low high few =
    record {
      long = above_size t long p above depth (omega arith);
      columns = λ k j h four six. above_column t long p above depth (omega arith) k j h four six;
      earlier = λ k j h e. above_row t long p above depth (omega arith) k j h (omega arith);
      later = λ k j h e. above_row t long p above depth (omega arith) k j h (omega arith);
    }

down_then : (t u v : List ℕ) (i n : ℕ) → Down t u i n → Down u v i n → Down t v i n
down_then t u v i n a b =
    record {
      long = b.long;
      columns = λ k j h four six. b.columns k j h four six ∙ a.columns k j h four six;
      earlier = λ k j h e. b.earlier k j h e ∙ a.earlier k j h e;
      later = λ k j h e. b.later k j h e ∙ a.later k j h e;
    }

-- The nodes still to be gone through have what stands above them already.
abbrev pub Waiting : List ℕ → ℕ → List Node → Type 0
Waiting t j [] = Unit {0}
Waiting t j (n ∷ row) = (node_cell t 4 j ≡ n.above) × ((node_cell t 6 j ≡ length n.pre) × Waiting t (j + nodes n.what) row)

waiting_kept : (t after : List ℕ) (low : ℕ) → ((k j : ℕ) → j < 1024 → low ≤ j → node_cell after k j ≡ node_cell t k j)
    → (row : List Node) (j : ℕ) → low ≤ j → j + count_nodes row ≤ 1024 → Waiting t j row → Waiting after j row
unfolding count_nodes
waiting_kept t after low same [] j h fits w = tt
waiting_kept t after low same (n ∷ row) j h fits w =
    let some_nodes = nodes_positive n.what in (
      same 4 j (omega arith) h ∙ w.0,
      (
        same 6 j (omega arith) h ∙ w.1.0,
        waiting_kept t after low same row (j + nodes n.what) (omega arith) (omega arith) w.1.1,
      ),
    )

-- One node hands down.
module _ (t : List ℕ) (long : length t ≡ node_table) (i : ℕ) (n : Node) (rest : List Node) (fits : i + (nodes n.what + count_nodes rest) ≤ 1024)
    (kind : node_cell t 0 i ≡ kind_of n.what) (waiting : Waiting t i (n ∷ rest)) where
  leaf_down : nodes n.what ≡ 1 → Waiting t (suc i) rest
  leaf_down one = subst (λ j. Waiting t j rest) (omega arith) waiting.1.1

  quoted_down : (q : Quotation) (x : Formula) → nodes n.what ≡ suc (nodes x) → Waiting (above_put t (i + 1) i (node_cell t 6 i + 1)) (suc i) (inner i n q x ∷ rest)
  unfolding inner
  quoted_down q x size =
      let some_nodes = nodes_positive x in
      let here : i + 1 < 1024 = omega arith in
      let next : i + 1 ≡ suc i = add-one i in (
        ap (node_cell (above_put t (i + 1) i (node_cell t 6 i + 1)) 4) (sym next) ∙ above_there t long (i + 1) i (node_cell t 6 i + 1) here,
        (
          ap (node_cell (above_put t (i + 1) i (node_cell t 6 i + 1)) 6) (sym next) ∙ depth_there t long (i + 1) i (node_cell t 6 i + 1) here
              ∙ add-one (node_cell t 6 i) ∙ ap suc waiting.1.0,
          waiting_kept t (above_put t (i + 1) i (node_cell t 6 i + 1)) (suc i + nodes x)
              (λ k j h e. above_row t long (i + 1) i (node_cell t 6 i + 1) here k j h (omega arith))
              rest (suc i + nodes x) (omega arith) (omega arith) (subst (λ j. Waiting t j rest) (omega arith) waiting.1.1),
        ),
      )

  parts_down : (x y : Formula) (b c : ℕ) → nodes n.what ≡ suc (nodes x + nodes y) → node_cell t 3 (i + 1) ≡ suc i + nodes x
      → Waiting (above_put (above_put t (i + 1) (node_cell t 4 i) (node_cell t 6 i)) (node_cell t 3 (i + 1)) (node_cell t 4 i) (node_cell t 6 i)) (suc i)
      (part n b x ∷ (part n c y ∷ rest))
  unfolding part
  parts_down x y b c size right =
      let left_nodes = nodes_positive x in
      let right_nodes = nodes_positive y in
      let above = node_cell t 4 i in
      let depth = node_cell t 6 i in
      let u = above_put t (i + 1) above depth in
      let v = above_put u (node_cell t 3 (i + 1)) above depth in
      let here : i + 1 < 1024 = omega arith in
      let there : node_cell t 3 (i + 1) < 1024 = omega arith in
      let next : i + 1 ≡ suc i = add-one i in
      let long_u = above_size t long (i + 1) above depth here in
      let first : (k : ℕ) → node_cell v k (suc i) ≡ node_cell u k (i + 1) =
      λ k. above_row u long_u (node_cell t 3 (i + 1)) above depth there k (suc i) (omega arith) (omega arith) ∙ ap (node_cell u k) (sym next) in (
        first 4 ∙ above_there t long (i + 1) above depth here ∙ waiting.0,
        (
          first 6 ∙ depth_there t long (i + 1) above depth here ∙ waiting.1.0,
          (
            ap (node_cell v 4) (sym right) ∙ above_there u long_u (node_cell t 3 (i + 1)) above depth there ∙ waiting.0,
            (
              ap (node_cell v 6) (sym right) ∙ depth_there u long_u (node_cell t 3 (i + 1)) above depth there ∙ waiting.1.0,
              waiting_kept t v (suc i + nodes x + nodes y)
                  (λ k j h e.
                  above_row u long_u (node_cell t 3 (i + 1)) above depth there k j h (omega arith)
                  ∙ above_row t long (i + 1) above depth here k j h (omega arith))
                  rest (suc i + nodes x + nodes y) (omega arith) (omega arith) (subst (λ j. Waiting t j rest) (omega arith) waiting.1.1),
            ),
          ),
        ),
      )

-- The rows before i have what stands above them, and so have the nodes that wait.
pub record Handed (row : List Node) (i n : ℕ) (before t : List ℕ) : Type 0 where
  pub size : length t ≡ length before
  pub kept : (k j : ℕ) → k < 7 → (k ≡ 4 → ⊥) → (k ≡ 6 → ⊥) → j < n → node_cell t k j ≡ ended_cell k j (node_at row j)
  pub above : (j : ℕ) → j < i → node_cell t 4 j ≡ (node_at row j).above
  pub depth : (j : ℕ) → j < i → node_cell t 6 j ≡ length (node_at row j).pre
  pub waiting : Waiting t i (after 0 i row)
  pub others : (k j : ℕ) → j < 1024 → n ≤ j → node_cell t k j ≡ node_cell before k j

module _ (row : List Node) (i n : ℕ) (before t : List ℕ) (s : Handed row i n before t) (long : length t ≡ node_table) (here : i < n) (few : n ≤ 1024)
    (all : n ≡ count_nodes row) where
  here_kind : node_cell t 0 i ≡ kind_of (node_at row i).what
  unfolding ended_cell
  here_kind = s.kept 0 i (omega arith) (omega arith) (omega arith) here

  here_ends : (j : ℕ) → i < j → j < count_nodes row → node_cell t 3 j ≡ j + nodes (node_at row j).what
  unfolding ended_cell
  here_ends j h k = s.kept 3 j (omega arith) (omega arith) (omega arith) (omega arith)

  here_waits : Waiting t i (node_at row i ∷ drop 1 (after 0 i row))
  here_waits = subst (Waiting t i) (node_first row i (omega arith)) s.waiting

  here_fits : i + (nodes (node_at row i).what + count_nodes (drop 1 (after 0 i row))) ≤ 1024
  unfolding count_nodes
  here_fits = omega (arith, count_after 0 i row, ap count_nodes (node_first row i (omega arith)))

  pub down_reads : EndReads t i
  down_reads = node_reads row t i (omega arith) (omega arith) here_kind here_ends

  pub down_depth : node_cell t 6 i ≡ length (node_at row i).pre
  down_depth = here_waits.1.0

  size_told : (x : Formula) → (node_at row i).what ≡ x → i + nodes x ≤ n
  size_told x e = subst (λ y. i + nodes y ≤ n) e (subst (λ m. i + nodes (node_at row i).what ≤ m) (sym all) (node_within row i (omega arith)))

  abbrev Downed : Formula → Type 0
  Downed x = Down t (handed_down t i) i n × Waiting (handed_down t i) (suc i) (kids_of i (node_at row i) x ++ drop 1 (after 0 i row))

  -- a leaf, an operator, a quotation
  leaf_downed : (x : Formula) → (node_at row i).what ≡ x → kind_of x < 2 → nodes x ≡ 1
      → Down t (handed_down t i) i n × Waiting (handed_down t i) (suc i) (drop 1 (after 0 i row))
  leaf_downed x e low one =
      let same = down_leaf t i (omega (arith, here_kind, ap kind_of e)) in (
        subst (λ u. Down t u i n) same (down_none t i n long),
        subst (λ u. Waiting u (suc i) (drop 1 (after 0 i row))) same
            (leaf_down t long i (node_at row i) (drop 1 (after 0 i row)) here_fits here_kind here_waits (ap nodes e ∙ one)),
      )

  parts_downed : (x y z : Formula) (b c : ℕ) (left : Node) → (node_at row i).what ≡ z → 2 ≤ kind_of z → kind_of z ≤ 3 → nodes z ≡ suc (nodes x + nodes y)
      → node_at row (suc i) ≡ left → left.what ≡ x
      → Down t (handed_down t i) i n
      × Waiting (handed_down t i) (suc i) (part (node_at row i) b x ∷ (part (node_at row i) c y ∷ drop 1 (after 0 i row)))
  parts_downed x y z b c left e low high size l lw =
      let within = size_told z e in
      let left_nodes = nodes_positive x in
      let right_nodes = nodes_positive y in
      let right : node_cell t 3 (i + 1) ≡ suc i + nodes x =
      ap (node_cell t 3) (add-one i) ∙ here_ends (suc i) (omega arith) (omega arith)
      ∙ ap (λ (m : Node). suc i + nodes m.what) l ∙ ap (λ w. suc i + nodes w) lw in
      let same = down_parts t i (omega (arith, here_kind, ap kind_of e)) (omega (arith, here_kind, ap kind_of e)) in
      let once = down_put t i n (i + 1) (node_cell t 4 i) (node_cell t 6 i) long (omega arith) (omega arith) few in (
        subst (λ u. Down t u i n) same
            (down_then t (above_put t (i + 1) (node_cell t 4 i) (node_cell t 6 i)) _ i n once
            (down_put (above_put t (i + 1) (node_cell t 4 i) (node_cell t 6 i)) i n (node_cell t 3 (i + 1)) (node_cell t 4 i) (node_cell t 6 i) once.long (omega arith)
            (omega arith) few)),
        subst (λ u. Waiting u (suc i) (part (node_at row i) b x ∷ (part (node_at row i) c y ∷ drop 1 (after 0 i row)))) same
            (parts_down t long i (node_at row i) (drop 1 (after 0 i row)) here_fits here_kind here_waits x y b c (ap nodes e ∙ size) right),
      )

  quoted_downed : (q : Quotation) (x : Formula) → (node_at row i).what ≡ quoted q x
      → Down t (handed_down t i) i n × Waiting (handed_down t i) (suc i) (inner i (node_at row i) q x ∷ drop 1 (after 0 i row))
  unfolding nodes
  quoted_downed q x e =
      let within = size_told (quoted q x) e in
      let some_nodes = nodes_positive x in
      let big = quoted_high q x in
      let same = down_quoted t i (omega (arith, here_kind, ap kind_of e)) in (
        subst (λ u. Down t u i n) same (down_put t i n (i + 1) i (node_cell t 6 i + 1) long (omega arith) (omega arith) few),
        subst (λ u. Waiting u (suc i) (inner i (node_at row i) q x ∷ drop 1 (after 0 i row))) same
            (quoted_down t long i (node_at row i) (drop 1 (after 0 i row)) here_fits here_kind here_waits q x (ap nodes e)),
      )

  downed : (x : Formula) → (node_at row i).what ≡ x → Downed x
  unfolding kids_of kind_of nodes part
  downed True e = leaf_downed True e (omega arith) refl
  downed (name a) e = leaf_downed (name a) e (omega arith) refl
  downed (and x y) e = parts_downed x y (and x y) 2 (3 + length (spelling x)) _ e (omega arith) (omega arith) refl (and_left row i (omega arith) x y e) refl
  downed (implies x y) e = parts_downed x y (implies x y) 2 (3 + length (spelling x)) _ e (omega arith) (omega arith) refl (implies_left row i (omega arith) x y e) refl
  downed (quoted q x) e = quoted_downed q x e

  pub handed_turn : Handed row (i + 1) n before (handed_down t i)
  unfolding kids
  handed_turn =
      let both = downed (node_at row i).what refl in
      let d = both.0 in
      let waits : Waiting (handed_down t i) (suc i) (after 0 (suc i) row) = subst (Waiting (handed_down t i) (suc i)) (sym (node_step row i (omega arith))) both.1 in
      record {
        size = d.long ∙ sym long ∙ s.size;
        kept = λ k j column four six below. d.columns k j (omega arith) four six ∙ s.kept k j column four six below;
        above = λ j below. d.earlier 4 j (omega arith) (omega arith) ∙ above_at j below (ℕ_discrete j i);
        depth = λ j below. d.earlier 6 j (omega arith) (omega arith) ∙ depth_at j below (ℕ_discrete j i);
        waiting = rw (add-one i) waits;
        others = λ k j there over. d.later k j there over ∙ s.others k j there over;
      }
    where
      above_at : (j : ℕ) → j < i + 1 → Dec (j ≡ i) → node_cell t 4 j ≡ (node_at row j).above
      above_at j below (yes e) = rw e here_waits.0
      above_at j below (no apart) = s.above j (omega arith)

      depth_at : (j : ℕ) → j < i + 1 → Dec (j ≡ i) → node_cell t 6 j ≡ length (node_at row j).pre
      depth_at j below (yes e) = rw e here_waits.1.0
      depth_at j below (no apart) = s.depth j (omega arith)

-- Before the first node, and behind the last.
roots_wait : (row : List Node) (t : List ℕ) (j : ℕ) → Each Outermost row → ((m : ℕ) → j ≤ m → m < j + count_nodes row → (node_cell t 4 m ≡ none_above) × (node_cell t 6 m ≡ 0))
    → Waiting t j row
unfolding count_nodes
roots_wait [] t j top none_yet = tt
roots_wait (n ∷ row) t j top none_yet =
    let some_nodes = nodes_positive n.what in
    let here = none_yet j (omega arith) (omega arith) in (
      here.0 ∙ sym top.0.1,
      (
        here.1 ∙ sym (ap length top.0.0),
        roots_wait row t (j + nodes n.what) top.1 (λ m low high. none_yet m (omega arith) (omega arith)),
      ),
    )

handed_begin : (file : List ℕ) (n : ℕ) (before t : List ℕ) → n ≡ count_nodes (nodes_of file) → RowsAre (nodes_of file) ended_cell n before t
    → Handed (nodes_of file) 0 n before t
unfolding after ended_cell nodes_of
handed_begin file n before t all held =
    record {
      size = held.size;
      kept = λ k j column four six below. held.cells k j column below;
      above = λ j below. absurd (omega arith);
      depth = λ j below. absurd (omega arith);
      waiting =
          roots_wait (roots (entries_of file)) t 0 (roots_outermost (entries_of file))
          (λ m low high. (held.cells 4 m (omega arith) (omega arith), held.cells 6 m (omega arith) (omega arith)));
      others = held.others;
    }

handed_over : (row : List Node) (i n : ℕ) (before t : List ℕ) → Handed row i n before t → n ≤ i → RowsAre row node_value n before t
unfolding ended_cell node_value
handed_over row i n before t s over = record { size = s.size; cells = by_column; others = s.others }
  where
    by_column : (k j : ℕ) → k < 7 → j < n → node_cell t k j ≡ node_value k j (node_at row j)
    by_column zero j column below = s.kept 0 j column (omega arith) (omega arith) below
    by_column (suc zero) j column below = s.kept 1 j column (omega arith) (omega arith) below
    by_column (suc (suc zero)) j column below = s.kept 2 j column (omega arith) (omega arith) below
    by_column (suc (suc (suc zero))) j column below = s.kept 3 j column (omega arith) (omega arith) below
    by_column (suc (suc (suc (suc zero)))) j column below = s.above j (omega arith)
    by_column (suc (suc (suc (suc (suc zero))))) j column below = s.kept 5 j column (omega arith) (omega arith) below
    by_column (suc (suc (suc (suc (suc (suc zero)))))) j column below = s.depth j (omega arith)
    by_column (suc (suc (suc (suc (suc (suc (suc k))))))) j column below = absurd (omega arith)

-- The way through the table: whatever file it held, what stands above is handed down so far.
pub record AboveTo (start : List ℕ) (count : ℕ) (t : List ℕ) (i : ℕ) : Type 0 where
  pub long : length t ≡ node_table
  pub below : i ≤ count
  pub passes : (file before : List ℕ) → count ≡ count_nodes (nodes_of file) → RowsAre (nodes_of file) ended_cell count before start
      → Handed (nodes_of file) i count before t

pub above_begin : (t : List ℕ) (count : ℕ) → Holding ended_cell t count → AboveTo t count t 0
above_begin t count h =
    record { long = h.long; below = omega arith; passes = λ file before all held. handed_begin file count before t all held }

pub above_over : (start : List ℕ) (count : ℕ) (t : List ℕ) (i : ℕ) → AboveTo start count t i → count ≤ i → Passes ended_cell node_value count start t
above_over start count t i s over =
    λ file before all held. handed_over (nodes_of file) i count before t (s.passes file before all held) over

module _ (start : List ℕ) (count : ℕ) (h : Holding ended_cell start count) (t : List ℕ) (i : ℕ) (s : AboveTo start count t i) (here : i < count) where
  now_handed : Handed (nodes_of h.file) i count h.before t
  now_handed = s.passes h.file h.before h.counted h.held

  pub down_here : i < 1024
  down_here = omega (arith, h.few)

  pub forth_reads : EndReads t i
  forth_reads = down_reads (nodes_of h.file) i count h.before t now_handed s.long here h.few h.counted

  pub forth_depth : node_cell t 6 i < 1024
  unfolding nodes_of
  forth_depth =
      omega (
        arith,
        down_here,
        down_depth (nodes_of h.file) i count h.before t now_handed s.long here h.few h.counted,
        node_shallow (entries_of h.file) i (omega (arith, h.counted)),
      )

  pub forth_turn : (after : List ℕ) → after ≡ handed_down t i → length after ≡ node_table → AboveTo start count after (i + 1)
  forth_turn after same size =
      record {
        long = size;
        below = omega arith;
        passes = λ file before all held.
            subst (Handed (nodes_of file) (i + 1) count before) (sym same)
            (handed_turn (nodes_of file) i count before t (s.passes file before all held) s.long here h.few all);
      }
