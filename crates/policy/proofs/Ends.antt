-- The ends, from the last node to the first: a node's end is known from the ends of the nodes behind it.
-- Assumes nothing.
use Prim.Native.Nat.{ℕ, zero, suc, ◌+◌, ◌≤◌, ◌<◌}
use native.Mathlib.Numerals.{add-one}
use native.Mathlib.Decide.{dec_lt, ℕ_discrete}
use native.Mathlib.Omega.{arith}
use mathlib.Core.Path.{◌≡◌, refl, sym, ◌∙◌, ap, subst}
use mathlib.Core.Bool.{cond}
use mathlib.Core.List.{List}
use lib.ListN.{length}
use lib.Dec.{ltb}
use borrow.Author.Tests.{lt-ltb, le-ltb}
use Rattle.infon.specs.Formula.{Formula, True, name, and, implies, quoted, nodes}
use Rattle.nodes.specs.Nodes.{Node, part, inner, node_at, count_nodes, kind_of, nodes_of, node_table, node_cell, with_node_cell}
use Rattle.nodes.proofs.Order.{nodes_positive, node_within, and_left, and_right, implies_left, implies_right, quoted_inner, quoted_high}
use Rattle.policy.specs.Filling.{first_cell, ended_cell, RowsAre, Holding, Passes, end_by, end_from, ReadsBy, EndReads}
use Rattle.policy.proofs.Numbered.{of_leaf, of_parts, of_quoted}
use Rattle.policy.proofs.Cells.{put_same, put_size, put_row, put_column_lem}

-- What a node's kind says, by its number.
module _ (t : List ℕ) (i : ℕ) where
  abbrev kind_here : ℕ
  kind_here = node_cell t 0 i

  end_leaf : kind_here < 2 → end_from t i ≡ i + 1
  end_leaf h = of_leaf (λ k. end_by k t i ≡ i + 1) kind_here h refl refl

  end_quoted : 3 < kind_here → end_from t i ≡ node_cell t 3 (i + 1)
  end_quoted h = of_quoted (λ k. end_by k t i ≡ node_cell t 3 (i + 1)) kind_here h refl refl

  end_parts : 2 ≤ kind_here → kind_here ≤ 3 → end_from t i ≡ node_cell t 3 (node_cell t 3 (i + 1))
  end_parts h k = of_parts (λ k. end_by k t i ≡ node_cell t 3 (node_cell t 3 (i + 1))) kind_here h k refl refl

  reads_leaf : kind_here < 2 → EndReads t i
  reads_leaf h = of_leaf (λ k. ReadsBy k t i) kind_here h tt tt

  reads_quoted : 3 < kind_here → i + 1 < 1024 → EndReads t i
  reads_quoted h within = of_quoted (λ k. ReadsBy k t i) kind_here h within within

  reads_parts : 2 ≤ kind_here → kind_here ≤ 3 → i + 1 < 1024 → node_cell t 3 (i + 1) < 1024 → EndReads t i
  reads_parts h k left right = of_parts (λ k. ReadsBy k t i) kind_here h k (left, right) (left, right)

-- A node of a row whose kind is in the table, with the ends of all nodes behind it.
module _ (row : List Node) (t : List ℕ) (i : ℕ) (here : i < count_nodes row) (few : count_nodes row ≤ 1024)
    (kind : node_cell t 0 i ≡ kind_of (node_at row i).what)
    (ends : (j : ℕ) → i < j → j < count_nodes row → node_cell t 3 j ≡ j + nodes (node_at row j).what) where
  size_told : (x : Formula) → (node_at row i).what ≡ x → i + nodes x ≤ count_nodes row
  size_told x e = subst (λ y. i + nodes y ≤ count_nodes row) e (node_within row i here)

  first_end : (x : Formula) (p : Node) → node_at row (suc i) ≡ p → p.what ≡ x → suc i < count_nodes row → node_cell t 3 (i + 1) ≡ suc i + nodes x
  first_end x p e w h =
      ap (node_cell t 3) (add-one i) ∙ ends (suc i) (omega arith) h ∙ ap (λ (n : Node). suc i + nodes n.what) e ∙ ap (λ y. suc i + nodes y) w

  -- An operator's two parts.
  module _ (x y : Formula) (left right : Node) (l : node_at row (suc i) ≡ left) (lw : left.what ≡ x)
      (r : node_at row (suc i + nodes x) ≡ right) (rw' : right.what ≡ y) (within : i + suc (nodes x + nodes y) ≤ count_nodes row) where
    parts_first : node_cell t 3 (i + 1) ≡ suc i + nodes x
    parts_first = first_end x left l lw (omega (arith, nodes_positive x, nodes_positive y))

    parts_end : node_cell t 3 (node_cell t 3 (i + 1)) ≡ i + suc (nodes x + nodes y)
    parts_end =
        ap (node_cell t 3) parts_first ∙ ends (suc i + nodes x) (omega arith) (omega (arith, nodes_positive y))
        ∙ ap (λ (n : Node). suc i + nodes x + nodes n.what) r ∙ ap (λ z. suc i + nodes x + nodes z) rw' ∙ regroup
      where
        regroup : suc i + nodes x + nodes y ≡ i + suc (nodes x + nodes y)
        regroup = omega arith

    parts_reads : 2 ≤ node_cell t 0 i → node_cell t 0 i ≤ 3 → EndReads t i
    parts_reads h k = reads_parts t i h k (omega (arith, nodes_positive x, nodes_positive y)) (omega (arith, parts_first, nodes_positive y))

    parts_told : 2 ≤ node_cell t 0 i → node_cell t 0 i ≤ 3 → end_from t i ≡ i + suc (nodes x + nodes y)
    parts_told h k = end_parts t i h k ∙ parts_end

  abbrev Known : Formula → Type 0
  Known x = (end_from t i ≡ i + nodes x) × EndReads t i

  leaf_known : kind_of (node_at row i).what < 2 → (end_from t i ≡ i + 1) × EndReads t i
  leaf_known low = (end_leaf t i (omega arith), reads_leaf t i (omega arith))

  known : (x : Formula) → (node_at row i).what ≡ x → Known x
  unfolding nodes kind_of part inner
  known True e = leaf_known (omega (arith, ap kind_of e))
  known (name a) e = leaf_known (omega (arith, ap kind_of e))
  known (and x y) e =
      let within = size_told (and x y) e in
      let two = ap kind_of e in (
        parts_told x y _ _ (and_left row i here x y e) refl (and_right row i here x y e) refl within (omega arith) (omega arith),
        parts_reads x y _ _ (and_left row i here x y e) refl (and_right row i here x y e) refl within (omega arith) (omega arith),
      )
  known (implies x y) e =
      let within = size_told (implies x y) e in
      let three = ap kind_of e in (
        parts_told x y _ _ (implies_left row i here x y e) refl (implies_right row i here x y e) refl within (omega arith) (omega arith),
        parts_reads x y _ _ (implies_left row i here x y e) refl (implies_right row i here x y e) refl within (omega arith) (omega arith),
      )
  known (quoted q x) e =
      let within = size_told (quoted q x) e in
      let big = quoted_high q x in
      let is = kind ∙ ap kind_of e in
      let inside : suc i < count_nodes row = omega (arith, nodes_positive x) in (
        end_quoted t i (omega arith) ∙ first_end x _ (quoted_inner row i here q x e) refl inside ∙ omega arith,
        reads_quoted t i (omega arith) (omega arith),
      )

  pub node_end_lem : end_from t i ≡ i + nodes (node_at row i).what
  node_end_lem = (known (node_at row i).what refl).0

  pub node_reads : EndReads t i
  node_reads = (known (node_at row i).what refl).1

-- Rows from i on have their ends, those before not yet.
unfoldable pub mixed_cell : ℕ → ℕ → ℕ → Node → ℕ
mixed_cell i k j n = cond (ltb j i) (first_cell k j n) (ended_cell k j n)

first_ended : (k i : ℕ) (n : Node) → (k ≡ 3 → ⊥) → first_cell k i n ≡ ended_cell k i n
unfolding first_cell ended_cell
first_ended zero i n h = refl
first_ended (suc zero) i n h = refl
first_ended (suc (suc zero)) i n h = refl
first_ended (suc (suc (suc zero))) i n h = absurd (h refl)
first_ended (suc (suc (suc (suc zero)))) i n h = refl
first_ended (suc (suc (suc (suc (suc zero))))) i n h = refl
first_ended (suc (suc (suc (suc (suc (suc k)))))) i n h = refl

mixed_below : (i k j : ℕ) (n : Node) → j < i → mixed_cell i k j n ≡ first_cell k j n
unfolding mixed_cell
mixed_below i k j n h = rw (lt-ltb j i h)

mixed_above : (i k j : ℕ) (n : Node) → i ≤ j → mixed_cell i k j n ≡ ended_cell k j n
unfolding mixed_cell
mixed_above i k j n h = rw (le-ltb j i h)

mixed_same : (i k j : ℕ) (n : Node) → (j ≡ i → ⊥) → mixed_cell (i + 1) k j n ≡ mixed_cell i k j n
mixed_same i k j n apart = by_place (dec_lt j i)
  where
    by_place : Dec (j < i) → mixed_cell (i + 1) k j n ≡ mixed_cell i k j n
    by_place (yes h) = mixed_below (i + 1) k j n (omega arith) ∙ sym (mixed_below i k j n h)
    by_place (no h) = mixed_above (i + 1) k j n (omega arith) ∙ sym (mixed_above i k j n (omega arith))

module _ (row : List Node) (n : ℕ) (before t : List ℕ) (i : ℕ) (held : RowsAre row (mixed_cell (i + 1)) n before t) (here : i < n) (few : n ≤ 1024)
    (all : n ≡ count_nodes row) where
  mixed_kind : node_cell t 0 i ≡ kind_of (node_at row i).what
  unfolding first_cell
  mixed_kind = held.cells 0 i (omega arith) here ∙ mixed_below (i + 1) 0 i (node_at row i) (omega arith)

  mixed_ends : (j : ℕ) → i < j → j < count_nodes row → node_cell t 3 j ≡ j + nodes (node_at row j).what
  unfolding ended_cell
  mixed_ends j h k = held.cells 3 j (omega arith) (omega arith) ∙ mixed_above (i + 1) 3 j (node_at row j) (omega arith)

  pub ends_told : end_from t i ≡ i + nodes (node_at row i).what
  ends_told = node_end_lem row t i (omega arith) (omega arith) mixed_kind mixed_ends

  pub ends_read : EndReads t i
  ends_read = node_reads row t i (omega arith) (omega arith) mixed_kind mixed_ends

  pub ends_within : end_from t i ≤ n
  ends_within = omega (arith, ends_told, node_within row i (omega arith))

  module _ (long : length t ≡ node_table) (end : ℕ) (e : end ≡ end_from t i) where
    by_cell : (k j : ℕ) → k < 7 → j < n → Dec (j ≡ i) → Dec (k ≡ 3) → node_cell (with_node_cell t 3 i end) k j ≡ mixed_cell i k j (node_at row j)
    unfolding ended_cell
    by_cell k j column below (yes same) (yes three) =
        rw (same, three)
        (put_same t long 3 i end (omega arith) (omega arith) ∙ e ∙ ends_told ∙ sym (mixed_above i 3 i (node_at row i) (omega arith)))
    by_cell k j column below (yes same) (no other) =
        rw same
        (put_column_lem t 3 i end k i (omega arith) (omega arith) other ∙ held.cells k i column here ∙ mixed_below (i + 1) k i (node_at row i) (omega arith)
        ∙ first_ended k i (node_at row i) other ∙ sym (mixed_above i k i (node_at row i) (omega arith)))
    by_cell k j column below (no apart) d =
        put_row t 3 i end k j (omega arith) (omega arith) apart ∙ held.cells k j column below ∙ mixed_same i k j (node_at row j) apart

    pub ends_held : RowsAre row (mixed_cell i) n before (with_node_cell t 3 i end)
    ends_held =
        record {
          size = put_size t long 3 i end (omega arith) (omega arith) ∙ sym long ∙ held.size;
          cells = λ k j column below. by_cell k j column below (ℕ_discrete j i) (ℕ_discrete k 3);
          others = λ k j there over. put_row t 3 i end k j (omega arith) there (omega arith) ∙ held.others k j there over;
        }

-- The way back through the table: whatever file it held, the rows from i on have their ends.
pub record EndsTo (first : List ℕ) (count : ℕ) (t : List ℕ) (i : ℕ) : Type 0 where
  pub long : length t ≡ node_table
  pub below : i ≤ count
  pub passes : Passes first_cell (mixed_cell i) count first t

pub ends_begin : (t : List ℕ) (count : ℕ) → Holding first_cell t count → EndsTo t count t count
ends_begin t count h =
    record {
      long = h.long;
      below = omega arith;
      passes = λ file before all held.
          record {
            size = held.size;
            cells = λ k j column below. held.cells k j column below ∙ sym (mixed_below count k j (node_at (nodes_of file) j) below);
            others = held.others;
          };
    }

pub ends_over : (first : List ℕ) (count : ℕ) (t : List ℕ) (i : ℕ) → EndsTo first count t i → i ≤ 0 → Passes first_cell ended_cell count first t
ends_over first count t i s h =
    λ file before all held.
    let now = s.passes file before all held in
    record {
      size = now.size;
      cells = λ k j column below. now.cells k j column below ∙ mixed_above i k j (node_at (nodes_of file) j) (omega arith);
      others = now.others;
    }

module _ (first : List ℕ) (count : ℕ) (start : Holding first_cell first count) (t : List ℕ) (i : ℕ) (s : EndsTo first count t i) (j : ℕ) (e : i ≡ j + 1) where
  here_held : (file before : List ℕ) → count ≡ count_nodes (nodes_of file) → RowsAre (nodes_of file) first_cell count before first
      → RowsAre (nodes_of file) (mixed_cell (j + 1)) count before t
  here_held file before all held = subst (λ m. RowsAre (nodes_of file) (mixed_cell m) count before t) e (s.passes file before all held)

  now_held : RowsAre (nodes_of start.file) (mixed_cell (j + 1)) count start.before t
  now_held = here_held start.file start.before start.counted start.held

  pub back_here : j < 1024
  back_here = omega (arith, s.below, start.few)

  pub back_reads : EndReads t j
  back_reads = ends_read (nodes_of start.file) count start.before t j now_held (omega (arith, s.below)) start.few start.counted

  pub back_small : end_from t j < 65536
  back_small =
      omega (arith, start.few, ends_within (nodes_of start.file) count start.before t j now_held (omega (arith, s.below)) start.few start.counted)

  pub back_turn : (end : ℕ) → end ≡ end_from t j → (after : List ℕ) → after ≡ with_node_cell t 3 j end → EndsTo first count after j
  back_turn end told after stored =
      record {
        long = ap length stored ∙ put_size t s.long 3 j end (omega arith) back_here;
        below = omega (arith, s.below);
        passes = λ file before all held.
            subst (RowsAre (nodes_of file) (mixed_cell j) count before) (sym stored)
            (ends_held (nodes_of file) count before t j (here_held file before all held) (omega (arith, s.below)) start.few all s.long end told);
      }
