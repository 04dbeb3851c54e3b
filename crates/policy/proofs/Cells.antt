-- Cells of the node table and stores to them: a store changes the cell that it names and no other.
-- Assumes nothing.
use Prim.Native.Nat.{ℕ, zero, suc, ◌+◌, ◌*◌, ◌<◌}
use native.Mathlib.Decide.{ℕ_discrete}
use native.Mathlib.Omega.{arith}
use mathlib.Core.Path.{◌≡◌, refl, sym, ◌∙◌}
use mathlib.Core.List.{List}
use lib.ListN.{length, length-set}
use lib.Seq.{get_or-set_same, get_or-set_other}
use Rattle.nodes.specs.Nodes.{Node, node_at, kind_of, own_bytes, node_table, node_cell, with_node_cell}
use Rattle.policy.specs.Filling.{spotted, first_cell, RowsAre}

module _ (t : List ℕ) (long : length t ≡ node_table) (k i v : ℕ) (column : k < 7) (row : i < 1024) where
  pub put_same : node_cell (with_node_cell t k i v) k i ≡ v
  put_same = get_or-set_same t (k * 1024 + i) v 0 (omega arith)

  pub put_size : length (with_node_cell t k i v) ≡ node_table
  put_size = length-set t (k * 1024 + i) v ∙ long

module _ (t : List ℕ) (k i v l j : ℕ) (here : i < 1024) (there : j < 1024) where
  pub put_row : (j ≡ i → ⊥) → node_cell (with_node_cell t k i v) l j ≡ node_cell t l j
  put_row apart = get_or-set_other t (k * 1024 + i) (l * 1024 + j) v 0 (λ e. omega arith)

  pub put_column_lem : (l ≡ k → ⊥) → node_cell (with_node_cell t k i v) l j ≡ node_cell t l j
  put_column_lem apart = get_or-set_other t (k * 1024 + i) (l * 1024 + j) v 0 (λ e. omega arith)

-- The seven stores of a node's row.
module _ (t : List ℕ) (long : length t ≡ node_table) (i : ℕ) (here : i < 1024) (kind at own line : ℕ) where
  abbrev t1 : List ℕ
  t1 = with_node_cell t 0 i kind

  abbrev t2 : List ℕ
  t2 = with_node_cell t1 1 i at

  abbrev t3 : List ℕ
  t3 = with_node_cell t2 2 i own

  abbrev t4 : List ℕ
  t4 = with_node_cell t3 3 i (i + 1)

  abbrev t5 : List ℕ
  t5 = with_node_cell t4 4 i 0xFFFF

  abbrev t6 : List ℕ
  t6 = with_node_cell t5 5 i line

  long1 : length t1 ≡ node_table
  long1 = put_size t long 0 i kind (omega arith) here

  long2 : length t2 ≡ node_table
  long2 = put_size t1 long1 1 i at (omega arith) here

  long3 : length t3 ≡ node_table
  long3 = put_size t2 long2 2 i own (omega arith) here

  long4 : length t4 ≡ node_table
  long4 = put_size t3 long3 3 i (i + 1) (omega arith) here

  long5 : length t5 ≡ node_table
  long5 = put_size t4 long4 4 i 0xFFFF (omega arith) here

  long6 : length t6 ≡ node_table
  long6 = put_size t5 long5 5 i line (omega arith) here

  pub spotted_size : length (spotted t i kind at own line) ≡ node_table
  unfolding spotted
  spotted_size = put_size t6 long6 6 i 0 (omega arith) here

  pub spotted_other : (k j : ℕ) → j < 1024 → (j ≡ i → ⊥) → node_cell (spotted t i kind at own line) k j ≡ node_cell t k j
  unfolding spotted
  spotted_other k j there apart =
      put_row t6 6 i 0 k j here there apart ∙ put_row t5 5 i line k j here there apart ∙ put_row t4 4 i 0xFFFF k j here there apart
      ∙ put_row t3 3 i (i + 1) k j here there apart ∙ put_row t2 2 i own k j here there apart ∙ put_row t1 1 i at k j here there apart
      ∙ put_row t 0 i kind k j here there apart

  -- a cell that the later stores leave
  past6 : (k : ℕ) → (k ≡ 6 → ⊥) → node_cell (spotted t i kind at own line) k i ≡ node_cell t6 k i
  unfolding spotted
  past6 k apart = put_column_lem t6 6 i 0 k i here here apart

  past5 : (k : ℕ) → k < 5 → node_cell (spotted t i kind at own line) k i ≡ node_cell t5 k i
  past5 k low = past6 k (omega arith) ∙ put_column_lem t5 5 i line k i here here (omega arith)

  past4 : (k : ℕ) → k < 4 → node_cell (spotted t i kind at own line) k i ≡ node_cell t4 k i
  past4 k low = past5 k (omega arith) ∙ put_column_lem t4 4 i 0xFFFF k i here here (omega arith)

  past3 : (k : ℕ) → k < 3 → node_cell (spotted t i kind at own line) k i ≡ node_cell t3 k i
  past3 k low = past4 k (omega arith) ∙ put_column_lem t3 3 i (i + 1) k i here here (omega arith)

  past2 : (k : ℕ) → k < 2 → node_cell (spotted t i kind at own line) k i ≡ node_cell t2 k i
  past2 k low = past3 k (omega arith) ∙ put_column_lem t2 2 i own k i here here (omega arith)

  pub spotted_cell : (n : Node) → kind ≡ kind_of n.what → at ≡ n.place → own ≡ own_bytes n.what → line ≡ n.line
      → (k : ℕ) → k < 7 → node_cell (spotted t i kind at own line) k i ≡ first_cell k i n
  unfolding first_cell spotted
  spotted_cell n a b c d zero h =
      past2 0 (omega arith) ∙ put_column_lem t1 1 i at 0 i here here (omega arith) ∙ put_same t long 0 i kind (omega arith) here ∙ a
  spotted_cell n a b c d (suc zero) h = past2 1 (omega arith) ∙ put_same t1 long1 1 i at (omega arith) here ∙ b
  spotted_cell n a b c d (suc (suc zero)) h = past3 2 (omega arith) ∙ put_same t2 long2 2 i own (omega arith) here ∙ c
  spotted_cell n a b c d (suc (suc (suc zero))) h = past4 3 (omega arith) ∙ put_same t3 long3 3 i (i + 1) (omega arith) here
  spotted_cell n a b c d (suc (suc (suc (suc zero)))) h = past5 4 (omega arith) ∙ put_same t4 long4 4 i 0xFFFF (omega arith) here
  spotted_cell n a b c d (suc (suc (suc (suc (suc zero))))) h = past6 5 (omega arith) ∙ put_same t5 long5 5 i line (omega arith) here ∙ d
  spotted_cell n a b c d (suc (suc (suc (suc (suc (suc zero)))))) h = put_same t6 long6 6 i 0 (omega arith) here
  spotted_cell n a b c d (suc (suc (suc (suc (suc (suc (suc k))))))) h = absurd (omega arith)

-- One row more is held.
module _ (row : List Node) (before t : List ℕ) (i : ℕ) (held : RowsAre row first_cell i before t) (long : length t ≡ node_table) (here : i < 1024)
    (kind at own line : ℕ) (a : kind ≡ kind_of (node_at row i).what) (b : at ≡ (node_at row i).place) (c : own ≡ own_bytes (node_at row i).what)
    (d : line ≡ (node_at row i).line) where
  pub spotted_held : RowsAre row first_cell (i + 1) before (spotted t i kind at own line)
  spotted_held =
      record {
        size = spotted_size t long i here kind at own line ∙ sym long ∙ held.size;
        cells = λ k j column below. by_row k j column below (ℕ_discrete j i);
        others = λ k j there over.
            spotted_other t long i here kind at own line k j there (omega arith) ∙ held.others k j there (omega arith);
      }
    where
      by_row : (k j : ℕ) → k < 7 → j < i + 1 → Dec (j ≡ i) → node_cell (spotted t i kind at own line) k j ≡ first_cell k j (node_at row j)
      by_row k j column below (yes e) =
          rw e (spotted_cell t long i here kind at own line (node_at row i) a b c d k column)
      by_row k j column below (no apart) =
          spotted_other t long i here kind at own line k j (omega arith) apart ∙ held.cells k j column (omega arith)

pub none_held : (row : List Node) (cell : ℕ → ℕ → Node → ℕ) (before : List ℕ) → RowsAre row cell 0 before before
none_held row cell before = record { size = refl; cells = λ k i column below. absurd (omega arith); others = λ k i there over. refl }
