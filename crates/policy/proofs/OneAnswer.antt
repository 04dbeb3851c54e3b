-- Each promise leaves one answer: two verdicts, counts or contents of the table that meet it are equal.
-- Assumes nothing.
use Prim.Native.Nat.{ℕ, ◌+◌, ◌*◌, ◌/◌, ◌%◌, ◌<◌}
use native.Mathlib.Decide.{dec_lt}
use native.Mathlib.Omega.{arith}
use mathlib.Core.Path.{◌≡◌, sym, ◌∙◌, ap, subst}
use mathlib.Core.List.{List}
use lib.ListN.{length, get_or}
use lib.Seq.{ext_get_or}
use Rattle.infon.specs.Codes.{Verdict}
use Rattle.nodes.specs.Nodes.{Node, node_rows, node_columns, node_table, node_cell, node_value, count_nodes, nodes_of, Noded}
use Rattle.policy.specs.Filling.{first_cell, ended_cell, RowsAre, Begun, Holding, Passes, NodesFilled}
use Rattle.policy.specs.Tables.{NodesTabled, IsCode4}

-- a table of full size is known by its cells
cells_table : (t u : List ℕ) → length t ≡ node_table → length u ≡ node_table
    → ((k i : ℕ) → k < node_columns → i < node_rows → node_cell t k i ≡ node_cell u k i) → t ≡ u
cells_table t u long also same = ext_get_or 0 t u (long ∙ sym also) at_place
  where
    at_place : (p : ℕ) → p < length t → get_or t p 0 ≡ get_or u p 0
    at_place p h =
        let split : p ≡ p / node_rows * node_rows + p % node_rows = omega arith in
        ap (λ q. get_or t q 0) split ∙ same (p / node_rows) (p % node_rows) (omega arith) (omega arith) ∙ ap (λ q. get_or u q 0) (sym split)

module _ (file : List ℕ) (before : List ℕ) (long : length before ≡ node_table) where
  pub noded_once : (t u : List ℕ) → Noded (nodes_of file) before t → Noded (nodes_of file) before u → t ≡ u
  noded_once t u one two =
      cells_table t u (one.size ∙ long) (two.size ∙ long) (λ k i column row. by_row k i column row (dec_lt i (count_nodes (nodes_of file))))
    where
      by_row : (k i : ℕ) → k < node_columns → i < node_rows → Dec (i < count_nodes (nodes_of file)) → node_cell t k i ≡ node_cell u k i
      by_row k i column row (yes h) = one.cells k i column h ∙ sym (two.cells k i column h)
      by_row k i column row (no h) = one.others k i row h ∙ sym (two.others k i row h)

  -- of `fill`
  pub fill_once : (count other : ℕ) (t u : List ℕ) → NodesFilled file count before t → NodesFilled file other before u → (count ≡ other) × (t ≡ u)
  fill_once count other t u one two = (one.counted ∙ sym two.counted, noded_once t u one.noded two.noded)

-- The three ways through the nodes, by which it is filled: the first n rows are told, and the others stay.
rows_once : (row : List Node) (cell : ℕ → ℕ → Node → ℕ) (n : ℕ) (before t u : List ℕ) → length t ≡ node_table → RowsAre row cell n before t
    → RowsAre row cell n before u → t ≡ u
rows_once row cell n before t u long one two =
    cells_table t u long (two.size ∙ sym one.size ∙ long) (λ k i column below. by_row k i column below (dec_lt i n))
  where
    by_row : (k i : ℕ) → k < node_columns → i < node_rows → Dec (i < n) → node_cell t k i ≡ node_cell u k i
    by_row k i column below (yes h) = one.cells k i column h ∙ sym (two.cells k i column h)
    by_row k i column below (no h) = one.others k i below (omega arith) ∙ sym (two.others k i below (omega arith))

-- of `fill_spots`
pub spots_once : (file : List ℕ) (count other : ℕ) (before t u : List ℕ) → length before ≡ node_table → Begun file count before t
    → Begun file other before u → (count ≡ other) × (t ≡ u)
spots_once file count other before t u long one two =
    let same = one.counted ∙ sym two.counted in (
      same,
      rows_once (nodes_of file) first_cell count before t u (one.held.size ∙ long) one.held
          (subst (λ (n : ℕ). RowsAre (nodes_of file) first_cell n before u) (sym same) two.held),
    )

-- of `fill_ends` and `fill_above`
passes_once : (cell next : ℕ → ℕ → Node → ℕ) (count : ℕ) (t u v : List ℕ) → Holding cell t count → Passes cell next count t u
    → Passes cell next count t v → u ≡ v
passes_once cell next count t u v h one two =
    let first = one h.file h.before h.counted h.held in
    rows_once (nodes_of h.file) next count h.before u v (first.size ∙ sym h.held.size ∙ h.long) first
    (two h.file h.before h.counted h.held)

pub ends_once : (count : ℕ) (t u v : List ℕ) → Holding first_cell t count → Passes first_cell ended_cell count t u
    → Passes first_cell ended_cell count t v → u ≡ v
ends_once = passes_once first_cell ended_cell

pub above_once : (count : ℕ) (t u v : List ℕ) → Holding ended_cell t count → Passes ended_cell node_value count t u
    → Passes ended_cell node_value count t v → u ≡ v
above_once = passes_once ended_cell node_value

-- of `deep`
pub deep_once : (t : List ℕ) (count : ℕ) → NodesTabled t count → (v w : Verdict) → IsCode4 t count v → IsCode4 t count w → v ≡ w
deep_once t count h v w one two =
    one h.file h.before h.counted h.noded ∙ sym (two h.file h.before h.counted h.noded)
