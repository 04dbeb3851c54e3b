-- The three ways one after the other fill the table; and code 4 over the filled table is that of its file.
-- Assumes nothing.
use Prim.Native.Nat.{ℕ, ◌+◌, ◌≤◌, ◌<◌}
use native.Mathlib.Numerals.{add-one}
use native.Mathlib.Omega.{arith}
use mathlib.Core.Path.{◌≡◌, sym, ◌∙◌, ap}
use mathlib.Core.List.{List}
use lib.ListN.{length}
use borrow.Author.Tests.{lt-ltb, le-ltb}
use Rattle.infon.specs.Codes.{when, and_then, passed, refused}
use Rattle.infon.specs.Policy.{entries_of, most_nodes, code3, most_depth, code4}
use Rattle.nodes.specs.Nodes.{after, node_at, count_nodes, node_value, Noded, nodes_of, node_table, node_cell}
use Rattle.nodes.proofs.Order.{after_none}
use Rattle.nodes.proofs.Codes.{code3_few, code4_of, code4_roots, code4_next}
use Rattle.policy.specs.Filling.{first_cell, ended_cell, RowsAre, Begun, Holding, Passes, NodesFilled}
use Rattle.policy.specs.Tables.{NodesTabled, IsCode4}

module _ (file : List ℕ) (count : ℕ) (before t : List ℕ) (begun : Begun file count before t) (counted : code3 (entries_of file) ≡ passed)
    (long : length before ≡ node_table) where
  pub begun_holding : Holding first_cell t count
  unfolding most_nodes nodes_of
  begun_holding =
      record {
        file = file;
        before = before;
        counted = begun.counted;
        few = omega (arith, begun.counted, code3_few (entries_of file) counted);
        long = begun.held.size ∙ long;
        held = begun.held;
      }

  module _ (u : List ℕ) (ended : Passes first_cell ended_cell count t u) where
    ended_held : RowsAre (nodes_of file) ended_cell count before u
    ended_held = ended file before begun.counted begun.held

    pub ended_holding : Holding ended_cell u count
    ended_holding =
        record {
          file = file;
          before = before;
          counted = begun.counted;
          few = begun_holding.few;
          long = ended_held.size ∙ long;
          held = ended_held;
        }

    pub all_filled : (v : List ℕ) → Passes ended_cell node_value count u v → NodesFilled file count before v
    all_filled v above =
        let held = above file before begun.counted ended_held in
        record {
          counted = begun.counted;
          noded =
              record {
                size = held.size;
                cells = λ k i column below. held.cells k i column (omega (arith, begun.counted));
                others = λ k i row over. held.others k i row (omega (arith, begun.counted));
              };
        }

-- the filled table is one that code 4 can be read off
pub filled_tabled : (file : List ℕ) (count : ℕ) (before t : List ℕ) → NodesFilled file count before t → code3 (entries_of file) ≡ passed
    → length before ≡ node_table → NodesTabled t count
unfolding most_nodes nodes_of
filled_tabled file count before t filled counted long =
    record {
      file = file;
      before = before;
      counted = filled.counted;
      few = omega (arith, filled.counted, code3_few (entries_of file) counted);
      long = filled.noded.size ∙ long;
      noded = filled.noded;
    }

-- Code 4 over the table.
module _ (t : List ℕ) (file before : List ℕ) (noded : Noded (nodes_of file) before t) (i : ℕ) (here : i < count_nodes (nodes_of file)) where
  depth_cell : node_cell t 6 i ≡ length (node_at (nodes_of file) i).pre
  unfolding node_value
  depth_cell = noded.cells 6 i (omega arith) here

  line_cell : node_cell t 5 i ≡ (node_at (nodes_of file) i).line
  unfolding node_value
  line_cell = noded.cells 5 i (omega arith) here

  pub deep_node : 4 < node_cell t 6 i → code4_of (after 0 i (nodes_of file)) ≡ refused 4 (node_cell t 5 i)
  unfolding most_depth when and_then
  deep_node h =
      code4_next (nodes_of file) i here
      ∙ rw (lt-ltb most_depth (length (node_at (nodes_of file) i).pre) (omega (arith, depth_cell)), line_cell)

  pub shallow_node : node_cell t 6 i ≤ 4 → code4_of (after 0 i (nodes_of file)) ≡ code4_of (after 0 (i + 1) (nodes_of file))
  unfolding most_depth when and_then
  shallow_node h =
      rw (add-one i)
      (code4_next (nodes_of file) i here ∙ rw (le-ltb most_depth (length (node_at (nodes_of file) i).pre) (omega (arith, depth_cell))))

-- whatever file it holds, code 4 is that of the nodes from i on
abbrev pub DeepFrom : List ℕ → ℕ → ℕ → Type 0
DeepFrom t count i =
    (file before : List ℕ) → count ≡ count_nodes (nodes_of file) → Noded (nodes_of file) before t → code4 (entries_of file) ≡ code4_of (after 0 i (nodes_of file))

module _ (t : List ℕ) (count : ℕ) where
  pub deep_begin : DeepFrom t count 0
  unfolding after nodes_of
  deep_begin = λ file before all noded. code4_roots (entries_of file)

  module _ (i : ℕ) (s : DeepFrom t count i) where
    pub deep_turn : i < count → node_cell t 6 i ≤ 4 → DeepFrom t count (i + 1)
    deep_turn here shallow = λ file before all noded. s file before all noded ∙ shallow_node t file before noded i (omega arith) shallow

    pub deep_stop : i < count → 4 < node_cell t 6 i → (place : ℕ) → place ≡ node_cell t 5 i → IsCode4 t count (refused 4 place)
    deep_stop here h place e =
        λ file before all noded.
        ap (refused 4) e ∙ sym (s file before all noded ∙ deep_node t file before noded i (omega arith) h)

    pub deep_over : count ≤ i → IsCode4 t count passed
    unfolding code4_of
    deep_over over =
        λ file before all noded.
        sym (s file before all noded ∙ ap code4_of (after_none 0 i (nodes_of file) (omega arith)))
