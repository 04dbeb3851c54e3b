-- A table that holds the nodes of a file, and code 4 of that file.
use Rattle.std.specs.Prelude.{ℕ, ◌≤◌, ◌≡◌, List, length}
use Rattle.infon.specs.Policy.{entries_of, code4}
use Rattle.nodes.specs.Nodes.{count_nodes, nodes_of, Noded, node_table, node_rows}
use Rattle.infon.specs.Codes.{Verdict}

-- the table holds the nodes of some file
pub record NodesTabled (t : List ℕ) (count : ℕ) : Type 0 where
  pub file : List ℕ
  pub before : List ℕ
  pub counted : count ≡ count_nodes (nodes_of file)
  pub few : count ≤ node_rows
  pub long : length t ≡ node_table
  pub noded : Noded (nodes_of file) before t

-- whatever file's nodes it holds, the verdict is code 4 of that file
abbrev pub IsCode4 : List ℕ → ℕ → Verdict → Type 0
IsCode4 t count v =
    (file before : List ℕ) → count ≡ count_nodes (nodes_of file) → Noded (nodes_of file) before t → v ≡ code4 (entries_of file)
