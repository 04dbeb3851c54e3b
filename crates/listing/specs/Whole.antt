-- The whole list, node by node.
use Rattle.std.specs.Prelude.{ℕ, ◌≡◌, List, length, Result, Ok, Err}
use Rattle.nodes.specs.Nodes.{count_nodes, nodes_of}
use Rattle.infon.specs.declared.Refusal.{Refusal}
use Rattle.infon.specs.Codes.{Verdict, passed}
use Rattle.infon.specs.Policy.{entries_of}
use Rattle.infon.specs.Listing.{list_of, code5}
use Rattle.listing.specs.Forms.{Entered}

-- the answer by the verdict of code 5: how many formulas there are, or the refusal
unfoldable pub counted_by : Verdict → ℕ → Result ℕ Refusal
counted_by passed n = Ok n
counted_by (Err by) n = Err by

-- all nodes are listed
pub record NodesListed (file : List ℕ) (r : Result ℕ Refusal) (cand keys owners : List ℕ) : Type 0 where
  pub answer : r ≡ counted_by (code5 (entries_of file)) (length (list_of (entries_of file)))
  pub tables : code5 (entries_of file) ≡ passed
      → Entered (nodes_of file) (count_nodes (nodes_of file)) 0 (list_of (entries_of file)) cand keys owners (length (list_of (entries_of file)))
