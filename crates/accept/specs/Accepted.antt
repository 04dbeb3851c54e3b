-- What accepting a file leaves: its answer, and the three buffers.
use Rattle.std.specs.Prelude.{ℕ, ◌≡◌, List, length, Result, Ok, Err}
use Rattle.infon.specs.declared.Refusal.{Refusal}
use Rattle.infon.specs.Codes.{tried, Verdict, passed}
use Rattle.infon.specs.Policy.{entries_of, queries_of}
use Rattle.infon.specs.Listing.{list_of}
use Rattle.infon.specs.Run.{file_verdict}
use Rattle.nodes.specs.Nodes.{count_nodes, nodes_of, Noded}
use Rattle.policy.specs.Codes.{first_codes}
use Rattle.listing.specs.Outcome.{TableAfter, queries_after}
use Rattle.accept.specs.declared.Accepted.{Accepted}

-- the answer by the verdict: so many nodes, formulas and queries, or the refusal
unfoldable pub accepted_by : Verdict → ℕ → ℕ → ℕ → Result Accepted Refusal
accepted_by passed nodes formulas queries = Ok (record { nodes = nodes; formulas = formulas; queries = queries })
accepted_by (Err by) nodes formulas queries = Err by

unfoldable pub accepted_of : List ℕ → Result Accepted Refusal
accepted_of file =
    let entries = entries_of file in
    accepted_by (file_verdict file) (count_nodes (nodes_of file)) (length (list_of entries)) (length (queries_of entries))

-- the node table is filled where the codes before code 4 pass, and stays as it was otherwise
abbrev pub NodesAfter : Verdict → List ℕ → List ℕ → List ℕ → Type 0
NodesAfter passed file before after = Noded (nodes_of file) before after
NodesAfter (Err by) file before after = after ≡ before

-- The formula table and the queries' row are filled where all codes pass.
pub record Accepts (file nodes table queries : List ℕ) (r : Result Accepted Refusal) (nodes' table' queries' : List ℕ) : Type 0 where
  pub answer : r ≡ accepted_of file
  pub nodes_are : NodesAfter (tried (first_codes file)) file nodes nodes'
  pub table_is : TableAfter (file_verdict file) (entries_of file) table table'
  pub queries_are : queries' ≡ queries_after (file_verdict file) file queries
