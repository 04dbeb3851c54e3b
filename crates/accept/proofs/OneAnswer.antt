-- The contract of `accept` leaves one answer, and one content of each lent buffer.
-- Assumes nothing.
use Prim.Native.Nat.{ℕ}
use mathlib.Core.Path.{◌≡◌, sym, ◌∙◌}
use mathlib.Core.List.{List}
use lib.ListN.{length}
use Rattle.std.specs.Prelude.{Result, Err}
use Rattle.infon.specs.declared.Refusal.{Refusal}
use Rattle.infon.specs.Codes.{tried, Verdict, passed}
use Rattle.infon.specs.Policy.{entries_of}
use Rattle.infon.specs.Run.{file_verdict}
use Rattle.nodes.specs.Nodes.{node_table}
use Rattle.formulas.specs.Table.{table_cells}
use Rattle.policy.specs.Codes.{first_codes}
use Rattle.policy.proofs.OneAnswer.{noded_once}
use Rattle.listing.proofs.Single.{table_by}
use Rattle.accept.specs.declared.Accepted.{Accepted}
use Rattle.accept.specs.Accepted.{NodesAfter, Accepts}

nodes_by : (v : Verdict) (file before one two : List ℕ) → length before ≡ node_table → NodesAfter v file before one → NodesAfter v file before two
    → one ≡ two
nodes_by passed file before one two long first second = noded_once file before long one two first second
nodes_by (Err by) file before one two long first second = first ∙ sym second

pub accepts_once : {file nodes table queries nodes₁ table₁ queries₁ nodes₂ table₂ queries₂ : List ℕ} {r s : Result Accepted Refusal} → length nodes ≡ node_table
    → length table ≡ table_cells → Accepts file nodes table queries r nodes₁ table₁ queries₁
    → Accepts file nodes table queries s nodes₂ table₂ queries₂
    → (r ≡ s) × ((nodes₁ ≡ nodes₂) × ((table₁ ≡ table₂) × (queries₁ ≡ queries₂)))
accepts_once {file} {nodes} {table} long size first second = (
  first.answer ∙ sym second.answer,
  (
    nodes_by (tried (first_codes file)) file nodes _ _ long first.nodes_are second.nodes_are,
    (
      table_by (file_verdict file) (entries_of file) table _ _ size first.table_is second.table_is,
      first.queries_are ∙ sym second.queries_are,
    ),
  ),
)
