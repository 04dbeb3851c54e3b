-- What the listing of a file leaves: its answer, the formula table, and the queries' numbers.
use Rattle.std.specs.Prelude.{ℕ, ◌≤◌, ◌<◌, ◌≡◌, List, length, Result, Ok, Err}
use Rattle.infon.specs.declared.Refusal.{Refusal}
use Rattle.infon.specs.Codes.{Verdict, passed}
use Rattle.infon.specs.Formula.{Formula}
use Rattle.infon.specs.Policy.{Entry, entries_of, hypotheses_of, queries_of}
use Rattle.infon.specs.Listing.{is_listed, list_of, code5}
use Rattle.infon.specs.Rules.{numbered}
use Rattle.infon.specs.Run.{written}
use Rattle.nodes.specs.Nodes.{Node, node_at, roots, count_nodes}
use Rattle.formulas.specs.Table.{table_rows, cell, Tabled}
use Rattle.formulas.specs.Tests.{base_at}
use Rattle.twins.specs.Twins.{first_from}
use Rattle.listing.specs.declared.Listed.{Listed}
use Rattle.listing.specs.Forms.{own_forms}
use Rattle.listing.specs.Lines.{query_numbers}

-- the answer by the verdict of code 5: L and the number of queries, or the refusal
unfoldable pub listed_by : Verdict → ℕ → ℕ → Result Listed Refusal
listed_by passed formulas queries = Ok (record { formulas = formulas; queries = queries })
listed_by (Err by) formulas queries = Err by

-- the base of a formula, by the number of its node: the first that has the formula among its forms
unfoldable pub base_in : List Node → Formula → ℕ
base_in row x = first_from (λ (b : ℕ). is_listed x (own_forms (node_at row b))) 0 (count_nodes row)

-- the table holds the list and its bases, and is as it was in every row behind it
pub record TableFilled (es : List Entry) (before after : List ℕ) : Type 0 where
  pub size : length after ≡ length before
  pub holds : Tabled (hypotheses_of es) (list_of es) after
  pub bases : (i : ℕ) → i < length (list_of es) → cell after base_at i ≡ base_in (roots es) (numbered (list_of es) i)
  pub others : (k i : ℕ) → i < table_rows → length (list_of es) ≤ i → cell after k i ≡ cell before k i

-- a refusal leaves both buffers as they were
abbrev pub TableAfter : Verdict → List Entry → List ℕ → List ℕ → Type 0
TableAfter passed es before after = TableFilled es before after
TableAfter (Err by) es before after = after ≡ before

unfoldable pub queries_after : Verdict → List ℕ → List ℕ → List ℕ
queries_after passed file before = written before 0 (query_numbers file)
queries_after (Err by) file before = before

pub record ListedFile (file table queries table' queries' : List ℕ) (r : Result Listed Refusal) : Type 0 where
  pub answer : r ≡ listed_by (code5 (entries_of file)) (length (list_of (entries_of file))) (length (queries_of (entries_of file)))
  pub table_is : TableAfter (code5 (entries_of file)) (entries_of file) table table'
  pub queries_are : queries' ≡ queries_after (code5 (entries_of file)) file queries
