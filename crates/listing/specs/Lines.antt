-- What the lines of a file say of the list: which formulas are hypotheses, and which numbers the queries have.
use Rattle.std.specs.Prelude.{ℕ, ◌+◌, ◌≤◌, ◌<◌, ◌≡◌, cond, List, map, length, set, eqb}
use Prim.Native.Char.{code}
use Rattle.formulas.specs.Tests.{hypothesis_at}
use Rattle.formulas.specs.Table.{table_rows, table_cells, cell, number_in, flag}
use Rattle.nodes.specs.Nodes.{nodes_of}
use Rattle.infon.specs.Policy.{entries_of, hypotheses_of, queries_of}
use Rattle.infon.specs.Listing.{is_listed, list_of, most_listed}
use Rattle.infon.specs.Rules.{numbered}
use Rattle.infon.specs.Run.{written}
use Rattle.listing.specs.Forms.{Form, Placed}

-- what is known where the lines are gone through: the number of every form is at hand
pub record LinesReady (file cand : List ℕ) : Type 0 where
  pub few : length (list_of (entries_of file)) ≤ most_listed
  pub placed : (b l : ℕ) → Form (nodes_of file) b l → Placed (nodes_of file) (list_of (entries_of file)) cand b l

-- a cell of the hypothesis column, and a query's number, after a line
unfoldable pub marked_by : ℕ → ℕ → ℕ
marked_by letter old = cond (eqb letter (code "H")) 1 old

unfoldable pub asked_by : ℕ → ℕ → ℕ
asked_by letter q = cond (eqb letter (code "Q")) (q + 1) q

unfoldable pub asked_in : ℕ → ℕ → ℕ → List ℕ → List ℕ
asked_in letter number q queries = cond (eqb letter (code "Q")) (set queries q number) queries

-- the hypothesis column is clear, and then it is marked
pub record Clear (file table : List ℕ) : Type 0 where
  pub long : table_cells ≤ length table
  pub zeros : (k : ℕ) → k < length (list_of (entries_of file)) → cell table hypothesis_at k ≡ 0

pub record HypothesesMarked (file before after : List ℕ) : Type 0 where
  pub size : length after ≡ length before
  pub cells : (k : ℕ) → k < length (list_of (entries_of file))
      → cell after hypothesis_at k ≡ flag (is_listed (numbered (list_of (entries_of file)) k) (hypotheses_of (entries_of file)))
  pub others : (k i : ℕ) → i < table_rows → (k ≡ hypothesis_at → length (list_of (entries_of file)) ≤ i)
      → cell after k i ≡ cell before k i

-- the queries' numbers stand at the buffer's front
abbrev pub query_numbers : List ℕ → List ℕ
query_numbers file = map (number_in (list_of (entries_of file))) (queries_of (entries_of file))

pub record QueriesNumbered (file before after : List ℕ) (r : ℕ) : Type 0 where
  pub count : r ≡ length (queries_of (entries_of file))
  pub numbers : after ≡ written before 0 (query_numbers file)
