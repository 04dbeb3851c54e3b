-- A list in the formula table, and the numbers of the queries beside it.
use Rattle.std.specs.Prelude.{ℕ, ◌≤◌, ◌≡◌, true, length, take}
use mathlib.Core.List.{List, map, Memᴰ}
use Rattle.infon.specs.Codes.{passed}
use Rattle.infon.specs.Formula.{Formula}
use Rattle.infon.specs.Policy.{entries_of, hypotheses_of, queries_of}
use Rattle.infon.specs.Listing.{is_listed, list_of}
use Rattle.infon.specs.Run.{file_verdict}
use Rattle.formulas.specs.Table.{number_in, Tabled}

-- The table holds a list of n formulas with its hypotheses, and the numbers of the queries stand in front of their row.
pub record Prepared (hyps fs queries : List Formula) (t : List ℕ) (n : ℕ) (numbers : List ℕ) (asked : ℕ) : Type 0 where
  pub table : Tabled hyps fs t
  pub count : length fs ≡ n
  pub asked_are : length queries ≡ asked
  pub listed : (x : Formula) → Memᴰ x queries → is_listed x fs ≡ true
  pub numbers_long : asked ≤ length numbers
  pub numbers_are : take asked numbers ≡ map (number_in fs) queries

-- The file is accepted, and its list and queries are prepared so.
pub record PreparedFor (file t : List ℕ) (n : ℕ) (numbers : List ℕ) (asked : ℕ) : Type 0 where
  pub accepted : file_verdict file ≡ passed
  pub prepared : Prepared (hypotheses_of (entries_of file)) (list_of (entries_of file)) (queries_of (entries_of file)) t n numbers asked
