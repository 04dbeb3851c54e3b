-- The contract of `list` leaves one answer, and one content of both lent buffers.
-- Assumes nothing.
use Prim.Native.Nat.{ℕ, ◌+◌, ◌*◌, ◌/◌, ◌%◌, ◌<◌}
use native.Mathlib.Omega.{arith}
use mathlib.Core.Path.{◌≡◌, sym, ◌∙◌, ap}
use mathlib.Core.Logic.{⊎_elim}
use mathlib.Core.Bool.{true, false}
use mathlib.Core.List.{List}
use lib.ListN.{length, get_or}
use lib.Seq.{ext_get_or}
use lib.Dec.{ltb}
use borrow.Author.Tests.{ltb-true, ltb-false}
use Rattle.std.proofs.lemmas.Bool.{cases_Bool}
use Rattle.std.specs.Prelude.{Result, Err}
use Rattle.infon.specs.declared.Refusal.{Refusal}
use Rattle.infon.specs.Codes.{Verdict, passed}
use Rattle.infon.specs.Policy.{Entry, entries_of}
use Rattle.infon.specs.Listing.{list_of, code5}
use Rattle.formulas.specs.Table.{table_rows, table_columns, rule_columns, table_cells, cell}
use Rattle.formulas.specs.Tests.{base_at}
use Rattle.listing.specs.declared.Listed.{Listed}
use Rattle.listing.specs.Outcome.{TableFilled, TableAfter, ListedFile}

-- every cell of the table is told
module _ (es : List Entry) (before one two : List ℕ) (size : length before ≡ table_cells) (first : TableFilled es before one)
    (second : TableFilled es before two) where
  same_listed : (k i : ℕ) → k < table_columns → i < length (list_of es) → cell one k i ≡ cell two k i
  same_listed k i column below =
      ⊎_elim
      (λ (rule : ltb k rule_columns ≡ true).
      let less = ltb-true k rule_columns rule in
      first.holds.cells k i less below ∙ sym (second.holds.cells k i less below))
      (λ (last : ltb k rule_columns ≡ false).
      let base : k ≡ base_at = omega (arith, ltb-false k rule_columns last) in
      rw base (first.bases i below ∙ sym (second.bases i below)))
      (cases_Bool (ltb k rule_columns))

  same_cell : (k i : ℕ) → k < table_columns → i < table_rows → cell one k i ≡ cell two k i
  same_cell k i column row =
      ⊎_elim
      (λ (listed : ltb i (length (list_of es)) ≡ true). same_listed k i column (ltb-true i (length (list_of es)) listed))
      (λ (behind : ltb i (length (list_of es)) ≡ false).
      let above = ltb-false i (length (list_of es)) behind in
      first.others k i row above ∙ sym (second.others k i row above))
      (cases_Bool (ltb i (length (list_of es))))

  same_place : (j : ℕ) → j < length one → get_or one j 0 ≡ get_or two j 0
  same_place j h =
      let e : j / table_rows * table_rows + j % table_rows ≡ j = omega arith in
      let column : j / table_rows < table_columns = omega (arith, first.size, size) in
      let row : j % table_rows < table_rows = omega arith in
      sym (ap (λ (n : ℕ). get_or one n 0) e) ∙ same_cell (j / table_rows) (j % table_rows) column row ∙ ap (λ (n : ℕ). get_or two n 0) e

  one_table : one ≡ two
  one_table = ext_get_or 0 one two (first.size ∙ sym second.size) same_place

pub table_by : (v : Verdict) (es : List Entry) (before one two : List ℕ) → length before ≡ table_cells → TableAfter v es before one
    → TableAfter v es before two → one ≡ two
table_by passed es before one two size first second = one_table es before one two size first second
table_by (Err by) es before one two size first second = first ∙ sym second

pub one_listing : (file table queries : List ℕ) → length table ≡ table_cells → (table' queries' table'' queries'' : List ℕ) (r s : Result Listed Refusal)
    → ListedFile file table queries table' queries' r → ListedFile file table queries table'' queries'' s → (r ≡ s) × ((table' ≡ table'') × (queries' ≡ queries''))
one_listing file table queries size table' queries' table'' queries'' r s first second = (
  first.answer ∙ sym second.answer,
  (
    table_by (code5 (entries_of file)) (entries_of file) table table' table'' size first.table_is second.table_is,
    first.queries_are ∙ sym second.queries_are,
  ),
)
