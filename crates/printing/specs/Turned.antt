-- What a file must be so that its answers can be printed, and what one line of it adds to the text.
use Rattle.std.specs.Prelude.{ℕ, ◌+◌, ◌-◌, ◌*◌, ◌≤◌, ◌≡◌, Bool, cond, List, [], length, get_or, take, drop, eqb}
use Rattle.infon.specs.Codes.{passed}
use Rattle.infon.specs.Policy.{code2}
use Rattle.writing.specs.Placed.{Put}
use Rattle.writing.specs.Texts.{line_of}
use Rattle.printing.specs.declared.Progress.{Progress}

-- the lines of a file are well formed, and there is room for an answer to each of so many and for the file's questions
pub record Printable (file answers out : List ℕ) : Type 0 where
  pub lines : code2 file ≡ passed
  pub room : 32 * length answers + length file ≤ length out

-- where the part of the file begins that stands behind an answer: with the space after the letter, or at the line's end, where
-- there is nothing left of it
unfoldable pub behind_from : Bool → ℕ → ℕ → ℕ
behind_from asked start end = cond asked (start + 1) end

-- the line that is put for a query whose line in the file has these places; so many answers stand before it
unfoldable pub query_line : List ℕ → ℕ → ℕ → Bool → List ℕ → ℕ → List ℕ
query_line file start end asked answers count =
    let from = behind_from asked start end in
    line_of (count + 1) (get_or answers count 0) (take (end - from) (drop from file))

-- the letter of a query's line
unfoldable pub letter_of_queries : ℕ
letter_of_queries = 0x51

-- a query's line is put with the next answer; for any other line nothing is
pub record Turned (file : List ℕ) (start end : ℕ) (asked : Bool) (answers : List ℕ) (count at : ℕ) (before : List ℕ) (next : Progress) (after : List ℕ) : Type 0 where
  pub counts : next.count ≡ cond (eqb (get_or file start 0) letter_of_queries) (count + 1) count
  pub puts : Put (cond (eqb (get_or file start 0) letter_of_queries) (query_line file start end asked answers count) []) at before next.at after
