-- The kept part over the formula table and the marks: what the code goes through. The laws join it to the paper's kept part.
use Rattle.std.specs.Prelude.{ℕ, ◌/◌, ◌≡◌, cond, List, [], ◌∷◌, length, set, Option, None, Some}
use Rattle.infon.specs.declared.Record.{Record}
use Rattle.infon.specs.Journal.{record_bytes, decoded, whole_records, followed}
use Rattle.formulas.specs.Tests.{good_in}

-- the marks with those of some more records
unfoldable pub mark_all : List ℕ → List Record → List ℕ
mark_all marks [] = marks
mark_all marks (r ∷ rest) = mark_all (set marks r.formula 1) rest

-- a record that is good after the marked ones
unfoldable pub only_good_in : List ℕ → ℕ → List ℕ → Option Record → Option Record
only_good_in t n marks None = None
only_good_in t n marks (Some r) = cond (good_in t n marks r) (Some r) None

-- what is kept of rows of bytes after the marked records: each good after those before it
unfoldable pub kept_by : List ℕ → ℕ → List ℕ → List (List ℕ) → List Record
kept_by t n marks [] = []
kept_by t n marks (s ∷ rest) =
    followed (only_good_in t n marks (decoded s)) (λ (r : Record). kept_by t n (set marks r.formula 1) rest)

-- the kept part: of the whole records inside the used length
unfoldable pub kept_in : List ℕ → ℕ → List ℕ → List ℕ → ℕ → List Record
kept_in t n marks journal used = kept_by t n marks (whole_records (used / record_bytes) journal)

-- What going through the journal gives: how many records are kept, and the marks with theirs.
pub record Keeps (t : List ℕ) (n : ℕ) (journal : List ℕ) (used : ℕ) (marks : List ℕ) (count : ℕ) (after : List ℕ) : Type 0 where
  pub counted : count ≡ length (kept_in t n marks journal used)
  pub marked : after ≡ mark_all marks (kept_in t n marks journal used)
