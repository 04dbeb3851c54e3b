-- The answers to queries that are given by their formulas' numbers.
use Rattle.std.specs.Prelude.{ℕ, ◌≤◌, ◌<◌, Bool, List, map, length, get_or, eqb}
use Rattle.infon.specs.Run.{answer_of, answer_byte}

-- every query's number has a mark, and every answer has room
pub record Answerable (queries marks answers : List ℕ) : Type 0 where
  pub room : length queries ≤ length answers
  pub marked : (i : ℕ) → i < length queries → get_or queries i 0 < length marks

-- "Yes: recorded": the number is marked
unfoldable pub answer_at : List ℕ → Bool → ℕ → ℕ
answer_at marks finished number = answer_byte (answer_of (eqb (get_or marks number 0) 1) finished)

unfoldable pub answered_bytes : List ℕ → List ℕ → Bool → List ℕ
answered_bytes queries marks finished = map (answer_at marks finished) queries
