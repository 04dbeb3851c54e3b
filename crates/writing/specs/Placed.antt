-- What a function that puts text into a buffer promises: where it ends, and the whole buffer.
use Rattle.std.specs.Prelude.{ℕ, ◌+◌, ◌-◌, ◌≤◌, ◌≡◌, List, length, take}
use Rattle.infon.specs.Run.{written}

-- a text put into a buffer from a place on: the place after it, and the buffer with it
pub record Put (text : List ℕ) (at : ℕ) (before : List ℕ) (next : ℕ) (after : List ℕ) : Type 0 where
  pub ends : next ≡ at + length text
  pub holds : after ≡ written before at text

-- as much of a text as there is room for put into a buffer from a place on
pub record PutSome (text : List ℕ) (at : ℕ) (before : List ℕ) (next : ℕ) (after : List ℕ) : Type 0 where
  pub front : Put (take (length before - at) text) at before next after

-- a text printed at a buffer's start: its length, and the buffer with it. The last two follow from these; they stand here so
-- that a caller may take the first `count` bytes with nothing to prove.
pub record Prints (text before : List ℕ) (count : ℕ) (after : List ℕ) : Type 0 where
  pub counts : count ≡ length text
  pub holds : after ≡ written before 0 text
  pub within : count ≤ length after
  pub whole : count ≡ length (take count after)
