-- What an answer of so many bytes says of the buffer: what a caller needs to take those bytes.
-- Assumes nothing.
use Prim.Native.Nat.{ℕ}
use mathlib.Core.Path.{◌≡◌}
use mathlib.Core.List.{List}
use Rattle.std.specs.Prelude.{Result, Ok}
use Rattle.std.specs.Io.{ReadsAtMost}
use Rattle.std.specs.Counts.{IsPrefixLen}

pub held : {E : Type 0} (got : Result ℕ E) (n : ℕ) (buffer : List ℕ) → got ≡ Ok n → ReadsAtMost got buffer → IsPrefixLen n buffer
held got n buffer e h = rw e at h
