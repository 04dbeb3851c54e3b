-- From a node to the next one in the file.
use Rattle.std.specs.Prelude.{ℕ, ◌+◌, cond, List, get_or, eqb}
use Rattle.infon.specs.Bytes.{space}
use Rattle.walk.specs.declared.Spot.{Spot}

-- one byte behind a space, on the same line; three behind a line feed, on the line that starts behind it
unfoldable pub next_spot : List ℕ → ℕ → ℕ → Spot
next_spot file end line =
    cond (eqb (get_or file end 0) space) (record { at = end + 1; line = line }) (record { at = end + 3; line = end + 1 })
