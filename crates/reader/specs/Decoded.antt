-- What stands at a place of a journal.
use Rattle.std.specs.Prelude.{ℕ, cond, List, length, take, drop, ltb, Option, None}
use Rattle.infon.specs.Journal.{record_bytes, decoded}
use Rattle.infon.specs.declared.Record.{Record}

-- what the nine bytes from a place of a journal spell; nothing where fewer than nine are left
unfoldable pub record_at : List ℕ → ℕ → Option Record
record_at journal at = cond (ltb (length (drop at journal)) record_bytes) None (decoded (take record_bytes (drop at journal)))
