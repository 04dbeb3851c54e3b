-- The codes about the sizes of a call's buffers.
use Rattle.std.specs.Prelude.{ℕ, ◌*◌, List, [], ◌∷◌, ltb}
use Rattle.infon.specs.Codes.{when, Verdict}
use Rattle.infon.specs.Journal.{record_bytes}

-- codes 6 to 8, by the sizes that they compare: the journal's, L, the used length, the answers' and the number of queries
unfoldable pub size_codes : ℕ → ℕ → ℕ → ℕ → ℕ → List Verdict
size_codes journal n used answers asked =
    when (ltb journal (record_bytes * n)) 6 0 ∷ (when (ltb journal used) 7 0 ∷ (when (ltb answers asked) 8 0 ∷ []))
