-- The codes that are tried before the table of nodes is filled.
use Rattle.std.specs.Prelude.{ℕ, List, [], ◌∷◌}
use Rattle.infon.specs.Codes.{Verdict}
use Rattle.infon.specs.Policy.{entries_of, code1, code2, code3}

unfoldable pub first_codes : List ℕ → List Verdict
first_codes file = code1 file ∷ (code2 file ∷ (code3 (entries_of file) ∷ []))
