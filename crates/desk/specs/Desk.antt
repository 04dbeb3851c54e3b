-- 01, "From the desk, on both sides": what the desk program prints.
use Rattle.std.specs.Prelude.{ℕ, false, List, replicate}
use Rattle.infon.specs.Run.{Outcome, run}
use Rattle.printing.specs.Printed.{printed_of}

-- "starts with an empty journal, runs to the end": no list has more than 4,096 formulas, and no file more than 1,024 queries
unfoldable pub desk_run : List ℕ → Outcome
desk_run file = run file (replicate 36864 0) 0 4096 (replicate 1024 0)

-- "prints one line per query .. For a refusal it prints only `refused`, the code and the place": no question behind an answer
unfoldable pub desk_text : List ℕ → List ℕ
desk_text file = printed_of false file (desk_run file)
