-- 01, "From the desk, on both sides": what a program prints for a run's answers and for a refusal.
use Rattle.std.specs.Prelude.{ℕ, ◌+◌, Bool, cond, List, [], ◌∷◌, ◌++◌, map, eqb}
use Rattle.infon.specs.Bytes.{space}
use Rattle.infon.specs.Formula.{Formula, spelling}
use Rattle.infon.specs.Policy.{entries_of, queries_of}
use Rattle.infon.specs.Run.{Outcome}
use Rattle.writing.specs.Texts.{line_of, printed_refusal}

-- what stands behind an answer: nothing, or a space and the question, as the file has it
unfoldable pub behind_of : Bool → Formula → List ℕ
behind_of asked x = cond asked (space ∷ spelling x) []

-- the lines of answers, each with what stands behind it, whose first has this count
unfoldable pub printed_from : ℕ → List ℕ → List (List ℕ) → List ℕ
printed_from count [] behinds = []
printed_from count (answer ∷ rest) [] = []
printed_from count (answer ∷ rest) (behind ∷ more) = line_of count answer behind ++ printed_from (count + 1) rest more

-- "prints one line per query: the query's count from 1, .."; an answer is its byte, and there may be more bytes than queries
unfoldable pub printed_answers : Bool → List Formula → List ℕ → List ℕ
printed_answers asked queries answers = printed_from 1 answers (map (behind_of asked) queries)

-- what is printed of a run: the refusal alone, or a line for each query of the file, with the questions where they are asked for
unfoldable pub printed_run : Bool → List ℕ → ℕ → ℕ → List ℕ → List ℕ
printed_run asked file code place answers =
    cond (eqb code 0) (printed_answers asked (queries_of (entries_of file)) answers) (printed_refusal code place)

-- the same of all that a call of the run leaves
unfoldable pub printed_of : Bool → List ℕ → Outcome → List ℕ
printed_of asked file outcome = printed_run asked file outcome.report.code outcome.report.place outcome.answers
