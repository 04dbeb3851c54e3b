-- What a call makes of a policy file and a journal, before anything is written: the run, the text to print of it, and what of the
-- journal was not kept.
use Rattle.std.specs.Prelude.{ℕ, ◌/◌, ◌≡◌, Bool, cond, List, [], length, replicate, eqb, ltb}
use Rattle.infon.specs.Journal.{record_bytes}
use Rattle.infon.specs.Run.{Outcome, run}
use Rattle.writing.specs.Placed.{Prints}
use Rattle.printing.specs.Printed.{printed_run}
use Rattle.remains.specs.Dropped.{dropped_of}
use Rattle.settling.specs.declared.Settlement.{Settlement}

-- a text of so many bytes has room for what is printed of any file: 32 for each of 1,024 answers, and the file's questions
abbrev pub text_bytes : ℕ
text_bytes = 65536

-- how many answers a text has room for: all that a file can ask for, or none where it is shorter than that
unfoldable pub answer_room : List ℕ → ℕ
answer_room text = cond (ltb (length text) text_bytes) 0 1024

-- a run on the journal's used bytes; where the text is too short for answers, a file that asks for some is refused with code 8
unfoldable pub settled_run : List ℕ → List ℕ → ℕ → ℕ → List ℕ → Outcome
settled_run file journal used limit text = run file journal used limit (replicate (answer_room text) 0)

-- what is printed of a run into a text: the refusal alone, or a line for each query; nothing where the text is too short
unfoldable pub text_of : Bool → List ℕ → ℕ → ℕ → List ℕ → List ℕ → List ℕ
text_of asked file code place answers text = cond (ltb (length text) text_bytes) [] (printed_run asked file code place answers)

unfoldable pub settled_text : List ℕ → List ℕ → ℕ → ℕ → Bool → List ℕ → List ℕ
settled_text file journal used limit asked text =
    let outcome = settled_run file journal used limit text in
    text_of asked file outcome.report.code outcome.report.place outcome.answers text

-- The report and the journal's buffer are the run's; the text is what is printed of it; of a call that is not refused it is told how
-- many whole records the journal had, and what was not kept.
pub record Settles (file journal : List ℕ) (used limit : ℕ) (asked : Bool) (text : List ℕ) (settled : Settlement) (after printed : List ℕ) : Type 0 where
  pub report_now : settled.report ≡ (settled_run file journal used limit text).report
  pub journal_now : after ≡ (settled_run file journal used limit text).journal
  pub records_had : settled.records ≡ cond (eqb settled.report.code 0) (used / record_bytes) 0
  pub dropped_now : settled.dropped ≡ cond (eqb settled.report.code 0) (dropped_of journal used settled.report.kept) 0
  pub prints : Prints (settled_text file journal used limit asked text) text settled.length printed
