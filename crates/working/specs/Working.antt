-- What a run works on, and what it leaves.
use Rattle.std.specs.Prelude.{ℕ, ◌*◌, ◌≤◌, ◌≡◌, List, length}
use Rattle.infon.specs.declared.Report.{Report}
use Rattle.infon.specs.Formula.{Formula}
use Rattle.infon.specs.Journal.{record_bytes, kept_of, grown}
use Rattle.infon.specs.Run.{Outcome, success, run}
use Rattle.formulas.specs.Prepared.{Prepared, PreparedFor}

-- Some list is prepared, and codes 6 to 8 do not apply.
pub record Workable (t : List ℕ) (n : ℕ) (numbers journal : List ℕ) (used : ℕ) (answers : List ℕ) : Type 0 where
  pub hyps : List Formula
  pub fs : List Formula
  pub queries : List Formula
  pub prepared : Prepared hyps fs queries t n numbers (length numbers)
  pub room : record_bytes * n ≤ length journal
  pub inside : used ≤ length journal
  pub enough : length numbers ≤ length answers

-- what a call leaves, as one value
abbrev pub left : Report → List ℕ → List ℕ → Outcome
left report journal answers = record { report = report; journal = journal; answers = answers }

-- What is left is what the paper says, for whatever list is prepared so.
abbrev pub Works : List ℕ → ℕ → List ℕ → List ℕ → ℕ → ℕ → List ℕ → Report → List ℕ → List ℕ → Type 0
Works t n numbers journal used limit answers report journalAfter answersAfter =
    (hyps fs queries : List Formula) → Prepared hyps fs queries t n numbers (length numbers)
    → left report journalAfter answersAfter
    ≡ success hyps fs queries (kept_of hyps fs journal used) (grown hyps fs (kept_of hyps fs journal used) limit) journal answers

-- Some file is accepted and prepared so.
pub record Acceptable (t : List ℕ) (n : ℕ) (numbers : List ℕ) : Type 0 where
  pub file : List ℕ
  pub for_file : PreparedFor file t n numbers (length numbers)

-- What is left is what the paper's run leaves, for whatever file is prepared so.
abbrev pub Proceeds : List ℕ → ℕ → List ℕ → List ℕ → ℕ → ℕ → List ℕ → Report → List ℕ → List ℕ → Type 0
Proceeds t n numbers journal used limit answers report journalAfter answersAfter =
    (file : List ℕ) → PreparedFor file t n numbers (length numbers) → left report journalAfter answersAfter ≡ run file journal used limit answers
