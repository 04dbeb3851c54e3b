-- 01, "The journal" (a run and its answers) and "Codes on the board".
use Rattle.std.specs.Prelude.{ℕ, suc, ◌+◌, ◌*◌, ◌≡◌, Bool, true, false, List, [], ◌∷◌, ◌++◌, map, length, take, drop, ltb}
use Rattle.infon.specs.declared.Record.{Record}
use Rattle.infon.specs.declared.Answer.{Answer}
use Rattle.infon.specs.declared.Answer.TheVariants.{No, Yes, Open}
use Rattle.infon.specs.declared.Report.{Report}
use Rattle.infon.specs.Bytes.{some_of}
use Rattle.infon.specs.Formula.{Formula}
use Rattle.infon.specs.Codes.{when, tried, settled, Verdict}
use Rattle.infon.specs.Policy.{entries_of, hypotheses_of, queries_of, code1, code2, code3, code4}
use Rattle.infon.specs.Listing.{list_of, code5}
use Rattle.infon.specs.Calculus.{Derives}
use Rattle.infon.specs.Journal.{is_recorded, is_for, record_bytes, spelled_all, kept_of, grown, is_finished}

-- "An answer is yes (byte 1), no (byte 0) or open (byte 2)"
unfoldable pub answer_byte : Answer → ℕ
answer_byte No = 0
answer_byte Yes = 1
answer_byte Open = 2

-- "Yes: recorded. No: not recorded and the journal finished. Open: not recorded and not finished."
unfoldable pub answer_of : Bool → Bool → Answer
answer_of true finished = Yes
answer_of false true = No
answer_of false false = Open

-- the formula is recorded: one of the records is for it
unfoldable pub is_on_record : List Formula → List Record → Formula → Bool
is_on_record fs done x = some_of (is_for fs x) done

unfoldable pub answers_of : List Formula → List Formula → List Record → List Formula → List Answer
answers_of hyps fs done queries = map (λ (x : Formula). answer_of (is_on_record fs done x) (is_finished hyps fs done)) queries

-- The codes about the file alone, in the order in which they are tried. "A file is accepted when none of the codes about the file
-- alone, here 1 to 5, applies."
unfoldable pub file_codes : List ℕ → List Verdict
file_codes file =
    let entries = entries_of file in
    code1 file ∷ (code2 file ∷ (code3 entries ∷ (code4 entries ∷ (code5 entries ∷ []))))

unfoldable pub file_verdict : List ℕ → Verdict
file_verdict file = tried (file_codes file)

-- 6: "journal buffer shorter than 9 × L"
unfoldable pub code6 : List Formula → List ℕ → Verdict
code6 fs journal = when (ltb (length journal) (record_bytes * length fs)) 6 0

-- 7: "used length greater than the journal buffer"
unfoldable pub code7 : List ℕ → ℕ → Verdict
code7 journal used = when (ltb (length journal) used) 7 0

-- 8: "answer buffer shorter than the number of queries"
unfoldable pub code8 : List Formula → List ℕ → Verdict
code8 queries answers = when (ltb (length answers) (length queries)) 8 0

-- 9: "a record is due and the buffer has no room for it"
unfoldable pub code9 : List Record → List Record → List ℕ → Verdict
code9 kept added journal = when (ltb (length journal) (record_bytes * (length kept + length added))) 9 0

-- "Missing is the number of derivable formulas on the list that the kept part does not record." The row is the list from number
-- i on.
pub data Missing (hyps : List Formula) (kept : List Record) : ℕ → List Formula → ℕ → Type 0 where
  no_more : (i : ℕ) → Missing hyps kept i [] 0
  recorded : (i : ℕ) (x : Formula) (rest : List Formula) (m : ℕ) → is_recorded i kept ≡ true → Missing hyps kept (suc i) rest m
      → Missing hyps kept i (x ∷ rest) m
  underivable : (i : ℕ) (x : Formula) (rest : List Formula) (m : ℕ) → (Derives hyps x → ⊥) → Missing hyps kept (suc i) rest m
      → Missing hyps kept i (x ∷ rest) m
  missing : (i : ℕ) (x : Formula) (rest : List Formula) (m : ℕ) → is_recorded i kept ≡ false → Derives hyps x
      → Missing hyps kept (suc i) rest m → Missing hyps kept i (x ∷ rest) (suc m)

-- what a call leaves: its report, and both buffers
pub record Outcome : Type 0 where
  pub report : Report
  pub journal : List ℕ
  pub answers : List ℕ

-- "A refusal returns its code and place, kept 0, added 0, not finished, and the used length as it was given. Journal and answer
-- buffers stay unchanged."
unfoldable pub refusal : ℕ → ℕ → ℕ → List ℕ → List ℕ → Outcome
refusal code place used journal answers =
    record {
      report = record { code = code; place = place; kept = 0; added = 0; finished = false; used = used };
      journal = journal;
      answers = answers;
    }

-- new bytes from a place of a buffer on; the others stay as they were
unfoldable pub written : List ℕ → ℕ → List ℕ → List ℕ
written buffer at new = take at buffer ++ (new ++ drop (at + length new) buffer)

-- "The run adds .. right after the kept part. It returns code 0, place 0, the
-- records kept, the records added, whether the journal is finished, and the new used length, nine times the sum of kept and
-- added. Later journal bytes stay as they were." "Answer bytes beyond the last query stay as they were."
unfoldable pub success : List Formula → List Formula → List Formula → List Record → List Record → List ℕ → List ℕ → Outcome
success hyps fs queries kept added journal answers =
    record {
      report =
          record {
            code = 0;
            place = 0;
            kept = length kept;
            added = length added;
            finished = is_finished hyps fs (kept ++ added);
            used = record_bytes * (length kept + length added);
          };
      journal = written journal (record_bytes * length kept) (spelled_all added);
      answers = written answers 0 (map answer_byte (answers_of hyps fs (kept ++ added) queries));
    }

-- "A run takes the file, the journal buffer, its used length, a limit n and the answer buffer."
unfoldable pub run : List ℕ → List ℕ → ℕ → ℕ → List ℕ → Outcome
run file journal used limit answers =
    let entries = entries_of file in
    let hyps = hypotheses_of entries in
    let queries = queries_of entries in
    let fs = list_of entries in
    let kept = kept_of hyps fs journal used in
    let added = grown hyps fs kept limit in
    settled
    (tried (file_codes file ++ (code6 fs journal ∷ (code7 journal used ∷ (code8 queries answers ∷ (code9 kept added journal ∷ []))))))
    (λ (code place : ℕ). refusal code place used journal answers)
    (success hyps fs queries kept added journal answers)
