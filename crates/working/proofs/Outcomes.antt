-- What a call comes to, by the first code that applies.
-- Assumes nothing.
use Prim.Native.Nat.{ℕ, ◌+◌, ◌*◌, ◌≤◌}
use native.Mathlib.Omega.{arith}
use mathlib.Core.Path.{◌≡◌, ◌∙◌, ap}
use mathlib.Core.List.{List, [], ◌∷◌, ◌++◌}
use lib.ListN.{length}
use lib.Dec.{ltb}
use borrow.Author.Tests.{le-ltb}
use Rattle.infon.specs.declared.Report.{Report}
use Rattle.infon.specs.Codes.{and_then, tried, settled, Verdict, passed, refused}
use Rattle.infon.specs.Journal.{record_bytes}
use Rattle.infon.specs.Run.{file_codes, file_verdict, code6, code7, code8, code9, Outcome, refusal, success, run}
use Rattle.infon.proofs.Tried.{when_false, and_then_end, pass_on, stop_at, tried_append}
use Rattle.infon.proofs.Missing.{grown_short}
use Rattle.infon.proofs.Demands.{hypotheses_in, queries_in, list_in, kept_part, added_part, kept_is_such_a_row}
use Rattle.sizes.specs.Sizes.{size_codes}
use Rattle.sizes.proofs.Sizes.{sizes_pass}
use Rattle.working.specs.Working.{left}

-- the report of a refusal, with both buffers unchanged
pub left_refused : (code place used : ℕ) (journal answers : List ℕ) (report : Report) → report ≡ (refusal code place used [] []).report
    → left report journal answers ≡ refusal code place used journal answers
unfolding refusal
left_refused code place used journal answers report e = ap (λ (r : Report). left r journal answers) e

module _ (file journal : List ℕ) (used limit : ℕ) (answers : List ℕ) where
  sizes : Verdict
  sizes = tried (size_codes (length journal) (length (list_in file)) used (length answers) (length (queries_in file)))

  ninth : Verdict
  ninth = code9 (kept_part file journal used) (added_part file journal used limit) journal

  outcome : Outcome
  outcome = success (hypotheses_in file) (list_in file) (queries_in file) (kept_part file journal used) (added_part file journal used limit) journal answers

  -- the codes about the file alone, those of the sizes, and the last one
  run_is : run file journal used limit answers
      ≡ settled (and_then (file_verdict file) (and_then sizes ninth)) (λ (code place : ℕ). refusal code place used journal answers) outcome
  unfolding run file_verdict outcome sizes ninth size_codes code6 code7 code8 tried
  run_is =
      let entries = file_codes file in
      let three = size_codes (length journal) (length (list_in file)) used (length answers) (length (queries_in file)) in
      let last = code9 (kept_part file journal used) (added_part file journal used limit) journal in
      ap (λ (v : Verdict). settled v (λ (code place : ℕ). refusal code place used journal answers) outcome)
      (tried_append entries (three ++ (last ∷ []))
      ∙ ap (and_then (tried entries)) (tried_append three (last ∷ []) ∙ ap (and_then (tried three)) (and_then_end last)))

  pub file_refused : (code place : ℕ) → file_verdict file ≡ refused code place
      → run file journal used limit answers ≡ refusal code place used journal answers
  unfolding settled
  file_refused code place h = run_is ∙ rw (stop_at h (and_then sizes ninth))

  pub sizes_refused : (code place : ℕ) → file_verdict file ≡ passed
      → tried (size_codes (length journal) (length (list_in file)) used (length answers) (length (queries_in file))) ≡ refused code place
      → run file journal used limit answers ≡ refusal code place used journal answers
  unfolding settled sizes
  sizes_refused code place pass h = run_is ∙ rw (pass_on pass (and_then sizes ninth), stop_at h ninth)

  -- code 9 is never given: there is room for the whole list
  room : record_bytes * length (list_in file) ≤ length journal
      → record_bytes * (length (kept_part file journal used) + length (added_part file journal used limit)) ≤ length journal
  room fits =
      let all = grown_short (hypotheses_in file) (list_in file) (kept_part file journal used) (kept_is_such_a_row file journal used).0 limit in
      omega arith

  pub succeeded : file_verdict file ≡ passed
      → tried (size_codes (length journal) (length (list_in file)) used (length answers) (length (queries_in file))) ≡ passed
      → run file journal used limit answers
      ≡ success (hypotheses_in file) (list_in file) (queries_in file) (kept_part file journal used) (added_part file journal used limit) journal answers
  unfolding settled sizes ninth code9 outcome
  succeeded pass h =
      let needed = record_bytes * (length (kept_part file journal used) + length (added_part file journal used limit)) in
      let long = (sizes_pass (length journal) (length (list_in file)) used (length answers) (length (queries_in file)) h).0 in
      run_is ∙ rw (pass_on pass (and_then sizes ninth), pass_on h ninth, when_false (ltb (length journal) needed) 9 0 (le-ltb (length journal) needed (room long)))
