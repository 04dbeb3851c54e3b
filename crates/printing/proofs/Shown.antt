-- Rows of answers as they are printed; where the line of a query stands; and what is printed of a run: its refusal, or the lines of
-- the answers to its queries, whatever stood in the answer row before.
-- Assumes nothing.
use Prim.Native.Nat.{ℕ, zero, suc, ◌+◌, ◌≤◌, ◌<◌}
use native.Mathlib.Nat.{add-zero}
use native.Mathlib.Omega.{arith}
use mathlib.Core.Path.{◌≡◌, refl, sym, ◌∙◌, ap}
use mathlib.Core.Bool.{Bool, true, false}
use mathlib.Core.List.{List, [], ◌∷◌, ◌++◌, map, append_assoc}
use lib.ListN.{length, take, drop, get_or, length-map}
use borrow.Author.Tests.{eq-eqb, ne_eqb}
use Rattle.infon.specs.declared.Answer.{Answer}
use Rattle.infon.specs.declared.Answer.TheVariants.{No, Yes, Open}
use Rattle.infon.specs.Bytes.{bytes, space, line_feed}
use Rattle.infon.specs.Formula.{Formula, True, said, name, quoted, letter_of, words, joined, spelling}
use Rattle.infon.specs.Policy.{entries_of, hypotheses_of, queries_of}
use Rattle.infon.specs.Listing.{list_of}
use Rattle.infon.specs.Journal.{kept_of, grown}
use Rattle.infon.specs.Run.{Outcome, answer_byte, answers_of, written, success, refusal, run}
use Rattle.infon.proofs.Cuts.{run_cases}
use Rattle.writing.specs.Placed.{Prints}
use Rattle.writing.specs.Texts.{digits_of, decimal_of, word_of, line_of, printed_refusal}
use Rattle.printing.specs.Printed.{behind_of, printed_from, printed_answers, printed_run, printed_of}

-- no queries: nothing is printed, not even a line feed
pub none_printed : (asked : Bool) (answers : List ℕ) → printed_answers asked [] answers ≡ []
unfolding printed_answers printed_from
none_printed asked [] = refl
none_printed asked (a ∷ answers) = refl

abbrev lien : Formula
lien = name (bytes "lien")

abbrev bank_said_lien : Formula
bank_said_lien = quoted (record { told = said; principal = bytes "bank" }) lien

-- a limit that was too small
pub open_printed : printed_from 10 (map answer_byte (Open ∷ No ∷ [])) (map (behind_of false) (lien ∷ bank_said_lien ∷ [])) ≡ bytes "10 open\n11 no\n"
unfolding printed_from line_of behind_of word_of decimal_of digits_of answer_byte bytes space line_feed
open_printed = refl

-- the questions behind their answers
pub questions_printed : printed_from 1 (map answer_byte (Yes ∷ No ∷ [])) (map (behind_of true) (lien ∷ bank_said_lien ∷ [])) ≡ bytes "1 yes lien\n2 no S bank lien\n"
unfolding printed_from line_of behind_of word_of decimal_of digits_of answer_byte bytes space line_feed spelling words joined letter_of
questions_printed = refl

-- what is printed of a run that is not refused, and of one that is
module _ (asked : Bool) (file : List ℕ) (code place : ℕ) (answers b₀ b₁ : List ℕ) (r : ℕ) where
  pub run_answered : code ≡ 0 → Prints (printed_answers asked (queries_of (entries_of file)) answers) b₀ r b₁
      → Prints (printed_run asked file code place answers) b₀ r b₁
  unfolding printed_run
  run_answered h p = rw (eq-eqb code 0 h) p

  pub run_refused : (code ≡ 0 → ⊥) → Prints (printed_refusal code place) b₀ r b₁ → Prints (printed_run asked file code place answers) b₀ r b₁
  unfolding printed_run
  run_refused h p = rw (ne_eqb code 0 h) p

-- A run that is refused prints its code and place.
pub refused_printed : (asked : Bool) (file : List ℕ) (o : Outcome) → 1 ≤ o.report.code
    → printed_of asked file o ≡ printed_refusal o.report.code o.report.place
unfolding printed_of printed_run
refused_printed asked file o h = rw (ne_eqb o.report.code 0 (λ e. omega arith))

-- the lines before a query's, its own, and those behind it, where the first has this count
parted_at : (asked : Bool) (count : ℕ) (answers : List ℕ) (queries : List Formula) (i : ℕ) → i < length answers → i < length queries
    → printed_from count answers (map (behind_of asked) queries)
    ≡ printed_from count (take i answers) (map (behind_of asked) (take i queries))
    ++ (line_of (count + i) (get_or answers i 0) (behind_of asked (get_or queries i True))
    ++ printed_from (count + i + 1) (drop (suc i) answers) (map (behind_of asked) (drop (suc i) queries)))
unfolding printed_from
parted_at asked count [] queries i few low = absurd (omega arith)
parted_at asked count (a ∷ answers) [] i few low = absurd (omega arith)
parted_at asked count (a ∷ answers) (x ∷ queries) zero few low = rw (add-zero count)
parted_at asked count (a ∷ answers) (x ∷ queries) (suc i) few low =
    let line = line_of count a (behind_of asked x) in
    let before = printed_from (count + 1) (take i answers) (map (behind_of asked) (take i queries)) in
    let onward : ℕ → List ℕ = λ (n : ℕ).
    line_of n (get_or answers i 0) (behind_of asked (get_or queries i True))
    ++ printed_from (n + 1) (drop (suc i) answers) (map (behind_of asked) (drop (suc i) queries)) in
    let next : count + 1 + i ≡ count + suc i = omega arith in
    ap (λ (l : List ℕ). line ++ l) (parted_at asked (count + 1) answers queries i (omega arith) (omega arith))
    ∙ (sym (append_assoc line before (onward (count + 1 + i))) ∙ ap (λ (n : ℕ). (line ++ before) ++ onward n) next)

-- The text is the lines of the queries before a query, the line of that query, and the lines of those behind it.
pub line_of_query : (asked : Bool) (queries : List Formula) (answers : List ℕ) (i : ℕ) → i < length queries → i < length answers
    → printed_answers asked queries answers
    ≡ printed_answers asked (take i queries) (take i answers)
    ++ (line_of (i + 1) (get_or answers i 0) (behind_of asked (get_or queries i True))
    ++ printed_from (i + 2) (drop (suc i) answers) (map (behind_of asked) (drop (suc i) queries)))
unfolding printed_answers
line_of_query asked queries answers i low few =
    let counted : 1 + i ≡ i + 1 = omega arith in
    let next : 1 + i + 1 ≡ i + 2 = omega arith in
    rw (sym counted, sym next) (parted_at asked 1 answers queries i few low)

-- where there is an answer for each query, what stands behind the answers is not printed
printed_front : (count : ℕ) (answers rest : List ℕ) (behinds : List (List ℕ)) → length answers ≡ length behinds
    → printed_from count (answers ++ rest) behinds ≡ printed_from count answers behinds
unfolding printed_from
printed_front count [] [] [] e = refl
printed_front count [] (x ∷ rest) [] e = refl
printed_front count [] rest (b ∷ behinds) e = absurd (omega arith)
printed_front count (a ∷ answers) rest [] e = absurd (omega arith)
printed_front count (a ∷ answers) rest (b ∷ behinds) e =
    ap (λ (l : List ℕ). line_of count a b ++ l) (printed_front (count + 1) answers rest behinds (omega arith))

-- the answers written at a row's start are those that are printed
pub answered_all : (asked : Bool) (queries : List Formula) (before : List ℕ) (answers : List Answer) → length answers ≡ length queries
    → printed_answers asked queries (written before 0 (map answer_byte answers)) ≡ printed_answers asked queries (map answer_byte answers)
unfolding printed_answers written
answered_all asked queries before answers e =
    printed_front 1 (map answer_byte answers) (drop (0 + length (map answer_byte answers)) before) (map (behind_of asked) queries)
    (rw (length-map answers answer_byte, length-map queries (behind_of asked)) e)

-- A run that is not refused prints the answers to its queries, one after the other, whatever stood in the answer row before.
pub answers_printed : (asked : Bool) (file journal : List ℕ) (used limit : ℕ) (before : List ℕ) → (run file journal used limit before).report.code ≡ 0
    → let hyps = hypotheses_of (entries_of file) in
    let fs = list_of (entries_of file) in
    let kept = kept_of hyps fs journal used in
    let queries = queries_of (entries_of file) in
    printed_of asked file (run file journal used limit before)
    ≡ printed_answers asked queries (map answer_byte (answers_of hyps fs (kept ++ grown hyps fs kept limit) queries))
unfolding printed_of printed_run success refusal answers_of
answers_printed asked file journal used limit before =
    let hyps = hypotheses_of (entries_of file) in
    let fs = list_of (entries_of file) in
    let kept = kept_of hyps fs journal used in
    let queries = queries_of (entries_of file) in
    run_cases file journal used limit before
    (λ (o : Outcome).
    o.report.code ≡ 0 → printed_of asked file o ≡ printed_answers asked queries (map answer_byte (answers_of hyps fs (kept ++ grown hyps fs kept limit) queries)))
    (λ code place least e. absurd (omega arith))
    (λ k a keeps adds room e.
    answered_all asked queries before (answers_of hyps fs (k ++ a) queries) (length-map queries _)
    ∙ rw (adds, keeps))
