-- A journal that runs have left and cuts have shortened, in any order and number, is the beginning of the one row that grows
-- from nothing; so runs to the end leave the same bytes.
-- Assumes nothing.
use Prim.Native.Nat.{ℕ, ◌+◌, ◌*◌, ◌/◌, ◌≤◌, zero-le, min}
use native.Mathlib.Nat.{mul-div-le, mul-add, le_trans, le_of_eq, add_assoc}
use native.Mathlib.Omega.{arith}
use mathlib.Core.Path.{◌≡◌, refl, sym, ◌∙◌, ap, subst}
use mathlib.Core.Logic.{⊎_elim}
use mathlib.Core.Bool.{true}
use mathlib.Core.List.{List, [], ◌++◌, append_assoc, append-nil}
use lib.ListN.{length, take, drop, length-append, length-drop}
use lib.Seq.{take_all, take-take, take_at, drop_at, drop-drop, length-take-le}
use Rattle.infon.specs.declared.Record.{Record}
use Rattle.infon.specs.Formula.{Formula}
use Rattle.infon.specs.Policy.{entries_of, hypotheses_of, queries_of}
use Rattle.infon.specs.Listing.{list_of}
use Rattle.infon.specs.Journal.{record_bytes, spelled_all, kept_after, kept_of, grown, is_finished}
use Rattle.infon.specs.Run.{Outcome, refusal, written, success, run}
use Rattle.infon.proofs.Codec.{length_spelled_all, spelled_all_append, take_spelled_all, whole_records_cong}
use Rattle.infon.proofs.Grown.{kept_of_spelled, grown_good, take_grown, grown_add, finished_unique}
use Rattle.infon.proofs.Refusals.{none_lets_pass, none_refused, refusal_given, given_or_not, given_numbered}

-- What any history of runs and cuts, in any order and number, leaves of a buffer that was empty at first: its bytes and its
-- used length. A cut leaves the first so many bytes; what stands behind them after it is anybody's.
pub data Reached (file : List ℕ) : List ℕ → ℕ → Type 0 where
  begun : (journal : List ℕ) → Reached file journal 0
  ran : (journal : List ℕ) (used limit : ℕ) (answers : List ℕ) → Reached file journal used
      → Reached file (run file journal used limit answers).journal (run file journal used limit answers).report.used
  was_cut : (journal : List ℕ) (used m : ℕ) (after : List ℕ) → Reached file journal used → m ≤ used → take m after ≡ take m journal → Reached file after m

-- New bytes from a place on, where they fit: the length stays; the bytes before them and then they stand in front; the bytes
-- behind them stay; and more bytes written right behind them are written together with them.
module _ (buffer : List ℕ) (at : ℕ) (new : List ℕ) (fits : at + length new ≤ length buffer) where
  length_front_written : length (take at buffer ++ new) ≡ at + length new
  length_front_written = simp (length-append, length-take-le at buffer (omega arith))

  pub length_written : length (written buffer at new) ≡ length buffer
  unfolding written
  length_written = simp (length-append, length-drop, length-take-le at buffer (omega arith)) (omega arith)

  pub take_written : take (at + length new) (written buffer at new) ≡ take at buffer ++ new
  unfolding written
  take_written = rw (← append_assoc) (take_at (take at buffer ++ new) (drop (at + length new) buffer) (at + length new) length_front_written)

  pub take_before_written : take at (written buffer at new) ≡ take at buffer
  unfolding written
  take_before_written = take_at (take at buffer) (new ++ drop (at + length new) buffer) at (length-take-le at buffer (omega arith))

  pub drop_written : drop (at + length new) (written buffer at new) ≡ drop (at + length new) buffer
  unfolding written
  drop_written = rw (← append_assoc) (drop_at (take at buffer ++ new) (drop (at + length new) buffer) (at + length new) length_front_written)

  pub written_more : (more : List ℕ) → written (written buffer at new) (at + length new) more ≡ written buffer at (new ++ more)
  unfolding written
  written_more more =
      ap (λ (l : List ℕ). l ++ (more ++ drop (at + length new + length more) (written buffer at new))) take_written
      ∙ ap (λ (l : List ℕ). (take at buffer ++ new) ++ (more ++ l))
      (sym (drop-drop (length more) (at + length new) (written buffer at new))
      ∙ ap (drop (length more)) drop_written
      ∙ drop-drop (length more) (at + length new) buffer)
      ∙ simp (append_assoc, length-append, add_assoc)

-- A run is refused with a code of at least 1, or no code is given and it keeps and adds.
pub run_cases : (file journal : List ℕ) (used limit : ℕ) (answers : List ℕ) (P : Outcome → Type 0)
    → ((code place : ℕ) → 1 ≤ code → P (refusal code place used journal answers))
    → ((kept added : List Record) → kept ≡ kept_of (hypotheses_of (entries_of file)) (list_of (entries_of file)) journal used
    → added ≡ grown (hypotheses_of (entries_of file)) (list_of (entries_of file)) kept limit
    → record_bytes * (length kept + length added) ≤ length journal
    → P (success (hypotheses_of (entries_of file)) (list_of (entries_of file)) (queries_of (entries_of file)) kept added journal answers))
    → P (run file journal used limit answers)
run_cases file journal used limit answers P refuses passes =
    ⊎_elim
    (λ none.
    subst P (sym (none_refused file journal used limit answers none))
    (passes _ _ refl refl (none_lets_pass file journal used limit answers none).room))
    (λ found.
    subst P (sym (refusal_given file journal used limit answers found.1.1))
    (refuses found.0 found.1.0 (given_numbered file journal used limit answers found.1.1)))
    (given_or_not file journal used limit answers)

-- If the kept records stand in front, the used part spells them and the added ones.
pub success_spells : (hyps fs queries : List Formula) (kept added : List Record) (journal answers : List ℕ)
    → take (record_bytes * length kept) journal ≡ spelled_all kept → record_bytes * (length kept + length added) ≤ length journal
    → take (success hyps fs queries kept added journal answers).report.used (success hyps fs queries kept added journal answers).journal
    ≡ spelled_all (kept ++ added)
unfolding success
success_spells hyps fs queries kept added journal answers front room =
    let start = record_bytes * length kept in
    let used = record_bytes * (length kept + length added) in
    let places : start + length (spelled_all added) ≡ used = rw (length_spelled_all, mul-add) in
    let fits : start + length (spelled_all added) ≤ length journal = rw places room in
    rw (← places, take_written journal start (spelled_all added) fits, front, ← spelled_all_append kept added)

-- The used part of a buffer is a beginning of what some number of records grows to from nothing.
pub record Standing (hyps fs : List Formula) (journal : List ℕ) (used : ℕ) : Type 0 where
  pub number : ℕ
  pub within : used ≤ record_bytes * length (grown hyps fs [] number)
  pub begins : take used journal ≡ take used (spelled_all (grown hyps fs [] number))

-- A run has left exactly what some number of records grows to from nothing.
pub record Ended (hyps fs : List Formula) (outcome : Outcome) : Type 0 where
  pub number : ℕ
  pub reaches : outcome.report.used ≡ record_bytes * length (grown hyps fs [] number)
  pub spells : take outcome.report.used outcome.journal ≡ spelled_all (grown hyps fs [] number)
  pub finishes : outcome.report.finished ≡ is_finished hyps fs (grown hyps fs [] number)

-- rows that begin alike begin alike for fewer bytes too
take_fewer : (m n : ℕ) (s t : List ℕ) → m ≤ n → take n s ≡ take n t → take m s ≡ take m t
take_fewer m n s t h e = sym (take-take m n s h) ∙ ap (take m) e ∙ take-take m n t h

module _ (hyps fs : List Formula) where
  -- a beginning of it stands so too, whatever stands behind
  standing_cut : (journal : List ℕ) (used m : ℕ) (after : List ℕ) → Standing hyps fs journal used → m ≤ used → take m after ≡ take m journal
      → Standing hyps fs after m
  standing_cut journal used m after standing h e =
      record {
        number = standing.number;
        within = le_trans h standing.within;
        begins = e ∙ take_fewer m used journal (spelled_all (grown hyps fs [] standing.number)) h standing.begins;
      }

  ended_standing : (outcome : Outcome) → Ended hyps fs outcome → Standing hyps fs outcome.journal outcome.report.used
  ended_standing outcome end =
      record {
        number = end.number;
        within = le_of_eq end.reaches;
        begins =
            let row = grown hyps fs [] end.number in
            end.spells ∙ sym (take_all outcome.report.used (spelled_all row) (le_of_eq (length_spelled_all row ∙ sym end.reaches)));
      }

  module _ (short : length fs ≤ 4096) (journal : List ℕ) (used : ℕ) (standing : Standing hyps fs journal used) where
    whole_fits : used / record_bytes ≤ length (grown hyps fs [] standing.number)
    whole_fits = omega arith

    whole_begins : take (record_bytes * (used / record_bytes)) journal ≡ take (record_bytes * (used / record_bytes)) (spelled_all (grown hyps fs [] standing.number))
    whole_begins =
        take_fewer (record_bytes * (used / record_bytes)) used journal (spelled_all (grown hyps fs [] standing.number)) (mul-div-le used record_bytes)
        standing.begins

    -- the whole records of the used part are kept
    whole_kept : kept_of hyps fs journal used ≡ take (used / record_bytes) (grown hyps fs [] standing.number)
    unfolding kept_of
    whole_kept =
        let row = grown hyps fs [] standing.number in
        ap (kept_after hyps fs []) (whole_records_cong (used / record_bytes) journal (spelled_all row ++ []) (rw append-nil whole_begins))
        ∙ kept_of_spelled hyps fs short row [] (used / record_bytes) (grown_good hyps fs [] standing.number) whole_fits

    whole_spelled : take (record_bytes * length (kept_of hyps fs journal used)) journal ≡ spelled_all (kept_of hyps fs journal used)
    whole_spelled =
        let row = grown hyps fs [] standing.number in
        rw (whole_kept, length-take-le (used / record_bytes) row whole_fits) (whole_begins ∙ take_spelled_all (used / record_bytes) row whole_fits)

    success_ended : (queries : List Formula) (limit : ℕ) (answers : List ℕ) (kept added : List Record) → kept ≡ kept_of hyps fs journal used
        → added ≡ grown hyps fs kept limit → record_bytes * (length kept + length added) ≤ length journal → Ended hyps fs (success hyps fs queries kept added journal answers)
    unfolding success
    success_ended queries limit answers kept added keeps adds room =
        let number = min (used / record_bytes) standing.number in
        let front : kept ≡ grown hyps fs [] number = keeps ∙ whole_kept ∙ take_grown hyps fs [] (used / record_bytes) standing.number in
        let grows : kept ++ added ≡ grown hyps fs [] (number + limit) = rw (grown_add hyps fs [] number limit, ← front, adds) in
        record {
          number = number + limit;
          reaches = ap (λ (n : ℕ). record_bytes * n) (sym (length-append kept added)) ∙ ap (λ (row : List Record). record_bytes * length row) grows;
          spells = success_spells hyps fs queries kept added journal answers (rw keeps whole_spelled) room ∙ ap spelled_all grows;
          finishes = ap (is_finished hyps fs) grows;
        }

module _ (file : List ℕ) (short : length (list_of (entries_of file)) ≤ 4096) where
  -- a run that is not refused leaves exactly what some number of records grows to
  pub run_ended : (journal : List ℕ) (used limit : ℕ) (answers : List ℕ) → Standing (hypotheses_of (entries_of file)) (list_of (entries_of file)) journal used
      → (run file journal used limit answers).report.code ≡ 0
      → Ended (hypotheses_of (entries_of file)) (list_of (entries_of file)) (run file journal used limit answers)
  unfolding refusal
  run_ended journal used limit answers standing =
      let entries = entries_of file in
      run_cases file journal used limit answers (λ (o : Outcome). o.report.code ≡ 0 → Ended (hypotheses_of entries) (list_of entries) o)
      (λ code place h zero_code. absurd (omega arith))
      (λ kept added keeps adds room zero_code.
      success_ended (hypotheses_of entries) (list_of entries) short journal used standing (queries_of entries) limit answers kept added keeps adds room)

  -- whatever runs and cuts have left is a beginning of it
  pub reached_standing : (journal : List ℕ) (used : ℕ) → Reached file journal used → Standing (hypotheses_of (entries_of file)) (list_of (entries_of file)) journal used
  unfolding refusal
  reached_standing journal used (begun _) = record { number = 0; within = zero-le; begins = refl }
  reached_standing journal used (ran before once limit answers reached) =
      let entries = entries_of file in
      let standing = reached_standing before once reached in
      run_cases file before once limit answers (λ (o : Outcome). Standing (hypotheses_of entries) (list_of entries) o.journal o.report.used)
      (λ code place h. standing)
      (λ kept added keeps adds room.
      let outcome = success (hypotheses_of entries) (list_of entries) (queries_of entries) kept added before answers in
      ended_standing (hypotheses_of entries) (list_of entries) outcome
      (success_ended (hypotheses_of entries) (list_of entries) short before once standing (queries_of entries) limit answers kept added keeps adds room))
  reached_standing journal used (was_cut before once _ _ reached h e) =
      standing_cut (hypotheses_of (entries_of file)) (list_of (entries_of file)) before once used journal (reached_standing before once reached) h e

-- two runs that end finished have left the same bytes
pub ended_same : (hyps fs : List Formula) (one other : Outcome) → Ended hyps fs one → Ended hyps fs other → one.report.finished ≡ true
    → other.report.finished ≡ true
    → (one.report.used ≡ other.report.used) × (take one.report.used one.journal ≡ take other.report.used other.journal)
ended_same hyps fs one other first second done-one done-other =
    let m = first.number in
    let n = second.number in
    let same : grown hyps fs [] m ≡ grown hyps fs [] n = finished_unique hyps fs [] m n (sym first.finishes ∙ done-one) (sym second.finishes ∙ done-other) in (
      first.reaches ∙ ap (λ (row : List Record). record_bytes * length row) same ∙ sym second.reaches,
      first.spells ∙ ap spelled_all same ∙ sym second.spells,
    )
