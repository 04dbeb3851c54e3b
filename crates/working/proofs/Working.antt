-- The steps of a run on a prepared list, put together.
-- Assumes nothing.
use Prim.Native.Nat.{ℕ, ◌+◌, ◌*◌, ◌/◌, ◌≤◌, ◌<◌}
use native.Mathlib.Omega.{arith}
use mathlib.Core.Path.{◌≡◌, sym, ◌∙◌, ap, subst}
use mathlib.Core.List.{List, [], ◌++◌}
use lib.ListN.{length, get_or, replicate, length-replicate}
use lib.Seq.{take_all}
use Rattle.infon.specs.Formula.{Formula, True}
use Rattle.infon.specs.Journal.{record_bytes, whole_records, spelled_all, kept_of, grown}
use Rattle.infon.specs.Run.{written, success}
use Rattle.infon.proofs.Listed.{numbered_mem}
use Rattle.infon.proofs.Grown.{kept_good}
use Rattle.infon.proofs.Missing.{grown_short}
use Rattle.infon.specs.Rules.{numbered}
use Rattle.formulas.specs.Table.{table_rows}
use Rattle.formulas.specs.Tests.{Held}
use Rattle.formulas.proofs.Numbers.{number_in_below}
use Rattle.journal.specs.Kept.{Keeps}
use Rattle.journal.proofs.Prepared as P
use Rattle.links.specs.Chains.{link_cells, linked_in, Searchable}
use Rattle.links.proofs.Linked.{linked_ready, bottoms_below}
use Rattle.growth.specs.declared.Growth.{Growth}
use Rattle.growth.specs.Grown.{Roomy, Grows}
use Rattle.growth.proofs.Joined.{room, added_is, finished_is, marks_hold, journal_is}
use Rattle.answers.specs.Answered.{Answerable, answered_bytes}
use Rattle.formulas.specs.Prepared.{Prepared}
use Rattle.working.specs.Working.{left}
use Rattle.working.proofs.Answering.{answered}

module _ {hyps fs queries : List Formula} {t : List ℕ} {n : ℕ} {numbers : List ℕ}
    (prepared : Prepared hyps fs queries t n numbers (length numbers)) where
  pub ready : {links : List ℕ} → links ≡ linked_in t n (replicate link_cells 0) → Searchable t links n
  ready e =
      subst (λ (l : List ℕ). Searchable t l n) (sym e)
      (linked_ready t (replicate link_cells 0) n (P.few prepared) (rw length-replicate (omega arith))
      (bottoms_below hyps fs t n prepared.count prepared.table))

  module _ {journal : List ℕ} {used kept : ℕ} {marks : List ℕ} (keeps : Keeps t n journal used (replicate table_rows 0) kept marks) where
    count : kept ≡ length (kept_of hyps fs journal used)
    count = P.kept_is prepared keeps

    held : Held hyps fs (kept_of hyps fs journal used) t n marks
    held = P.holds_kept prepared keeps

    pub grow_roomy : (limit : ℕ) → record_bytes * n ≤ length journal → Roomy t n marks journal kept limit
    unfolding kept_of
    grow_roomy limit long =
        let few = P.few prepared in
        let marks_long = held.marks_are.long in
        subst (λ (k : ℕ). Roomy t n marks journal k limit) (sym count)
        (room hyps fs t n (kept_of hyps fs journal used) marks held limit journal (omega arith)
        (kept_good hyps fs [] (whole_records (used / record_bytes) journal)) long)

    module _ {limit : ℕ} {growth : Growth} {marksAfter journalAfter : List ℕ}
        (grows : Grows t n marks journal kept limit growth marksAfter journalAfter) where
      holds_all : Held hyps fs (kept_of hyps fs journal used ++ grown hyps fs (kept_of hyps fs journal used) limit) t n marksAfter
      holds_all =
          marks_hold hyps fs t n (kept_of hyps fs journal used) marks held limit journal kept growth marksAfter journalAfter grows

      -- no more records than formulas
      pub all_few : kept + growth.added ≤ table_rows
      unfolding kept_of
      all_few =
          let done = kept_of hyps fs journal used in
          let row = grown_short hyps fs done (kept_good hyps fs [] (whole_records (used / record_bytes) journal)) limit in
          let counted = count in
          let added = added_is hyps fs t n done marks held limit journal kept growth marksAfter journalAfter grows in
          let short = prepared.table.few in
          omega arith

      pub answerable : (answers : List ℕ) → length numbers ≤ length answers → Answerable numbers marksAfter answers
      unfolding numbered
      answerable answers enough =
          record {
            room = enough;
            marked =
                λ i low.
                let is = P.number_is prepared i low in
                let inside : i < length queries = let e = prepared.asked_are in omega arith in
                let below =
                number_in_below fs (get_or queries i True) (prepared.listed (get_or queries i True) (numbered_mem queries i inside)) in
                let long = holds_all.marks_are.long in
                let short = prepared.table.few in
                omega arith;
          }

      pub works : (answers answersAfter : List ℕ)
          → answersAfter ≡ written answers 0 (answered_bytes numbers marksAfter growth.finished)
          → left
          (record { code = 0; place = 0; kept = kept; added = growth.added; finished = growth.finished; used = record_bytes * (kept + growth.added) })
          journalAfter answersAfter
          ≡ success hyps fs queries (kept_of hyps fs journal used) (grown hyps fs (kept_of hyps fs journal used) limit) journal answers
      unfolding success
      works answers answersAfter answers-are =
          let done = kept_of hyps fs journal used in
          let more = grown hyps fs done limit in
          let added = added_is hyps fs t n done marks held limit journal kept growth marksAfter journalAfter grows in
          let ends = finished_is hyps fs t n done marks held limit journal kept growth marksAfter journalAfter grows in
          let bytes = journal_is hyps fs t n done marks held limit journal kept growth marksAfter journalAfter grows in
          let said =
          answered hyps fs (done ++ more) t n marksAfter holds_all queries numbers growth.finished prepared.listed
          (sym (take_all (length numbers) numbers (omega arith)) ∙ prepared.numbers_are) ends in
          λ i. record {
            report =
                record {
                  code = 0;
                  place = 0;
                  kept = count i;
                  added = added i;
                  finished = ends i;
                  used = record_bytes * (count i + added i);
                };
            journal = (bytes ∙ ap (λ (k : ℕ). written journal (record_bytes * k) (spelled_all more)) count) i;
            answers = (answers-are ∙ ap (written answers 0) said) i;
          }
