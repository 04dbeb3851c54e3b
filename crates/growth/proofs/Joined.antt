-- Where the table and the marks hold a list and its records, what is added over them is what the paper's run adds.
-- Assumes nothing.
use Prim.Native.Nat.{ℕ, zero, suc, ◌*◌, ◌≤◌}
use native.Mathlib.Omega.{arith}
use mathlib.Core.Path.{◌≡◌, refl, sym, ◌∙◌, ap}
use Rattle.std.specs.Prelude.{Option, None, Some}
use mathlib.Core.List.{List, [], ◌∷◌, ◌++◌}
use lib.ListN.{length, set}
use Rattle.infon.specs.declared.Record.{Record}
use Rattle.infon.specs.Formula.{Formula}
use Rattle.infon.specs.Journal.{record_bytes, spelled_all, next, followed, is_finished, grown}
use Rattle.std.specs.Prelude.{is_none}
use Rattle.infon.specs.Run.{written}
use Rattle.infon.proofs.Grown.{GoodRow, grown_good, next_good}
use Rattle.infon.proofs.Missing.{grown_short}
use Rattle.formulas.specs.Tests.{Held}
use Rattle.journal.specs.Kept.{mark_all}
use Rattle.journal.proofs.Holding.{held_more, held_row}
use Rattle.ways.proofs.Onward.{next_in_lem}
use Rattle.growth.specs.declared.Growth.{Growth}
use Rattle.growth.specs.Grown.{grown_in, Roomy, Grows}

module _ (hyps fs : List Formula) (t : List ℕ) (n : ℕ) where
  pub grown_in_lem : (limit : ℕ) (done : List Record) (marks : List ℕ) → Held hyps fs done t n marks
      → grown_in t n marks limit ≡ grown hyps fs done limit
  unfolding grown_in grown followed
  grown_in_lem zero done marks held = refl
  grown_in_lem (suc limit) done marks held =
      rw (← next_in_lem hyps fs done t n marks held)
      (each (next hyps fs done)
      (λ r e. grown_in_lem limit (done ++ (r ∷ [])) (set marks r.formula 1) (held_more hyps fs t n done marks r held (next_good hyps fs done r e)))
      refl)
    where
      each : (o : Option Record)
          → ((r : Record) → next hyps fs done ≡ Some r
          → grown_in t n (set marks r.formula 1) limit ≡ grown hyps fs (done ++ (r ∷ [])) limit)
          → next hyps fs done ≡ o
          → followed o (λ (r : Record). grown_in t n (set marks r.formula 1) limit)
          ≡ followed o (λ (r : Record). grown hyps fs (done ++ (r ∷ [])) limit)
      each None later e = refl
      each (Some r) later e = rw (later r e)

  module _ (done : List Record) (marks : List ℕ) (held : Held hyps fs done t n marks) (limit : ℕ) where
    grown_held : Held hyps fs (done ++ grown hyps fs done limit) t n (mark_all marks (grown_in t n marks limit))
    grown_held =
        rw (grown_in_lem limit done marks held)
        (held_row hyps fs t n done (grown hyps fs done limit) marks (grown_good hyps fs done limit) held)

    -- a journal with room for the whole list has room for what is added to good records
    pub room : (journal : List ℕ) → n ≤ length marks → GoodRow hyps fs [] done → record_bytes * n ≤ length journal
        → Roomy t n marks journal (length done) limit
    room journal marks_long row long =
        let short = grown_short hyps fs done row limit in
        let same = ap length (grown_in_lem limit done marks held) in
        let count = held.count in
        record { marks_long = marks_long; room = omega arith }

    module _ (journal : List ℕ) (kept : ℕ) (growth : Growth) (marksAfter journalAfter : List ℕ)
        (grows : Grows t n marks journal kept limit growth marksAfter journalAfter) where
      pub added_is : growth.added ≡ length (grown hyps fs done limit)
      added_is = grows.counted ∙ ap length (grown_in_lem limit done marks held)

      pub finished_is : growth.finished ≡ is_finished hyps fs (done ++ grown hyps fs done limit)
      unfolding is_finished
      finished_is =
          grows.ended ∙ ap is_none (sym (next_in_lem hyps fs (done ++ grown hyps fs done limit) t n (mark_all marks (grown_in t n marks limit)) grown_held))

      pub marks_hold : Held hyps fs (done ++ grown hyps fs done limit) t n marksAfter
      marks_hold = rw grows.marks_are grown_held

      pub journal_is : journalAfter ≡ written journal (record_bytes * kept) (spelled_all (grown hyps fs done limit))
      journal_is =
          grows.journal_is ∙ ap (λ (rs : List Record). written journal (record_bytes * kept) (spelled_all rs)) (grown_in_lem limit done marks held)

-- growing from the same tables and journal, two runs give the same answer, the same marks and the same journal
pub grows_once : {t : List ℕ} {n : ℕ} {marks journal : List ℕ} {kept limit : ℕ} {one two : Growth} {marks₁ marks₂ journal₁ journal₂ : List ℕ}
    → Grows t n marks journal kept limit one marks₁ journal₁ → Grows t n marks journal kept limit two marks₂ journal₂
    → (one ≡ two) × (marks₁ ≡ marks₂) × (journal₁ ≡ journal₂)
grows_once first second =
    let counts = first.counted ∙ sym second.counted in
    let ends = first.ended ∙ sym second.ended in
    (λ i. record { added = counts i; finished = ends i }, first.marks_are ∙ sym second.marks_are, first.journal_is ∙ sym second.journal_is)
