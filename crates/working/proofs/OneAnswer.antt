-- What the functions on an accepted file promise leaves one answer, and one content of both buffers.
-- Assumes nothing.
use Prim.Native.Nat.{ℕ}
use mathlib.Core.Path.{◌≡◌, sym, ◌∙◌}
use mathlib.Core.List.{List}
use Rattle.infon.specs.declared.Report.{Report}
use Rattle.working.specs.Working.{Workable, left, Works, Acceptable, Proceeds}

-- of `work`, on a prepared list
pub works_once : {t : List ℕ} {n : ℕ} {numbers journal : List ℕ} {used : ℕ} (limit : ℕ) {answers : List ℕ} {report other : Report}
    {journalAfter answersAfter journalOther answersOther : List ℕ} → Workable t n numbers journal used answers
    → Works t n numbers journal used limit answers report journalAfter answersAfter
    → Works t n numbers journal used limit answers other journalOther answersOther
    → left report journalAfter answersAfter ≡ left other journalOther answersOther
works_once limit able first second =
    let prepared = able.prepared in
    first able.hyps able.fs able.queries prepared ∙ sym (second able.hyps able.fs able.queries prepared)

-- of `proceed`, on an accepted file
pub proceeds_once : {t : List ℕ} {n : ℕ} {numbers : List ℕ} (journal : List ℕ) (used limit : ℕ) (answers : List ℕ) {report other : Report}
    {journalAfter answersAfter journalOther answersOther : List ℕ} → Acceptable t n numbers
    → Proceeds t n numbers journal used limit answers report journalAfter answersAfter
    → Proceeds t n numbers journal used limit answers other journalOther answersOther
    → left report journalAfter answersAfter ≡ left other journalOther answersOther
proceeds_once journal used limit answers some first second = first some.file some.for_file ∙ sym (second some.file some.for_file)
