-- The promise leaves one answer: two reports of the same call are the same, with the same bytes in both buffers.
-- Assumes nothing.
use Prim.Native.Nat.{ℕ}
use mathlib.Core.Path.{◌≡◌, sym, ◌∙◌, ap}
use mathlib.Core.List.{List}
use Rattle.infon.specs.declared.Report.{Report}
use Rattle.infon.specs.Run.{Outcome, run}
use Rattle.working.specs.Working.{left}

-- of `run`, here and for C
pub run_once : (file journal : List ℕ) (used limit : ℕ) (answers : List ℕ) {one two : Report} {journal₁ journal₂ answers₁ answers₂ : List ℕ}
    → left one journal₁ answers₁ ≡ run file journal used limit answers → left two journal₂ answers₂ ≡ run file journal used limit answers
    → (one ≡ two) × (journal₁ ≡ journal₂) × (answers₁ ≡ answers₂)
run_once file journal used limit answers first second =
    let same = first ∙ sym second in
    (ap (λ (o : Outcome). o.report) same, ap (λ (o : Outcome). o.journal) same, ap (λ (o : Outcome). o.answers) same)
