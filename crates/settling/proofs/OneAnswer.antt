-- The promise leaves one answer: two settlements of the same call are the same, with the same journal and the same text in the
-- buffers.
-- Assumes nothing.
use Prim.Native.Nat.{ℕ, ◌/◌}
use mathlib.Core.Path.{◌≡◌, sym, ◌∙◌, ap}
use mathlib.Core.Bool.{Bool, cond}
use mathlib.Core.List.{List}
use lib.Dec.{eqb}
use Rattle.infon.specs.declared.Report.{Report}
use Rattle.infon.specs.Journal.{record_bytes}
use Rattle.writing.proofs.Placing.{prints_one}
use Rattle.settling.specs.declared.Settlement.{Settlement}
use Rattle.remains.specs.Dropped.{dropped_of}
use Rattle.settling.specs.Settled.{Settles}

-- of `settle`
pub settle_once : {file journal : List ℕ} {used limit : ℕ} {asked : Bool} {text : List ℕ} {one two : Settlement} {after₁ after₂ printed₁ printed₂ : List ℕ}
    → Settles file journal used limit asked text one after₁ printed₁ → Settles file journal used limit asked text two after₂ printed₂
    → (one ≡ two) × (after₁ ≡ after₂) × (printed₁ ≡ printed₂)
settle_once {journal = journal} {used = used} first second =
    let reports = first.report_now ∙ sym second.report_now in
    let records = first.records_had ∙ (ap (λ (r : Report). cond (eqb r.code 0) (used / record_bytes) 0) reports ∙ sym second.records_had) in
    let drops =
    first.dropped_now ∙ (ap (λ (r : Report). cond (eqb r.code 0) (dropped_of journal used r.kept) 0) reports ∙ sym second.dropped_now) in
    let texts = prints_one first.prints second.prints in (
      λ i. record { report = reports i; records = records i; dropped = drops i; length = texts.0 i },
      first.journal_now ∙ sym second.journal_now,
      texts.1,
    )
