-- What `dropped` says of the journal's bytes. Where it is 0, all bytes that were in use before the call are in use after it, and are the
-- same. Where it is at most 1, this holds of the bytes of all whole records.
-- Assumes nothing.
use Prim.Native.Nat.{ℕ, ◌*◌, ◌/◌, ◌%◌, ◌≤◌}
use native.Mathlib.Omega.{arith}
use mathlib.Core.Path.{◌≡◌, refl, sym, ◌∙◌, ap}
use mathlib.Core.Bool.{Bool, true, false, cond}
use mathlib.Core.List.{List}
use lib.ListN.{length, take, length-append}
use lib.Dec.{eqb, ltb}
use lib.Seq.{take-take}
use borrow.Author.Tests.{eq-eqb, eqb-true, ltb-false}
use Rattle.infon.specs.Journal.{record_bytes}
use Rattle.infon.proofs.Demands.{kept_part, added_part, records_left, keeps, kept_stay, uses}
use Rattle.settling.specs.declared.Settlement.{Settlement}
use Rattle.remains.specs.Dropped.{rest_of, is_begun, dropped_by, dropped_of}
use Rattle.settling.specs.Settled.{settled_run, Settles}
use Rattle.settling.proofs.Settling.{row_for, accepted_run}

-- how the three numbers come about
picked : (few none_left begun : Bool) (n : ℕ) → n ≡ cond few 2 (cond none_left 0 (cond begun 1 2)) → n ≤ 1 → (few ≡ false) × (n ≡ 0 → none_left ≡ true)
picked true none_left begun n e h = absurd (omega arith)
picked false true begun n e h = (refl, λ _. refl)
picked false false true n e h = (refl, λ z. absurd (omega arith))
picked false false false n e h = absurd (omega arith)

whole_below : (used : ℕ) → used % record_bytes ≡ 0 → record_bytes * (used / record_bytes) ≡ used
whole_below used e = omega arith

more_records : (m n : ℕ) → m ≤ n → record_bytes * m ≤ record_bytes * n
more_records m n h = omega arith

module _ (file journal : List ℕ) (used limit : ℕ) (asked : Bool) (text : List ℕ) (settled : Settlement) (after printed : List ℕ)
    (settles : Settles file journal used limit asked text settled after printed) (accepted : settled.report.code ≡ 0) where
  by_number : settled.dropped ≤ 1
      → (ltb settled.report.kept (used / record_bytes) ≡ false) × (settled.dropped ≡ 0 → eqb (used % record_bytes) 0 ≡ true)
  unfolding dropped_of dropped_by
  by_number h =
      picked (ltb settled.report.kept (used / record_bytes)) (eqb (used % record_bytes) 0) (is_begun (rest_of journal used)) settled.dropped
      (settles.dropped_now ∙ rw (eq-eqb settled.report.code 0 accepted)) h

  -- at most a record that was cut off is dropped: the bytes of the whole records are in use after the call, and are the same
  pub records_stand : settled.dropped ≤ 1
      → (record_bytes * (used / record_bytes) ≤ settled.report.used)
      × (take (record_bytes * (used / record_bytes)) after ≡ take (record_bytes * (used / record_bytes)) journal)
  unfolding settled_run
  records_stand h =
      let ran = accepted_run settles accepted in
      let whole = record_bytes * (used / record_bytes) in
      let count = length (kept_part file journal used) in
      let kept = record_bytes * count in
      let counted : settled.report.kept ≡ count =
      ap (λ r. r.kept) settles.report_now ∙ keeps file journal used limit (row_for text) ran in
      let all : used / record_bytes ≤ count = rw counted at (ltb-false settled.report.kept (used / record_bytes) (by_number h).0) in
      let fits : whole ≤ kept = more_records (used / record_bytes) count all in
      let in_use : settled.report.used ≡ record_bytes * length (records_left file journal used limit) =
      ap (λ r. r.used) settles.report_now ∙ uses file journal used limit (row_for text) ran in
      let among : used / record_bytes ≤ length (records_left file journal used limit) =
      omega (arith, length-append (kept_part file journal used) (added_part file journal used limit)) in
      let stay : take kept after ≡ take kept journal =
      ap (take kept) settles.journal_now ∙ kept_stay file journal used limit (row_for text) ran in (
        rw in_use (more_records (used / record_bytes) (length (records_left file journal used limit)) among),
        sym (take-take whole kept after fits) ∙ (ap (take whole) stay ∙ take-take whole kept journal fits),
      )

  -- nothing is dropped: all bytes that were in use are in use after the call, and are the same
  pub all_stand : settled.dropped ≡ 0 → (used ≤ settled.report.used) × (take used after ≡ take used journal)
  all_stand none =
      let whole : record_bytes * (used / record_bytes) ≡ used = whole_below used (eqb-true (used % record_bytes) 0 ((by_number (omega arith)).1 none)) in
      rw whole at (records_stand (omega arith))
