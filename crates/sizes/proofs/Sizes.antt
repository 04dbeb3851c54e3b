-- Codes 6 to 8, tried one after the other by the sizes that they compare: what is so where none of them applies.
-- Assumes nothing.
use Prim.Native.Nat.{ℕ, ◌*◌, ◌≤◌}
use mathlib.Core.Path.{◌≡◌}
use lib.Dec.{ltb}
use borrow.Author.Tests.{ltb-false}
use Rattle.infon.specs.Codes.{when, and_then, tried, Verdict, passed}
use Rattle.infon.specs.Journal.{record_bytes}
use Rattle.infon.proofs.Tried.{when_passed, and_then_passed}
use Rattle.sizes.specs.Sizes.{size_codes}

pub sizes_pass : (journal n used answers asked : ℕ) → tried (size_codes journal n used answers asked) ≡ passed
    → (record_bytes * n ≤ journal) × ((used ≤ journal) × (asked ≤ answers))
unfolding tried size_codes
sizes_pass journal n used answers asked h =
    let eighth : Verdict = and_then (when (ltb answers asked) 8 0) passed in
    let first = and_then_passed (when (ltb journal (record_bytes * n)) 6 0) (and_then (when (ltb journal used) 7 0) eighth) h in
    let second = and_then_passed (when (ltb journal used) 7 0) eighth first.1 in
    let third = and_then_passed (when (ltb answers asked) 8 0) passed second.1 in (
      ltb-false journal (record_bytes * n) (when_passed (ltb journal (record_bytes * n)) 6 0 first.0),
      (
        ltb-false journal used (when_passed (ltb journal used) 7 0 second.0),
        ltb-false answers asked (when_passed (ltb answers asked) 8 0 third.0),
      ),
    )
