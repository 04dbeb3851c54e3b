-- The covering set while the journal grows: it covers when it is filled, and after each record.
-- Assumes nothing.
use Prim.Native.Nat.{ℕ, ◌≤◌, ◌<◌}
use mathlib.Core.Path.{◌≡◌, ap}
use mathlib.Core.List.{List}
use native.Mathlib.Omega.{arith}
use lib.ListN.{length, set}
use Rattle.frontier.specs.Touched.{Covers, CoversBut, wanted_all, touching, taking_all}
use Rattle.frontier.proofs.Wanting.{all_long}
use Rattle.frontier.proofs.Covered.{covers_filled, covers_touched}

-- The set has its words, and it covers.
pub record Covering (t : List ℕ) (n : ℕ) (marks cover : List ℕ) : Type 0 where
  pub long : length cover ≡ 64
  pub covers : Covers t n marks cover

module _ (t marks : List ℕ) (n : ℕ) (few : n ≤ 4096) (cover : List ℕ) {after : List ℕ} where
  pub covering_filled : length cover ≡ 64 → after ≡ wanted_all t n marks cover (taking_all t n marks 0 n) → Covering t n marks after
  covering_filled long e =
      let same = all_long t n marks (taking_all t n marks 0 n) cover in
      let size = ap length e in
      record { long = omega arith; covers = covers_filled t n marks cover few (omega arith) e }

  pub covering_touched : (f : ℕ) → f < n → n ≤ length marks → length cover ≡ 64 → CoversBut t n marks cover f
      → after ≡ wanted_all t n (set marks f 1) cover (touching t n f) → Covering t n (set marks f 1) after
  covering_touched f low room long covers e =
      let same = all_long t n (set marks f 1) (touching t n f) cover in
      let size = ap length e in
      record {
        long = omega arith;
        covers = covers_touched t n marks f low room cover few (omega arith) covers e;
      }
