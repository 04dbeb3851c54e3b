-- The desk's run always ends finished, so that no answer is open: no list has more than 4,096 formulas, and so many records are
-- all that can be missing.
-- Assumes nothing.
use Prim.Native.Nat.{ℕ}
use mathlib.Core.Path.{◌≡◌}
use mathlib.Core.Bool.{true}
use mathlib.Core.List.{List}
use lib.ListN.{replicate}
use Rattle.infon.proofs.Demands.{list_short, finished_by_the_list}
use Rattle.desk.specs.Desk.{desk_run}

pub finishes : (file : List ℕ) → (desk_run file).report.code ≡ 0 → (desk_run file).report.finished ≡ true
unfolding desk_run
finishes file accepted =
    finished_by_the_list file (replicate 36864 0) 0 4096 (replicate 1024 0) accepted
    (list_short file (replicate 36864 0) 0 4096 (replicate 1024 0) accepted)
