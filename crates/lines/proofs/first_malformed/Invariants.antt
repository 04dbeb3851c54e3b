use Prim.Native.Nat.{◌≤◌, ◌-◌}
use mathlib.Core.Path.{◌≡◌}
use lib.ListN.{length, drop}
use Rattle.infon.specs.Policy.{cut, placed, code2_from, code2}
use Rattle.lines.proofs.first_malformed.Given as goal

abbrev pub invariant-loop-start : goal.invariant-loop-start
invariant-loop-start l = (l.start ≤ length l.file) × (code2 l.file ≡ code2_from (placed l.start (cut (drop l.start l.file))))

abbrev pub decreases-loop-start : goal.decreases-loop-start
decreases-loop-start l = length l.file - l.start
