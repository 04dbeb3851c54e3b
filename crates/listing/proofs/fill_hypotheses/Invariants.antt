use Prim.Native.Nat.{◌-◌}
use Rattle.listing.proofs.Marks.{MarksTo}
use Rattle.listing.proofs.fill_hypotheses.Given as goal

abbrev pub invariant-loop-r : goal.invariant-loop-r
invariant-loop-r l = MarksTo l.policy.file.now l.initial.table l.table l.r

abbrev pub decreases-loop-r : goal.decreases-loop-r
decreases-loop-r l = l.policy.count - l.r
