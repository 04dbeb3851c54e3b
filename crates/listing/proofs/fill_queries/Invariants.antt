use Prim.Native.Nat.{◌-◌}
use Rattle.listing.proofs.Marks.{AskedTo}
use Rattle.listing.proofs.fill_queries.Given as goal

abbrev pub invariant-loop-r : goal.invariant-loop-r
invariant-loop-r l = AskedTo l.policy.file.now l.initial.queries l.queries l.q l.r

abbrev pub decreases-loop-r : goal.decreases-loop-r
decreases-loop-r l = l.policy.count - l.r
