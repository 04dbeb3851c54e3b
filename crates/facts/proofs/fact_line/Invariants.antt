use Prim.Native.Nat.{◌-◌}
use Rattle.facts.proofs.Sought.{Sought}
use Rattle.facts.proofs.fact_line.Given as goal

abbrev pub invariant-loop-r : goal.invariant-loop-r
invariant-loop-r l = Sought l.policy.file.now l.policy.nodes.now l.b l.puts l.line l.r

abbrev pub decreases-loop-r : goal.decreases-loop-r
decreases-loop-r l = l.policy.count - l.r
