use Rattle.policy.proofs.Ends.{EndsTo}
use Rattle.policy.proofs.filling.fill_ends.Given as goal

abbrev pub invariant-loop-i : goal.invariant-loop-i
invariant-loop-i l = EndsTo l.initial.nodes l.count l.nodes l.i
