use Rattle.policy.proofs.Above.{AboveTo}
use Rattle.policy.proofs.filling.fill_above.Given as goal

abbrev pub invariant-loop-i : goal.invariant-loop-i
invariant-loop-i l = AboveTo l.initial.nodes l.count l.nodes l.i
