use Rattle.policy.proofs.Finish.{DeepFrom}
use Rattle.policy.proofs.deep.Given as goal

abbrev pub invariant-loop-i : goal.invariant-loop-i
invariant-loop-i l = DeepFrom l.nodes l.count l.i
