use Rattle.prefix.proofs.Loops.{Lowered}
use Rattle.prefix.proofs.weaker.Given as goal

abbrev pub invariant-loop-k : goal.invariant-loop-k
invariant-loop-k l = Lowered l.p.count l.m l.p.places l.places l.left l.k
