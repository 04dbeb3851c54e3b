use Rattle.prefix.specs.Places.{prefix_at}
use Rattle.prefix.proofs.Loops.{Climbed}
use Rattle.prefix.proofs.prefix_of.Given as goal

abbrev pub invariant-loop-k : goal.invariant-loop-k
invariant-loop-k l = Climbed l.nodes l.count (prefix_at l.nodes l.i).places l.places l.above l.k
