use Rattle.policy.proofs.Stages.{SpotsTo}
use Rattle.policy.proofs.filling.fill_spots.Given as goal

abbrev pub invariant-loop-i : goal.invariant-loop-i
invariant-loop-i l = SpotsTo l.file l.initial.nodes l.nodes l.spot.at l.spot.line l.i
