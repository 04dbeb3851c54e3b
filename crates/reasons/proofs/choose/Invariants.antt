-- What the records that are left still give, with what was found, is what all of them give.
use Rattle.reasons.proofs.Choosing.{Choosing}
use Rattle.reasons.proofs.choose.Given as goal

abbrev pub invariant-loop-i : goal.invariant-loop-i
invariant-loop-i l = Choosing l.journal l.kept l.initial.wanted l.wanted l.found l.i
