-- The wanted ones of the records gone through stand at the front.
use Rattle.reasons.proofs.Lending.{Lending}
use Rattle.reasons.proofs.lend.Given as goal

abbrev pub invariant-loop-i : goal.invariant-loop-i
invariant-loop-i l = Lending l.journal l.wanted l.kept l.initial.out l.out l.count l.i
