-- The first i answers stand in front, the rest is as it was.
use Rattle.std.proofs.Common.{◌≡◌, map, take}
use Rattle.infon.specs.Run.{written}
use Rattle.answers.specs.Answered.{answer_at}
use Rattle.answers.proofs.answer_all.Given as goal

abbrev pub invariant-loop-i : goal.invariant-loop-i
invariant-loop-i l = l.answers ≡ written l.initial.answers 0 (map (answer_at l.marks l.finished) (take l.i l.queries))
