use Rattle.frontier.proofs.Chained.{Taking}
use Rattle.frontier.proofs.begin.Given as goal

abbrev pub invariant-loop-i : goal.invariant-loop-i
invariant-loop-i l = Taking l.search.list.table.now l.search.list.n l.marks l.initial.cover l.cover l.i
