use Rattle.growth.proofs.Covering.{Covering}
use Rattle.growth.proofs.Growing.{Growing}
use Rattle.growth.proofs.grow.Given as goal

abbrev pub invariant-loop-added : goal.invariant-loop-added
invariant-loop-added l =
    Growing l.search.list.table.now l.search.list.n l.initial.marks l.initial.journal l.kept l.limit l.marks l.journal l.added
    × Covering l.search.list.table.now l.search.list.n l.marks l.cover
