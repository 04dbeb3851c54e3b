use Prim.Native.Nat.{◌-◌}
use Rattle.ways.proofs.Leads.{place_or}
use Rattle.ways.proofs.Pairs.{Walking}
use Rattle.ways.proofs.applied.Given as goal

abbrev pub invariant-loop-at : goal.invariant-loop-at
invariant-loop-at l = Walking l.search.list.table.now l.search.list.n l.marks l.f l.best l.at

abbrev pub decreases-loop-at : goal.decreases-loop-at
decreases-loop-at l = l.search.list.n - place_or l.search.list.n l.at
