use Prim.Native.Nat.{◌-◌}
use Rattle.ways.proofs.Leads.{place_or}
use Rattle.frontier.proofs.Covered.{Passing}
use Rattle.frontier.proofs.next_record.Given as goal

abbrev pub invariant-loop-at : goal.invariant-loop-at
invariant-loop-at l = Passing l.search.list.table.now l.search.list.n l.marks l.initial.cover l.cover l.at

abbrev pub decreases-loop-at : goal.decreases-loop-at
decreases-loop-at l = l.search.list.n - place_or l.search.list.n l.at
