use Prim.Native.Nat.{◌-◌}
use Rattle.links.specs.Chains.{chain_column, shared_at}
use Rattle.ways.proofs.Leads.{place_or}
use Rattle.frontier.proofs.Chained.{Meeting}
use Rattle.frontier.proofs.meet_chain.Given as goal

abbrev pub invariant-loop-at : goal.invariant-loop-at
invariant-loop-at l =
    Meeting l.search.list.table.now (chain_column l.chain) (shared_at l.search.list.table.now l.chain l.f) l.f l.search.list.n l.marks
    l.initial.cover l.cover l.at

abbrev pub decreases-loop-at : goal.decreases-loop-at
decreases-loop-at l = l.search.list.n - place_or l.search.list.n l.at
