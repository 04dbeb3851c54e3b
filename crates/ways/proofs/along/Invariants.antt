use Prim.Native.Nat.{ℕ, ◌-◌}
use Rattle.formulas.specs.Tests.{leads_to}
use Rattle.links.specs.Chains.{chain_column, shared_at}
use Rattle.ways.specs.Search.{way_by}
use Rattle.ways.proofs.Leads.{WalkedTo, place_or}
use Rattle.ways.proofs.along.Given as goal

abbrev pub invariant-loop-at : goal.invariant-loop-at
invariant-loop-at l =
    WalkedTo (λ (q : ℕ). leads_to l.search.list.table.now l.search.list.n l.marks l.f (way_by l.chain q)) l.search.list.table.now
    (chain_column l.chain) (shared_at l.search.list.table.now l.chain l.f) l.search.list.n l.at

abbrev pub decreases-loop-at : goal.decreases-loop-at
decreases-loop-at l = l.search.list.n - place_or l.search.list.n l.at
