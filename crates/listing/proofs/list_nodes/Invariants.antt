use Rattle.listing.proofs.Nodewise.{NodesTo}
use Rattle.listing.proofs.list_nodes.Given as goal

abbrev pub invariant-loop-i : goal.invariant-loop-i
invariant-loop-i l = NodesTo l.policy.file.now l.work.cand l.work.keys l.work.owners l.n l.i
