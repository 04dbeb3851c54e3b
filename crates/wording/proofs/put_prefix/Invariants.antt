use Rattle.wording.proofs.Quoted.{Prefixed}
use Rattle.wording.proofs.put_prefix.Given as goal

abbrev pub invariant-loop-k : goal.invariant-loop-k
invariant-loop-k l = Prefixed l.held.file.now l.held.nodes.now l.puts l.initial.out l.at l.p.places l.p.count l.out l.k l.bits l.end
