use Prim.Native.Nat.{◌*◌}
use Rattle.members.specs.Members.{NoneBelow}
use Rattle.members.proofs.least.Given as goal

abbrev pub invariant-loop-at : goal.invariant-loop-at
invariant-loop-at l = NoneBelow l.cover (l.at * 64)
