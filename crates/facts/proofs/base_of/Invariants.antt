use Prim.Native.Nat.{◌-◌}
use Rattle.nodes.specs.Nodes.{nodes_of}
use Rattle.facts.proofs.Bases.{Inwards}
use Rattle.facts.proofs.base_of.Given as goal

abbrev pub invariant-loop-i : goal.invariant-loop-i
invariant-loop-i l = Inwards (nodes_of l.policy.file.now) l.r l.i

abbrev pub decreases-loop-i : goal.decreases-loop-i
decreases-loop-i l = 1024 - l.i
