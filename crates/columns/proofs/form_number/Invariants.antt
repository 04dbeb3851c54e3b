use Prim.Native.Nat.{◌-◌}
use Rattle.nodes.specs.Nodes.{node_rows}
use Rattle.nodes.specs.Columns.{number_of}
use Rattle.columns.proofs.Steps.{Going}
use Rattle.columns.proofs.form_number.Given as goal

abbrev pub invariant-loop-kind : goal.invariant-loop-kind
invariant-loop-kind l = Going l.policy.file.now l.policy.nodes.now l.cand l.j l.m l.at l.form (number_of l.kind)

abbrev pub decreases-loop-kind : goal.decreases-loop-kind
decreases-loop-kind l = node_rows - l.at
