use Prim.Native.Nat.{◌≤◌}
use Rattle.nodes.specs.Nodes.{after, count_nodes, nodes_of}
use Rattle.nodes.proofs.Spelled.{Chain}
use Rattle.walk.proofs.too_many.Given as goal

abbrev pub invariant-loop : goal.invariant-loop
invariant-loop l = (l.counter ≤ count_nodes (nodes_of l.file)) × Chain l.file l.spot.at l.spot.line (after 0 l.counter (nodes_of l.file))
