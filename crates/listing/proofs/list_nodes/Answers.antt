-- `listing::list_nodes` meets its contract: the tables hold what is listed so far, and code 5 is that of the nodes still ahead.
use native.Mathlib.Omega.{arith}
use Prim.Native.Nat.{ℕ}
use mathlib.Core.Path.{◌≡◌, subst}
use Rattle.nodes.specs.Nodes.{count_nodes, nodes_of}
use Rattle.prefix.proofs.Shown.{count_few}
use Rattle.twins.proofs.Texts.{counted}
use Rattle.listing.proofs.Nodewise.{NodesTo, nodes_begin, nodes_on, nodes_over, nodes_all}
use Rattle.listing.proofs.list_nodes.Goals as goal

pub loop-i-init : goal.loop-i-init
loop-i-init c = nodes_begin _ _ _ _

pub returns-then-n-gt-MOST : goal.returns-then-n-gt-MOST
returns-then-n-gt-MOST c =
    nodes_over c.args.policy.held c.loop-i.invariant (counted c.args.policy.all c.loop-i-test.true) c.list_node-n.ensures c.if-n-gt-MOST.true c.cell_at-place.ensures

pub loop-i-preserved : goal.loop-i-preserved
loop-i-preserved c =
    nodes_on c.args.policy.held c.loop-i.invariant (counted c.args.policy.all c.loop-i-test.true) c.list_node-n.ensures c.if-n-gt-MOST.false

pub cell_at-place-requires : goal.cell_at-place-requires
cell_at-place-requires c = omega (arith, count_few _ _ c.args.policy.held)

pub returns : goal.returns
returns c =
    let all : c.loop-i.i ≡ count_nodes (nodes_of c.args.policy.file.now) = omega arith in
    nodes_all _ _ _ _ _ (subst (λ (i : ℕ). NodesTo c.args.policy.file.now c.loop-i.work.cand c.loop-i.work.keys c.loop-i.work.owners c.loop-i.n i) all c.loop-i.invariant)
