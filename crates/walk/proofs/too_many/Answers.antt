-- `walk::too_many` meets its contract. The invariant: the spot is where the next node and its line begin, or the file is at its end.
use mathlib.Core.Path.{sym}
use native.Mathlib.Omega.{arith}
use Rattle.infon.specs.Policy.{most_nodes}
use Rattle.walk.proofs.Spots.{walk_begin, walk_inside, walk_here, walk_within, walk_on, many_nodes, few_nodes}
use Rattle.walk.proofs.too_many.Goals as goal

pub loop-init : goal.loop-init
loop-init c = (omega arith, walk_begin c.args.file.now c.requires)

pub returns-in_default : goal.returns-in_default
unfolding most_nodes
returns-in_default c = sym (few_nodes _ _ _ _ c.loop.invariant.0 c.loop.invariant.1 (omega arith) _ c.node_at.ensures c.in_default.is)

pub own_end-end-requires : goal.own_end-end-requires
own_end-end-requires c = omega (arith, walk_inside _ _ _ _ c.loop.invariant.0 c.loop.invariant.1 _ _ c.node_at.ensures c.in-Some.is)

pub next_spot-spot-requires : goal.next_spot-spot-requires
next_spot-spot-requires c = walk_within _ _ _ _ c.loop.invariant.0 c.loop.invariant.1 _ _ c.node_at.ensures c.in-Some.is _ c.own_end-end.ensures

pub loop-preserved : goal.loop-preserved
loop-preserved c =
    let here = walk_here _ _ _ _ c.loop.invariant.0 c.loop.invariant.1 _ _ c.node_at.ensures c.in-Some.is in
    (omega arith, walk_on _ _ _ _ c.loop.invariant.0 c.loop.invariant.1 _ _ c.node_at.ensures c.in-Some.is _ c.own_end-end.ensures _ c.next_spot-spot.ensures)

pub returns-in-None : goal.returns-in-None
unfolding most_nodes
returns-in-None c = sym (few_nodes _ _ _ _ c.loop.invariant.0 c.loop.invariant.1 (omega arith) _ c.node_at-2.ensures c.in-None.is)

pub returns-in-Some-node_at : goal.returns-in-Some-node_at
unfolding most_nodes
returns-in-Some-node_at c = sym (many_nodes _ _ _ _ c.loop.invariant.0 c.loop.invariant.1 _ _ c.node_at-2.ensures c.in-Some-node_at.is (omega arith))
