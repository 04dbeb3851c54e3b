-- `policy::filling::fill_spots` meets its contract. The invariant: the walk stands at node `i`, and the rows before it are held.
use Rattle.policy.proofs.Stages.{spots_begin, spots_over, spots_full, spots_inside, spots_end, spots_turn}
use native.Mathlib.Omega.{arith}
use Rattle.policy.proofs.filling.fill_spots.Goals as goal

pub loop-i-init : goal.loop-i-init
loop-i-init c = spots_begin _ _ c.requires.well_formed c.requires.few c.told-nodes

pub returns-in_default : goal.returns-in_default
returns-in_default c = spots_over _ _ _ _ _ _ c.loop-i.invariant _ c.node_at.ensures c.in_default.is

pub own_end-end-requires : goal.own_end-end-requires
own_end-end-requires c = omega (arith, spots_inside _ _ _ _ _ _ c.loop-i.invariant _ _ c.node_at.ensures c.in-Some.is)

pub overflow_sub-end : goal.overflow_sub-end
overflow_sub-end c = omega (arith, (spots_end _ _ _ _ _ _ c.loop-i.invariant _ _ c.node_at.ensures c.in-Some.is _ c.own_end-end.ensures).0)

pub put_spot-requires-clause-own_fits : goal.put_spot-requires-clause-own_fits
put_spot-requires-clause-own_fits c =
    let ends = spots_end _ _ _ _ _ _ c.loop-i.invariant _ _ c.node_at.ensures c.in-Some.is _ c.own_end-end.ensures in
    omega (arith, c.requires.short)

pub put_spot-requires-clause-spot_fits : goal.put_spot-requires-clause-spot_fits
put_spot-requires-clause-spot_fits c =
    let ends = spots_end _ _ _ _ _ _ c.loop-i.invariant _ _ c.node_at.ensures c.in-Some.is _ c.own_end-end.ensures in
    (omega (arith, c.requires.short), omega (arith, c.requires.short, c.loop-i.invariant.ahead))

pub next_spot-spot-requires : goal.next_spot-spot-requires
next_spot-spot-requires c = (spots_end _ _ _ _ _ _ c.loop-i.invariant _ _ c.node_at.ensures c.in-Some.is _ c.own_end-end.ensures).1

pub loop-i-preserved : goal.loop-i-preserved
loop-i-preserved c =
    spots_turn _ _ _ _ _ _ c.loop-i.invariant _ _ c.node_at.ensures c.in-Some.is _ c.own_end-end.ensures _ c.from.ensures
    c.loop-i-test.true _ c.put_spot.ensures _ c.next_spot-spot.ensures

pub returns : goal.returns
returns c = spots_full _ _ _ _ _ _ c.loop-i.invariant c.loop-i-test.false
