-- `policy::filling::fill_ends` meets its contract. The invariant: the rows from `i` on have their ends.
use Rattle.policy.proofs.Ends.{ends_begin, ends_over, back_reads, back_small, back_turn}
use Prim.Native.Nat.{◌-◌}
use native.Mathlib.Omega.{arith}
use Rattle.policy.proofs.filling.fill_ends.Goals as goal

pub loop-i-init : goal.loop-i-init
loop-i-init c = ends_begin _ _ c.requires

pub end_from-end-requires-clause-end_reads : goal.end_from-end-requires-clause-end_reads
end_from-end-requires-clause-end_reads c = back_reads _ _ c.requires _ _ c.loop-i.invariant _ (omega arith)

pub set_cell-requires-clause-fits : goal.set_cell-requires-clause-fits
set_cell-requires-clause-fits c =
    omega (arith, c.end_from-end.ensures, back_small c.args.nodes.now c.args.count c.requires c.loop-i.nodes c.loop-i.i c.loop-i.invariant (c.loop-i.i - 1) (omega arith))

pub loop-i-preserved : goal.loop-i-preserved
loop-i-preserved c =
    back_turn _ _ c.requires _ _ c.loop-i.invariant _ (omega arith) _ c.end_from-end.ensures _ c.set_cell.ensures

pub returns : goal.returns
returns c = ends_over _ _ _ _ c.loop-i.invariant (omega arith)
