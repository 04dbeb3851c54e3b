-- `policy::filling::fill_above` meets its contract. The invariant: the rows before `i`, and the nodes that wait, have what stands above them.
use Rattle.policy.proofs.Above.{above_begin, above_over, forth_reads, forth_depth, forth_turn}
use Rattle.policy.proofs.filling.fill_above.Goals as goal

pub loop-i-init : goal.loop-i-init
loop-i-init c = above_begin _ _ c.requires

pub hand_down-requires-clause-end_reads : goal.hand_down-requires-clause-end_reads
hand_down-requires-clause-end_reads c = forth_reads _ _ c.requires _ _ c.loop-i.invariant c.loop-i-test.true

pub hand_down-requires-clause-depth_fits : goal.hand_down-requires-clause-depth_fits
hand_down-requires-clause-depth_fits c = forth_depth _ _ c.requires _ _ c.loop-i.invariant c.loop-i-test.true

pub loop-i-preserved : goal.loop-i-preserved
loop-i-preserved c = forth_turn _ _ c.requires _ _ c.loop-i.invariant c.loop-i-test.true _ c.hand_down.ensures c.hand_down.array_long

pub returns : goal.returns
returns c = above_over _ _ _ _ c.loop-i.invariant c.loop-i-test.false
