-- `wording::put_prefix` meets its contract: from the outermost place inwards, each quotation is put.
use native.Mathlib.Omega.{arith}
use Rattle.writing.proofs.Placing.{some_ends}
use Rattle.wording.proofs.Quoted.{prefix_begins, prefix_turns, place_quoting}
use Rattle.wording.proofs.put_prefix.Goals as goal

pub loop-k-init : goal.loop-k-init
loop-k-init c = prefix_begins _ _ _ _ _ _ _

pub put_quotation-end-requires : goal.put_quotation-end-requires
put_quotation-end-requires c =
    let pre = c.requires in
    let inv = c.loop-k.invariant in
    (place_quoting _ _ _ _ _ _ _ (omega (arith, pre.0.few, pre.0.full)) inv c.loop-k-test.true pre.1, (some_ends inv.begun pre.2).0)

pub loop-k-preserved : goal.loop-k-preserved
loop-k-preserved c =
    let pre = c.requires in
    prefix_turns _ _ _ _ _ _ _ (omega (arith, pre.0.few, pre.0.full)) c.loop-k.invariant c.loop-k-test.true pre.2 c.put_quotation-end.ensures
