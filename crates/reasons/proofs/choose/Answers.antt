-- `reasons::choose` meets its contract: each turn looks at one record more, and finds it wanted or not.
use Rattle.std.proofs.Common.{arith}
use Rattle.reasons.proofs.Choosing.{choosing_begins, choosing_none, choosing_one, found_fits, choosing_over}
use Rattle.reasons.proofs.choose.Goals as goal

pub loop-i-init : goal.loop-i-init
loop-i-init c = choosing_begins _ _ _

pub overflow_add-found : goal.overflow_add-found
overflow_add-found c =
    let fits = found_fits c.loop-i.invariant c.loop-i-test.true c.in-Some.ensures in
    omega arith

pub loop-i-preserved-in-Some : goal.loop-i-preserved-in-Some
loop-i-preserved-in-Some c =
    choosing_one c.loop-i.invariant c.loop-i-test.true c.in-Some.ensures c.want_premises.ensures

pub loop-i-preserved : goal.loop-i-preserved
loop-i-preserved c = choosing_none c.loop-i.invariant c.loop-i-test.true c.in_default.ensures

pub returns : goal.returns
returns c = choosing_over _ c.loop-i.invariant c.loop-i-test.false
