-- `ways::along` meets its contract. The loop's invariant: a walk along the chain of f.
use Rattle.ways.proofs.Leads.{along_starts, along_at, along_turns, along_found, along_over, less_left}
use Rattle.ways.proofs.along.Goals as goal

pub loop-at-init : goal.loop-at-init
loop-at-init c = along_starts _ _ _ _ c.args.chain _ c.first-at.ensures

pub returns-then-gives : goal.returns-then-gives
returns-then-gives c =
    along_found _ _ _ _ c.args.chain _ _ c.loop-at.invariant c.in-Some.is c.gives.ensures c.if-gives.true c.way_by.ensures

pub loop-at-smaller : goal.loop-at-smaller
loop-at-smaller c =
    less_left _ _ _ _ _ _ _ c.in-Some.is (along_at _ _ _ _ c.args.chain c.loop-at.invariant c.in-Some.is).0 c.next-at.ensures

pub loop-at-preserved : goal.loop-at-preserved
loop-at-preserved c =
    along_turns _ _ _ _ c.args.chain _ _ _ c.loop-at.invariant c.in-Some.is c.gives.ensures c.if-gives.false c.next-at.ensures

pub returns : goal.returns
returns c = along_over _ _ _ _ c.args.chain _ c.loop-at.invariant c.in_default.is
