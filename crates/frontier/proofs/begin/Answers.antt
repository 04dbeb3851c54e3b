-- `frontier::begin` meets its contract. The loop's invariant: what is wanted in all is what is wanted so far and what is wanted from here on.
use Rattle.frontier.proofs.Chained.{taking_turn, taking_over}
use Rattle.frontier.proofs.begin.Goals as goal

pub loop-i-preserved : goal.loop-i-preserved
loop-i-preserved c =
    taking_turn _ _ _ c.loop-i.invariant c.loop-i-test.true c.take_in.ensures

pub returns : goal.returns
returns c = taking_over _ _ _ c.loop-i.invariant c.loop-i-test.false
