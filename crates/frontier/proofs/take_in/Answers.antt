-- `frontier::take_in` meets its contract: the records without a premise, and then those of a recorded one.
use Rattle.frontier.proofs.Wanting.{taken_marked, taken_open}
use Rattle.frontier.proofs.take_in.Goals as goal

pub returns-then-is_marked : goal.returns-then-is_marked
returns-then-is_marked c =
    taken_marked _ _ _ _ _ c.want.ensures c.want-2.ensures c.is_marked.ensures c.if-is_marked.true
    c.touch.ensures

pub returns-else-is_marked : goal.returns-else-is_marked
returns-else-is_marked c =
    taken_open _ _ _ _ _ c.want.ensures c.want-2.ensures c.is_marked.ensures c.if-is_marked.false
