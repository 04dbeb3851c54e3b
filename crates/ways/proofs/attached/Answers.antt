-- `ways::attached` meets its contract: each branch is a law of `Pairs`.
use Rattle.ways.proofs.Pairs.{attach_found, attach_unmarked, attach_other}
use Rattle.ways.proofs.attached.Goals as goal

pub returns-then-is_marked : goal.returns-then-is_marked
returns-then-is_marked c = attach_found _ _ _ _ c.at.ensures c.if-at.true c.at-p.ensures c.is_marked.ensures
    c.if-is_marked.true

pub returns-else-is_marked : goal.returns-else-is_marked
returns-else-is_marked c = attach_unmarked _ _ _ _ c.at-p.ensures c.is_marked.ensures c.if-is_marked.false

pub returns-else-at : goal.returns-else-at
returns-else-at c = attach_other _ _ _ _ c.at.ensures c.if-at.false
