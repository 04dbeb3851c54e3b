-- `ways::combined` meets its contract: each branch is a law of `Pairs`.
use Rattle.ways.proofs.Pairs.{both_found, both_unmarked, both_other}
use Rattle.ways.proofs.combined.Goals as goal

pub returns-then-are_marked : goal.returns-then-are_marked
returns-then-are_marked c = both_found _ _ _ _ c.at.ensures c.if-at.true c.at-left.ensures
    c.at-right.ensures c.are_marked.ensures c.if-are_marked.true

pub returns-else-are_marked : goal.returns-else-are_marked
returns-else-are_marked c = both_unmarked _ _ _ _ c.at-left.ensures c.at-right.ensures
    c.are_marked.ensures c.if-are_marked.false

pub returns-else-at : goal.returns-else-at
returns-else-at c = both_other _ _ _ _ c.at.ensures c.if-at.false
