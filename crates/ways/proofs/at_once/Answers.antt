-- `ways::at_once` meets its contract: each branch is a law of `Rulewise`.
use Rattle.ways.proofs.Rulewise.{by_hypothesis, by_given, not_at_once}
use Rattle.ways.proofs.at_once.Goals as goal

pub returns-then-at-eq1 : goal.returns-then-at-eq1
returns-then-at-eq1 c = λ marks. by_hypothesis _ _ marks _ c.at.ensures c.if-at-eq1.true

pub returns-then-at : goal.returns-then-at
returns-then-at c = λ marks. by_given _ _ marks _ c.at.ensures c.if-at-eq1.false c.at-else-at-eq1.ensures c.if-at.true

pub returns-else-at : goal.returns-else-at
returns-else-at c = λ marks. not_at_once _ _ marks _ c.at.ensures c.if-at-eq1.false c.at-else-at-eq1.ensures c.if-at.false
