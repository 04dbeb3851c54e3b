-- `ways::condition` meets its contract: each branch is a law of `Pairs`.
use mathlib.Core.Path.{sym, ◌∙◌}
use Rattle.ways.proofs.Pairs.{condition_found, condition_unmarked, condition_other, condition_free}
use Rattle.ways.proofs.condition.Goals as goal

pub returns-then-is_marked-2 : goal.returns-then-is_marked-2
returns-then-is_marked-2 c = condition_found _ _ _ _ (sym c.is_marked.ensures ∙ c.if-is_marked.true)
    (sym c.at.ensures ∙ c.if-at.true) c.at-p.ensures (sym c.is_marked-then-at.ensures ∙ c.if-is_marked-2.true)

pub returns-else-is_marked-2 : goal.returns-else-is_marked-2
returns-else-is_marked-2 c = condition_unmarked _ _ _ _ c.at-p.ensures (sym c.is_marked-then-at.ensures ∙ c.if-is_marked-2.false)

pub returns-else-at : goal.returns-else-at
returns-else-at c = condition_other _ _ _ _ (sym c.is_marked.ensures ∙ c.if-is_marked.true)
    (λ same. c.if-at.false (c.at.ensures ∙ same))

pub returns-else-is_marked : goal.returns-else-is_marked
returns-else-is_marked c = condition_free _ _ _ _ (sym c.is_marked.ensures ∙ c.if-is_marked.false)
