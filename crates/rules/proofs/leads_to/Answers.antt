-- `rules::leads_to` meets its contract: each arm is one rule, and each branch of it a law of `Led`.
use mathlib.Core.Path.{refl, sym, ◌∙◌}
use native.Mathlib.Omega.{arith}
use Rattle.formulas.specs.Tests.{gives_in, premises_marked}
use Rattle.formulas.proofs.Given.{marked_below}
use Rattle.rules.proofs.Led.{led, unled, equal_read, second_below}
use Rattle.rules.proofs.leads_to.Goals as goal

pub weakens-requires : goal.weakens-requires
weakens-requires c = omega (arith, marked_below _ _ _ (sym c.is_marked.ensures ∙ c.if-is_marked.true))

pub has_part-requires : goal.has_part-requires
has_part-requires c = omega (arith, marked_below _ _ _ (sym c.is_marked-in-Left.ensures ∙ c.if-is_marked-2.true))

pub has_part-requires-then-is_marked-3 : goal.has_part-requires-then-is_marked-3
has_part-requires-then-is_marked-3 c = omega (arith, marked_below _ _ _ (sym c.is_marked-in-Right.ensures ∙ c.if-is_marked-3.true))

pub has_parts-requires-then-are_marked-2 : goal.has_parts-requires-then-are_marked-2
has_parts-requires-then-are_marked-2 c = omega (arith, second_below _ _ _ _ c.are_marked-in-Apply.ensures c.if-are_marked-2.true)

pub returns-in-Hypothesis : goal.returns-in-Hypothesis
unfolding premises_marked gives_in
returns-in-Hypothesis c = led _ _ _ _ c.in-Hypothesis.is refl (equal_read 1 c.at.ensures)

pub returns-in-Given : goal.returns-in-Given
unfolding premises_marked gives_in
returns-in-Given c = led _ _ _ _ c.in-Given.is refl (equal_read 0 c.at-in-Given.ensures)

pub returns-then-is_marked : goal.returns-then-is_marked
unfolding premises_marked gives_in
returns-then-is_marked c = led _ _ _ _ c.in-Weaken.is (sym c.is_marked.ensures ∙ c.if-is_marked.true)
    c.weakens.ensures

pub returns-else-is_marked : goal.returns-else-is_marked
unfolding premises_marked gives_in
returns-else-is_marked c = unled _ _ _ _ c.in-Weaken.is c.is_marked.ensures c.if-is_marked.false

pub returns-then-is_marked-2 : goal.returns-then-is_marked-2
unfolding premises_marked gives_in
returns-then-is_marked-2 c = led _ _ _ _ c.in-Left.is (sym c.is_marked-in-Left.ensures ∙ c.if-is_marked-2.true)
    c.has_part.ensures

pub returns-else-is_marked-2 : goal.returns-else-is_marked-2
unfolding premises_marked gives_in
returns-else-is_marked-2 c = unled _ _ _ _ c.in-Left.is c.is_marked-in-Left.ensures c.if-is_marked-2.false

pub returns-then-is_marked-3 : goal.returns-then-is_marked-3
unfolding premises_marked gives_in
returns-then-is_marked-3 c = led _ _ _ _ c.in-Right.is (sym c.is_marked-in-Right.ensures ∙ c.if-is_marked-3.true)
    c.has_part-then-is_marked-3.ensures

pub returns-else-is_marked-3 : goal.returns-else-is_marked-3
unfolding premises_marked gives_in
returns-else-is_marked-3 c = unled _ _ _ _ c.in-Right.is c.is_marked-in-Right.ensures c.if-is_marked-3.false

pub returns-then-are_marked : goal.returns-then-are_marked
unfolding premises_marked gives_in
returns-then-are_marked c = led _ _ _ _ c.in-Both.is (sym c.are_marked.ensures ∙ c.if-are_marked.true)
    c.has_parts.ensures

pub returns-else-are_marked : goal.returns-else-are_marked
unfolding premises_marked gives_in
returns-else-are_marked c = unled _ _ _ _ c.in-Both.is c.are_marked.ensures c.if-are_marked.false

pub returns-then-are_marked-2 : goal.returns-then-are_marked-2
unfolding premises_marked gives_in
returns-then-are_marked-2 c = led _ _ _ _ c.in-Apply.is (sym c.are_marked-in-Apply.ensures ∙ c.if-are_marked-2.true)
    c.has_parts-then-are_marked-2.ensures

pub returns-else-are_marked-2 : goal.returns-else-are_marked-2
unfolding premises_marked gives_in
returns-else-are_marked-2 c = unled _ _ _ _ c.in-Apply.is c.are_marked-in-Apply.ensures c.if-are_marked-2.false

pub returns-then-is_marked-4 : goal.returns-then-is_marked-4
unfolding premises_marked gives_in
returns-then-is_marked-4 c = led _ _ _ _ c.in-Attach.is (sym c.is_marked-in-Attach.ensures ∙ c.if-is_marked-4.true)
    c.has_part-then-is_marked-4.ensures

pub returns-else-is_marked-4 : goal.returns-else-is_marked-4
unfolding premises_marked gives_in
returns-else-is_marked-4 c = unled _ _ _ _ c.in-Attach.is c.is_marked-in-Attach.ensures c.if-is_marked-4.false
