-- `wording::needs_brackets` meets its contract: a formula's kind says whether it is a rule and whether it has parts.
use mathlib.Core.Path.{refl, sym, ◌∙◌}
use Rattle.wording.specs.Waiting.{needs_brackets}
use Rattle.wording.proofs.Named.{rule_kind, rule_parts, and_parts}
use Rattle.wording.proofs.needs_brackets.Goals as goal

pub returns-in-Never : goal.returns-in-Never
unfolding needs_brackets
returns-in-Never c = λ x e. rw c.in-Never.is refl

pub returns-in-AroundRules : goal.returns-in-AroundRules
unfolding needs_brackets
returns-in-AroundRules c = λ x e. rw (c.in-AroundRules.is, c.eq.ensures, e) (rule_kind x)

pub returns-then-eq : goal.returns-then-eq
unfolding needs_brackets
returns-then-eq c = λ x e.
    let here = c.eq-in-AroundParts.ensures in
    let is_and = rw e at here in
    rw (c.in-AroundParts.is, c.if-eq.true) (and_parts x (sym is_and ∙ c.if-eq.true))

pub returns-else-eq : goal.returns-else-eq
unfolding needs_brackets
returns-else-eq c = λ x e.
    let here = c.eq-in-AroundParts.ensures in
    let is_and = rw e at here in
    rw (c.in-AroundParts.is, c.eq-else-eq.ensures, e) (rule_parts x (sym is_and ∙ c.if-eq.false))
