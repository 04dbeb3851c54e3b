-- `rules::weakens` meets its contract: the bottoms are compared, and the put places.
use mathlib.Core.Path.{sym, ◌∙◌}
use borrow.Author.Tests.{eq-eqb, ne_eqb}
use Rattle.formulas.specs.Tests.{gives_in}
use Rattle.rules.proofs.Led.{first_passed, first_failed, equal_reads, contained}
use Rattle.rules.proofs.weakens.Goals as goal

pub returns-then-at : goal.returns-then-at
unfolding gives_in
returns-then-at c = first_passed (eq-eqb _ _ (sym c.at.ensures ∙ (c.if-at.true ∙ c.at-2.ensures)))
    (contained c.at-from.ensures c.at-to.ensures)

pub returns-else-at : goal.returns-else-at
unfolding gives_in
returns-else-at c = first_failed _ (equal_reads c.at.ensures c.at-2.ensures) (ne_eqb _ _ c.if-at.false)
