-- `rules::are_marked` meets its contract: the second test decides where the first passes.
use mathlib.Core.Path.{sym, ◌∙◌}
use Rattle.rules.proofs.Led.{first_passed, first_failed}
use Rattle.rules.proofs.are_marked.Goals as goal

pub returns-then-is_marked : goal.returns-then-is_marked
returns-then-is_marked c = first_passed (sym c.is_marked.ensures ∙ c.if-is_marked.true) c.is_marked-then-is_marked.ensures

pub returns-else-is_marked : goal.returns-else-is_marked
returns-else-is_marked c = first_failed _ c.is_marked.ensures c.if-is_marked.false
