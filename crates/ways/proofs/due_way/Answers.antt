-- `ways::due_way` meets its contract: what is marked is not due, and the least way is due otherwise.
use mathlib.Core.Path.{sym, ◌∙◌}
use Rattle.ways.proofs.Rulewise.{due_marked, due_open}
use Rattle.ways.proofs.due_way.Goals as goal

pub returns-then-is_marked : goal.returns-then-is_marked
returns-then-is_marked c = due_marked _ _ _ _ (sym c.is_marked.ensures ∙ c.if-is_marked.true)

pub returns-else-is_marked : goal.returns-else-is_marked
returns-else-is_marked c = due_open _ _ _ _ c.requires.0 (sym c.is_marked.ensures ∙ c.if-is_marked.false)
    c.least_way.ensures
