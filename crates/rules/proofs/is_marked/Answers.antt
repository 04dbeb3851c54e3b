-- `rules::is_marked` meets its contract: each branch is a law of `Led`.
use Rattle.rules.proofs.Led.{marked_in, marked_out}
use Rattle.rules.proofs.is_marked.Goals as goal

pub returns-then-i-list : goal.returns-then-i-list
returns-then-i-list c = marked_in _ _ _ c.if-i-list.true

pub returns-else-i-list : goal.returns-else-i-list
returns-else-i-list c = marked_out _ _ _ c.if-i-list.false
