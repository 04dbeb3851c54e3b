-- `rules::is_good` meets its contract: a number that is not listed or is recorded is refused, and the way decides otherwise.
use mathlib.Core.Path.{sym, ◌∙◌}
use mathlib.Core.Bool.{true≢false}
use borrow.Author.Tests.{le-ltb}
use Rattle.rules.proofs.Led.{not_listed, recorded_before, good_led}
use Rattle.rules.proofs.is_good.Goals as goal
use Rattle.rules.proofs.is_good.Goals.{then-r-list, else-r-list}

pub returns-then-not-is_marked : goal.returns-then-not-is_marked
returns-then-not-is_marked c =
    elim c.if-r-list.branch [
      | then-r-list w ↦ good_led _ _ _ c.args.r w.if-r-list.true w.is_marked.ensures (sym w.value-is ∙ c.if-not-is_marked.true) c.leads_to.ensures
      | else-r-list w ↦ absurd (true≢false (sym c.if-not-is_marked.true ∙ (w.value-is ∙ le-ltb _ _ w.if-r-list.false)))
    ]

pub returns-else-not-is_marked : goal.returns-else-not-is_marked
returns-else-not-is_marked c =
    elim c.if-r-list.branch [
      | then-r-list w ↦ w.value-is ∙ recorded_before _ _ _ c.args.r w.if-r-list.true w.is_marked.ensures (sym w.value-is ∙ c.if-not-is_marked.false)
      | else-r-list w ↦ w.value-is ∙ not_listed _ _ _ c.args.r w.if-r-list.false
    ]
