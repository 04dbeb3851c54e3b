-- `links::clear_firsts` meets its contract. The loop's invariant: what is left to be cleared makes the whole.
use mathlib.Core.Path.{sym, ◌∙◌}
use Rattle.links.proofs.Filling.{none_turn, none_over}
use Rattle.links.proofs.clear_firsts.Goals as goal

pub loop-x-preserved : goal.loop-x-preserved
loop-x-preserved c = c.loop-x.invariant ∙ none_turn _ _ _ c.loop-x-test.true

pub returns : goal.returns
returns c = rw (← c.start-at.ensures) (sym (c.loop-x.invariant ∙ none_over _ _ _ c.loop-x-test.false))
