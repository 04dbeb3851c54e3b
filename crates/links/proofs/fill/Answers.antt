-- `links::fill` meets its contract. The loop's invariant: what is left to be linked makes the whole.
use mathlib.Core.Path.{sym, ◌∙◌}
use Rattle.links.proofs.Filling.{down_turn, down_over, chain_begins}
use Rattle.links.proofs.fill.Goals as goal

pub loop-i-preserved : goal.loop-i-preserved
loop-i-preserved c = c.loop-i.invariant ∙ down_turn _ _ _ _ _ _ c.loop-i-test.true c.link_place.ensures

pub returns : goal.returns
returns c =
    sym
    (chain_begins _ _ _ _ _ c.clear_firsts.ensures
    ∙ (c.loop-i.invariant ∙ down_over _ _ _ _ _ _ c.loop-i-test.false))
