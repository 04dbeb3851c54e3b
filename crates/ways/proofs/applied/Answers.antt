-- `ways::applied` meets its contract. The loop's invariant: the best pair of premises among those passed along the chain of f.
use mathlib.Core.Path.{◌∙◌}
use borrow.Author.Rules.{rules}
use Rattle.ways.proofs.Leads.{less_left}
use Rattle.ways.proofs.Pairs.{walking_begins, walking_turns, walking_passes, walking_inside, walked_all}
use Rattle.ways.proofs.applied.Goals as goal
use Rattle.ways.proofs.applied.Goals.{in-Some-condition, in_default-condition}

pub loop-at-init : goal.loop-at-init
loop-at-init c = walking_begins _ _ _ _ _ c.first-at.ensures

pub loop-at-smaller : goal.loop-at-smaller
loop-at-smaller c =
    less_left _ _ _ _ _ _ _ c.in-Some.is (walking_inside _ _ _ _ _ _ c.loop-at.invariant c.in-Some.is).0 c.next-at.ensures

pub loop-at-preserved : goal.loop-at-preserved
loop-at-preserved c =
    elim c.match-condition.branch [
      | in-Some-condition w ↦ walking_turns _ _ _ _ _ _ _ _ _ _ c.loop-at.invariant c.in-Some.is w.in-Some-condition.ensures (w.best-is ∙ w.better-best.ensures) c.next-at.ensures
      | in_default-condition w ↦ walking_passes _ _ _ _ _ _ _ _ _ c.loop-at.invariant c.in-Some.is w.in_default-condition.ensures w.best-is c.next-at.ensures
    ]

pub returns : goal.returns
returns c = walked_all _ _ _ _ _ _ _ c.loop-at.invariant c.in_default.is c.map.ensures.cases (λ p q post. search rules)
