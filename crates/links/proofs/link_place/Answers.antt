-- `links::link_place` meets its contract: each branch is a law of `Filling`.
use Rattle.links.proofs.Filling.{place_linked, place_left}
use Rattle.links.proofs.link_place.Goals as goal

pub returns-then-x-list : goal.returns-then-x-list
returns-then-x-list c = rw (← c.start-at.ensures, ← c.column.ensures) (place_linked _ _ _ _ _ _ c.at-x.ensures c.if-x-list.true)

pub returns-else-x-list : goal.returns-else-x-list
returns-else-x-list c = rw (← c.column.ensures) (place_left _ _ _ _ _ _ c.at-x.ensures c.if-x-list.false)
