-- `growth::grow` meets its contract. The invariant: what is added in all is what is added so far and what is added from here on,
-- and the set covers.
use native.Mathlib.Omega.{arith}
use borrow.Author.Rules.{rules}
use Rattle.growth.proofs.Covering.{covering_filled}
use Rattle.growth.proofs.Growing.{begin, addable, turn, none_added, limit_reached}
use Rattle.growth.proofs.grow.Goals as goal

pub loop-added-init : goal.loop-added-init
loop-added-init c = (begin c.requires, covering_filled _ _ _ c.args.search.list.few _ (search rules) c.begin.ensures)

pub add_next-requires : goal.add_next-requires
add_next-requires c =
    let inv = c.loop-added.invariant in
    addable inv.0 inv.1 c.loop-added-test.true (omega arith)

pub returns-in_default : goal.returns-in_default
returns-in_default c = none_added c.loop-added.invariant.0 c.add_next.ensures c.in_default.is

pub loop-added-preserved : goal.loop-added-preserved
loop-added-preserved c =
    let inv = c.loop-added.invariant in
    turn inv.0 c.add_next.ensures _ c.loop-added-test.true inv.1.long c.in-Some.is

pub returns : goal.returns
returns c =
    let end = c.loop-added.auto.added-end in
    limit_reached c.loop-added.invariant.0 (omega arith) c.next_record.ensures c.is_some-more.ensures
