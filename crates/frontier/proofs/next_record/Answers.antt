-- `frontier::next_record` meets its contract. The loop's invariant: the set covers, and its least member is at hand.
use native.Mathlib.Omega.{arith}
use Rattle.frontier.proofs.Covered.{passing_found, passing_further, passing_turn, passing_past, passing_over}
use Rattle.frontier.proofs.next_record.Goals as goal

pub returns-then-search-f : goal.returns-then-search-f
returns-then-search-f c = passing_past _ _ _ c.loop-at.invariant c.in-Some.is c.if-search-f.true

pub returns-in-Some-due_way : goal.returns-in-Some-due_way
returns-in-Some-due_way c =
    passing_found _ _ _ c.loop-at.invariant c.in-Some.is c.if-search-f.false c.args.search.list.few (omega arith) c.remove.ensures
    c.due_way.ensures c.in-Some-due_way.is

pub loop-at-smaller : goal.loop-at-smaller
loop-at-smaller c =
    passing_further _ _ _ c.loop-at.invariant c.in-Some.is c.if-search-f.false c.args.search.list.few (omega arith) c.remove.ensures
    c.due_way.ensures c.in_default-due_way.is _ c.least-at-in-Some.ensures

pub loop-at-preserved : goal.loop-at-preserved
loop-at-preserved c =
    passing_turn _ _ _ c.loop-at.invariant c.in-Some.is c.if-search-f.false c.args.search.list.few (omega arith) c.remove.ensures
    c.due_way.ensures c.in_default-due_way.is c.least-at-in-Some.ensures

pub returns : goal.returns
returns c = passing_over _ _ _ c.loop-at.invariant c.in_default.is c.args.search.list.few
