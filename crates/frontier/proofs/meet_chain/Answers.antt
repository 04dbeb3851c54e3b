-- `frontier::meet_chain` meets its contract. The loop's invariant: what is wanted in all is what is wanted so far and what is wanted from here on.
use native.Mathlib.Omega.{arith}
use Rattle.links.proofs.Linked.{shared_below}
use Rattle.ways.proofs.Leads.{less_left}
use Rattle.frontier.proofs.Chained.{meeting_begins, meeting_turn, meeting_over}
use Rattle.frontier.proofs.meet_chain.Goals as goal

pub loop-at-init : goal.loop-at-init
loop-at-init c = meeting_begins _ _ _ _ _ _ _ _ c.first-at.ensures

pub meet-requires : goal.meet-requires
meet-requires c = ((c.loop-at.invariant.here _ c.in-Some.is).0, c.requires.1)

pub next-at-requires : goal.next-at-requires
next-at-requires c =
    let here = c.loop-at.invariant.here _ c.in-Some.is in
    let below = shared_below c.args.chain c.args.search.ready c.requires.0 in
    (here.0, omega arith)

pub loop-at-smaller : goal.loop-at-smaller
loop-at-smaller c = less_left _ _ _ _ _ _ _ c.in-Some.is (c.loop-at.invariant.here _ c.in-Some.is).0 c.next-at.ensures

pub loop-at-preserved : goal.loop-at-preserved
loop-at-preserved c = meeting_turn _ _ _ _ _ _ _ _ _ _ _ c.loop-at.invariant c.in-Some.is c.next-at.ensures c.meet.ensures

pub returns : goal.returns
returns c = meeting_over _ _ _ _ _ _ _ _ _ c.loop-at.invariant c.in_default.is
