-- `members::least` meets its contract. The loop's invariant: the words before the place have no member.
use borrow.Author.Rules.{rules}
use Rattle.members.proofs.Membership.{search_goes_on, search_finds}
use Rattle.members.proofs.least.Goals as goal

pub returns-then-word-ne0 : goal.returns-then-word-ne0
returns-then-word-ne0 c = search_finds _ _ c.loop-at.invariant c.loop-at-test.true c.if-word-ne0.true (search rules)

pub loop-at-preserved : goal.loop-at-preserved
loop-at-preserved c = search_goes_on _ _ c.loop-at.invariant c.if-word-ne0.false
