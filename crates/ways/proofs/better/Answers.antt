-- `ways::better` meets its contract: each branch is a law of `Pairs`.
use Rattle.ways.proofs.Pairs.{better_kept, better_taken, better_first}
use Rattle.ways.proofs.better.Goals as goal

pub returns-in-Some : goal.returns-in-Some
returns-in-Some c = better_kept c.args.p c.args.q c.in-Some.is c.if-first-p.true

pub returns-in_default : goal.returns-in_default
returns-in_default c = better_taken c.args.p c.args.q c.in-Some.is c.if-first-p.false

pub returns-in_default-2 : goal.returns-in_default-2
returns-in_default-2 c = better_first c.args.p c.args.q c.in_default.is
