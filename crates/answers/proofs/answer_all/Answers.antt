-- `answers::answer_all` meets its contract: each turn puts one answer more behind those in front.
use Rattle.std.proofs.Common.{◌∙◌, ap}
use Rattle.answers.specs.Answered.{answer_at, answered_bytes}
use Rattle.answers.proofs.Filling.{begin, turn, over}
use Rattle.answers.proofs.answer_all.Goals as goal

pub loop-i-init : goal.loop-i-init
loop-i-init c = begin (answer_at c.args.marks.now c.args.finished) c.args.queries.now _

pub loop-i-preserved : goal.loop-i-preserved
loop-i-preserved c =
    turn (answer_at c.args.marks.now c.args.finished) _ _ _ c.requires.room c.loop-i-test.true c.loop-i.invariant
    (c.answer_at.ensures ∙ ap (answer_at c.args.marks.now c.args.finished) c.from.ensures)

pub returns : goal.returns
unfolding answered_bytes
returns c = over (answer_at c.args.marks.now c.args.finished) _ _ _ c.loop-i-test.false c.loop-i.invariant
