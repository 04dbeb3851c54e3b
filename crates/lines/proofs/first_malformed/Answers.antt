-- `lines::first_malformed` meets its contract. The invariant: code 2 of the file is that of the lines from `start` on.
use mathlib.Core.Path.{sym, ◌∙◌}
use Rattle.lines.proofs.Feeds.{line_ended, code2_begin, code2_over, code2_stop, code2_turn}
use native.Mathlib.Omega.{arith}
use Rattle.lines.proofs.first_malformed.Goals as goal

pub loop-start-init : goal.loop-start-init
loop-start-init c = (omega arith, code2_begin c.args.file.now)

pub returns-then-not-is_well_formed : goal.returns-then-not-is_well_formed
returns-then-not-is_well_formed c =
    sym (c.loop-start.invariant.1 ∙ code2_stop c.args.file.now c.loop-start.start (omega arith) (sym c.is_well_formed.ensures ∙ c.if-not-is_well_formed.true))

pub overflow_add-start : goal.overflow_add-start
overflow_add-start c = omega (arith, line_ended c.args.file.now c.loop-start.start c.line_end-end.result (omega arith) c.line_end-end.ensures (sym c.is_well_formed.ensures ∙ c.if-not-is_well_formed.false))

pub loop-start-preserved : goal.loop-start-preserved
loop-start-preserved c =
    let ended = line_ended c.args.file.now c.loop-start.start c.line_end-end.result (omega arith) c.line_end-end.ensures (sym c.is_well_formed.ensures ∙ c.if-not-is_well_formed.false) in
    (omega arith, c.loop-start.invariant.1 ∙ code2_turn c.args.file.now c.loop-start.start (omega arith) c.line_end-end.result c.line_end-end.ensures ended (sym c.is_well_formed.ensures ∙ c.if-not-is_well_formed.false))

pub returns : goal.returns
returns c = sym (c.loop-start.invariant.1 ∙ code2_over c.args.file.now c.loop-start.start (omega arith))
