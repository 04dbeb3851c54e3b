-- `spelling::is_formula` meets its contract. The invariant: the text is a formula exactly if what stands from `at` on reads as so many
-- formulas as are needed.
use mathlib.Core.Path.{sym, ◌∙◌}
use Rattle.spelling.proofs.Counted.{formula_counted, too_early, taken_end, taken_on, taken_feed, node_taken, node_stuck}
use native.Mathlib.Omega.{arith}
use Rattle.spelling.proofs.is_formula.Goals as goal

pub loop-needed-init : goal.loop-needed-init
loop-needed-init c = (omega arith, (omega arith, formula_counted c.args.text.now))

pub returns-in_default : goal.returns-in_default
returns-in_default c =
    sym (node_stuck _ _ _ c.loop-needed.invariant.0 c.loop-needed-test.true c.loop-needed.invariant.1.1 _ c.node_at.ensures c.in_default.is)

pub returns-then-end-text : goal.returns-then-end-text
returns-then-end-text c =
    let t = node_taken _ _ _ c.loop-needed.invariant.0 c.loop-needed-test.true _ _ _ _ c.node_at.ensures c.in-Some.is c.own_end-end.ensures c.still_needed-needed.ensures in
    sym (c.loop-needed.invariant.1.1 ∙ taken_end _ _ _ _ _ t c.if-end-text.true)

pub bounds-text-end : goal.bounds-text-end
bounds-text-end c =
    let t = node_taken _ _ _ c.loop-needed.invariant.0 c.loop-needed-test.true _ _ _ _ c.node_at.ensures c.in-Some.is c.own_end-end.ensures c.still_needed-needed.ensures in
    omega arith

pub returns-then-text-end-ne32 : goal.returns-then-text-end-ne32
returns-then-text-end-ne32 c =
    let t = node_taken _ _ _ c.loop-needed.invariant.0 c.loop-needed-test.true _ _ _ _ c.node_at.ensures c.in-Some.is c.own_end-end.ensures c.still_needed-needed.ensures in
    sym (taken_feed _ _ _ _ _ t (omega arith) c.if-text-end-ne32.true)

pub loop-needed-smaller : goal.loop-needed-smaller
loop-needed-smaller c =
    let t = node_taken _ _ _ c.loop-needed.invariant.0 c.loop-needed-test.true _ _ _ _ c.node_at.ensures c.in-Some.is c.own_end-end.ensures c.still_needed-needed.ensures in
    omega arith

pub loop-needed-preserved : goal.loop-needed-preserved
loop-needed-preserved c =
    let t = node_taken _ _ _ c.loop-needed.invariant.0 c.loop-needed-test.true _ _ _ _ c.node_at.ensures c.in-Some.is c.own_end-end.ensures c.still_needed-needed.ensures in
    (omega arith, (omega arith, c.loop-needed.invariant.1.1 ∙ taken_on _ _ _ _ _ t (omega arith) c.if-text-end-ne32.false))

pub returns : goal.returns
returns c = sym (c.loop-needed.invariant.1.1 ∙ too_early _ _ (omega arith))
