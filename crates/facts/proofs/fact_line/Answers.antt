-- `facts::fact_line` meets its contract: each line is looked at, and the sought one is found or is still ahead.
use native.Mathlib.Omega.{arith}
use Rattle.prefix.proofs.Shown.{count_few}
use Rattle.facts.proofs.Sought.{sought_begin, node_below, line_asked, sought_here, sought_on, further, sought_over}
use Rattle.facts.proofs.fact_line.Goals as goal

pub loop-r-init : goal.loop-r-init
loop-r-init c = sought_begin _ _ _ _

pub is_fact-requires : goal.is_fact-requires
is_fact-requires c = line_asked _ _ _ _ _ _ _ c.requires c.loop-r.invariant c.loop-r-test.true

pub returns-then-is_fact : goal.returns-then-is_fact
returns-then-is_fact c =
    sought_here _ _ _ _ _ _ _ c.requires c.loop-r.invariant c.loop-r-test.true _
    c.is_fact.ensures c.if-is_fact.true

pub cell_at-r-requires : goal.cell_at-r-requires
cell_at-r-requires c =
    omega (arith, node_below _ _ _ _ _ _ _ c.requires c.loop-r.invariant c.loop-r-test.true, count_few _ _ c.requires.told.held)

pub overflow_add-line : goal.overflow_add-line
overflow_add-line c =
    omega (arith, c.loop-r.invariant.few, node_below _ _ _ _ _ _ _ c.requires c.loop-r.invariant c.loop-r-test.true, count_few _ _ c.requires.told.held)

pub loop-r-smaller : goal.loop-r-smaller
loop-r-smaller c =
    let more = c.loop-r-test.true in
    let on = further _ _ _ _ _ _ _ c.requires c.loop-r.invariant more c.cell_at-r.ensures in
    omega arith

pub loop-r-preserved : goal.loop-r-preserved
loop-r-preserved c =
    sought_on _ _ _ _ _ _ _ c.requires c.loop-r.invariant
    c.loop-r-test.true _ c.is_fact.ensures c.if-is_fact.false c.cell_at-r.ensures

pub returns : goal.returns
returns c = sought_over _ _ _ _ _ _ _ c.requires c.loop-r.invariant c.loop-r-test.false
