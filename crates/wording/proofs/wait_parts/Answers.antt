-- `wording::wait_parts` meets its contract: by the node's kind.
use native.Mathlib.Omega.{arith}
use Rattle.prefix.proofs.Shown.{count_few}
use Rattle.wording.proofs.Parted.{leaf_waits, quoted_waits, and_waits, rule_waits, quoted_one, and_three, rule_three, first_below, second_small}
use Rattle.wording.proofs.wait_parts.Goals as goal

pub kind_at-requires : goal.kind_at-requires
kind_at-requires c = omega (arith, count_few _ _ c.args.held.held)

pub overflow_add-first : goal.overflow_add-first
overflow_add-first c = omega (arith, c.requires.0, count_few _ _ c.args.held.held)

pub overflow_cast-first : goal.overflow_cast-first
overflow_cast-first c = omega (arith, c.requires.0, count_few _ _ c.args.held.held)

pub overflow_cast-second : goal.overflow_cast-second
overflow_cast-second c =
    let p = c.args.held in
    let place = rw c.from.ensures at c.cell_at-second.ensures in
    let there = first_below _ _ p.held c.args.i c.requires.0 c.in-And.ensures (omega arith) (omega arith) in
    omega (arith, second_small _ _ p.held c.args.i c.requires.0 there place)

pub overflow_cast-second-in-Implies : goal.overflow_cast-second-in-Implies
overflow_cast-second-in-Implies c =
    let p = c.args.held in
    let place = rw c.from-in-Implies.ensures at c.cell_at-second-in-Implies.ensures in
    let there = first_below _ _ p.held c.args.i c.requires.0 c.in-Implies.ensures (omega arith) (omega arith) in
    omega (arith, second_small _ _ p.held c.args.i c.requires.0 there place)

pub cell_at-second-requires : goal.cell_at-second-requires
cell_at-second-requires c =
    let p = c.args.held in
    omega (arith, count_few _ _ p.held, first_below _ _ p.held c.args.i c.requires.0 c.in-And.ensures (omega arith) (omega arith))

pub cell_at-second-requires-in-Implies : goal.cell_at-second-requires-in-Implies
cell_at-second-requires-in-Implies c =
    let p = c.args.held in
    omega (arith, count_few _ _ p.held, first_below _ _ p.held c.args.i c.requires.0 c.in-Implies.ensures (omega arith) (omega arith))

pub returns-in-True : goal.returns-in-True
returns-in-True c = let p = c.args.held in leaf_waits _ _ p.held c.args.i c.requires.0 c.kind_at.ensures c.in-True.is _

pub returns-in-And : goal.returns-in-And
returns-in-And c =
    let place = rw c.from.ensures at c.cell_at-second.ensures in
    and_waits _ _ c.args.held.held c.args.i c.requires.0 c.in-And.ensures place c.wait_two.ensures

pub returns-in-Implies : goal.returns-in-Implies
returns-in-Implies c =
    let place = rw c.from-in-Implies.ensures at c.cell_at-second-in-Implies.ensures in
    rule_waits _ _ c.args.held.held c.args.i c.requires.0 c.in-Implies.ensures place c.wait_two-in-Implies.ensures

pub returns-in-Said : goal.returns-in-Said
returns-in-Said c = let p = c.args.held in quoted_waits _ _ p.held c.args.i c.requires.0 c.kind_at.ensures c.in-Said.is c.push.ensures

pub wait_two-requires : goal.wait_two-requires
wait_two-requires c =
    let p = c.args.held in omega (arith, c.requires.1, and_three _ _ p.held c.args.i c.requires.0 c.in-And.ensures)

pub wait_two-requires-in-Implies : goal.wait_two-requires-in-Implies
wait_two-requires-in-Implies c =
    let p = c.args.held in omega (arith, c.requires.1, rule_three _ _ p.held c.args.i c.requires.0 c.in-Implies.ensures)

pub push-requires : goal.push-requires
push-requires c =
    let p = c.args.held in omega (arith, c.requires.1, quoted_one _ _ p.held c.args.i c.requires.0 c.kind_at.ensures c.in-Said.is)
