-- `policy::deep` meets its contract. The invariant: code 4 of the file that the table holds is that of the nodes from `i` on.
use Rattle.policy.proofs.Finish.{deep_begin, deep_turn, deep_stop, deep_over}
use native.Mathlib.Omega.{arith}
use Rattle.policy.proofs.deep.Goals as goal

pub loop-i-init : goal.loop-i-init
loop-i-init c = deep_begin _ _

pub returns-then-cell_at-gt-MOST_DEPTH : goal.returns-then-cell_at-gt-MOST_DEPTH
returns-then-cell_at-gt-MOST_DEPTH c =
    deep_stop _ _ _ c.loop-i.invariant c.loop-i-test.true (omega (arith, c.cell_at.ensures)) _ c.cell_at-then-cell_at-gt-MOST_DEPTH.ensures

pub loop-i-preserved : goal.loop-i-preserved
loop-i-preserved c = deep_turn _ _ _ c.loop-i.invariant c.loop-i-test.true (omega (arith, c.cell_at.ensures))

pub returns : goal.returns
returns c = deep_over _ _ _ c.loop-i.invariant c.loop-i-test.false
