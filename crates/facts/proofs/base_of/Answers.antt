-- `facts::base_of` meets its contract: each quotation has the same base as the node behind it.
use native.Mathlib.Omega.{arith}
use Rattle.prefix.proofs.Shown.{count_few}
use Rattle.facts.proofs.Bases.{inwards_on, inwards_over}
use Rattle.facts.proofs.base_of.Goals as goal

pub kind_at-requires : goal.kind_at-requires
kind_at-requires c = omega (arith, c.loop-i.invariant.below, count_few _ _ c.args.policy.held)

pub loop-i-smaller : goal.loop-i-smaller
loop-i-smaller c = omega (arith, c.loop-i.invariant.below, count_few _ _ c.args.policy.held)

pub loop-i-preserved : goal.loop-i-preserved
loop-i-preserved c =
    inwards_on _ _ c.args.policy.held _ _ c.loop-i.invariant c.kind_at.ensures c.is_base.ensures c.loop-i-test.true

pub returns : goal.returns
returns c = inwards_over _ _ c.args.policy.held _ _ c.loop-i.invariant c.kind_at.ensures c.is_base.ensures c.loop-i-test.false
