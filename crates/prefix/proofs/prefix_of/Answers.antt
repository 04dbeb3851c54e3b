-- `prefix::prefix_of` meets its contract: the places read so far and those still ahead are together the whole row.
use native.Mathlib.Omega.{arith}
use mathlib.Core.Path.{◌∙◌, ap}
use denote.Enum.Bare.{sameb}
use Rattle.nodes.specs.contracts.Kind.{the_type}
use Rattle.nodes.specs.declared.Kind.{Kind}
use Rattle.nodes.specs.declared.Kind.TheVariants.{Said}
use Rattle.prefix.proofs.Loops.{climb_begins, said_kind, climb_turn, climb_over, same_prefix}
use Rattle.prefix.proofs.prefix_of.Goals as goal

pub loop-k-init : goal.loop-k-init
loop-k-init c = climb_begins _ _ c.requires c.cell_at-count.ensures c.cell_at-above.ensures

pub loop-k-preserved : goal.loop-k-preserved
loop-k-preserved c =
    climb_turn _ _ _ _ _ _ c.loop-k.invariant c.loop-k-test.true (omega (arith, c.requires.few, c.cell_at-count.ensures))
    (c.eq-said.ensures ∙ ap (λ (k : Kind). sameb the_type k Said) c.kind_at.ensures ∙ said_kind _) c.cell_at-above-in-loop-k.ensures

pub returns : goal.returns
returns c = same_prefix _ _ _ (climb_over _ _ _ _ _ _ c.loop-k.invariant c.loop-k-test.false) c.cell_at-count.ensures
