-- `prefix::weaker_count` meets its contract: from the outermost place inwards, each place branches what lies outside it.
use native.Mathlib.Omega.{arith}
use mathlib.Core.Path.{sym, ◌∙◌, ap}
use Rattle.prefix.specs.Places.{branches, blank}
use Rattle.prefix.proofs.Loops.{weaker_count_begin, weaker_count_turn, weaker_count_few}
use Rattle.prefix.proofs.weaker_count.Goals as goal

pub loop-k-init : goal.loop-k-init
loop-k-init c = weaker_count_begin c.args.p.places c.args.p.count

pub branched-n-requires : goal.branched-n-requires
branched-n-requires c =
    omega (arith, c.loop-k.invariant, weaker_count_few c.args.p.places c.args.p.count c.loop-k.k c.requires.few)

pub loop-k-preserved : goal.loop-k-preserved
loop-k-preserved c =
    let p = c.args.p in
    c.branched-n.ensures ∙ ap (branches _) c.loop-k.invariant
    ∙ sym (weaker_count_turn p.places p.count c.loop-k.k blank (omega (arith, c.requires.few, c.requires.full)) c.loop-k.auto.k c.loop-k-test.true)
