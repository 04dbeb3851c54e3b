-- `prefix::weaker` meets its contract: the places lowered so far and those still ahead are together the weaker row.
use native.Mathlib.Omega.{arith}
use Prim.Native.Nat.{◌≤◌}
use lib.ListN.{length}
use Rattle.prefix.specs.Places.{weaker_at, blank}
use Rattle.prefix.proofs.Loops.{lower_turn, lower_over, same_places_lem}
use Rattle.prefix.proofs.weaker.Goals as goal

pub loop-k-preserved : goal.loop-k-preserved
loop-k-preserved c =
    let fits : c.args.p.count ≤ length c.args.p.places = omega (arith, c.requires.few, c.requires.full) in
    rw (c.lower.ensures, c.bits_left-left.ensures)
    (lower_turn _ _ _ _ _ _ fits c.loop-k.invariant blank c.loop-k-test.true)

pub returns : goal.returns
unfolding weaker_at
returns c =
    let fits : c.args.p.count ≤ length c.args.p.places = omega (arith, c.requires.few, c.requires.full) in
    same_places_lem _ (lower_over _ _ _ _ _ _ fits c.loop-k.invariant c.loop-k-test.false)
