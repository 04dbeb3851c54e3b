-- `listing::list_forms` meets its contract: each form is found or put behind the others, in the order of the weaker prefixes.
use native.Mathlib.Omega.{arith}
use Prim.Native.Nat.{◌<◌}
use mathlib.Core.Path.{◌≡◌, refl, sym, ◌∙◌, ap}
use lib.ListN.{take, length}
use lib.Seq.{length-take-le}
use Rattle.prefix.specs.declared.Prefix.{Prefix}
use Rattle.prefix.specs.Places.{used, puts_of, weaker_at, weaker_count_of}
use Rattle.prefix.proofs.Shown.{weaker_sized}
use Rattle.listing.proofs.Search.{place_found, turning_begins, listed_few, turning_on, forms_over, puts_below}
use Rattle.listing.proofs.list_forms.Goals as goal
use Rattle.listing.proofs.list_forms.Goals.{After-puts-puts, After-unwrap_or-at}

puts_are : (c : After-puts-puts) → c.puts-puts.result ≡ puts_of (used (weaker_at c.args.p c.loop-m.m))
puts_are c = c.puts-puts.ensures ∙ ap (λ (q : Prefix). puts_of (used q)) c.weaker.ensures

pub loop-m-init : goal.loop-m-init
loop-m-init c = turning_begins _ _ _ _ _ _ _

pub puts-puts-requires : goal.puts-puts-requires
puts-puts-requires c = rw c.weaker.ensures (weaker_sized c.args.p c.requires.sized _)

pub overflow_add-key : goal.overflow_add-key
overflow_add-key c = omega (arith, c.requires.twin_few, puts_below c.args.p c.requires.sized _ _ (puts_are c))

pub overflow_cast-key : goal.overflow_cast-key
overflow_cast-key c = omega (arith, c.requires.twin_few, puts_below c.args.p c.requires.sized _ _ (puts_are c))

pub loop-m-preserved : goal.loop-m-preserved
loop-m-preserved c =
    let h : c.loop-m.m < weaker_count_of (used c.args.p) = rw (← c.weaker_count-m-end.ensures) c.loop-m-test.true in
    let few = listed_few c.requires c.loop-m.invariant h in
    let len : c.loop-m.n ≡ length (take c.loop-m.n c.loop-m.work.keys) =
    sym (length-take-le c.loop-m.n c.loop-m.work.keys (omega (arith, few, c.loop-m.work.keys_long))) in
    turning_on c.requires c.loop-m.invariant h _ _ _ _ c.loop-m.work.cand_long c.loop-m.work.keys_long c.loop-m.work.owners_long
    (puts_are (goal.at.loop-m-preserved c).After-puts-puts) refl (place_found _ _ _ len c.unwrap_or-at.ensures c.find.ensures) c.longer-n.ensures

pub returns : goal.returns
returns c =
    forms_over _ _ _ _ _ _ _ c.loop-m.m _ _ _ c.loop-m.n c.loop-m.invariant.forms (omega (arith, c.weaker_count-m-end.ensures, c.loop-m-test.false))
    (omega (arith, c.weaker_count-m-end.ensures, c.loop-m.auto.m-end))
