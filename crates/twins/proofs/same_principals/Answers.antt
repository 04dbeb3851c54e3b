-- `twins::same_principals` meets its contract: as long as the principals agree, the prefixes do exactly if what is left of them does.
use native.Mathlib.Omega.{arith}
use mathlib.Core.Path.{sym, ◌∙◌}
use Rattle.prefix.specs.Places.{blank}
use Rattle.twins.specs.Twins.{Quoting}
use Rattle.twins.proofs.Walks.{places_turn, places_differ, places_over, each_place}
use Rattle.twins.proofs.same_principals.Goals as goal

pub same_principal-requires : goal.same_principal-requires
same_principal-requires c = (
  each_place (Quoting _ _) c.args.p.places c.args.p.count c.loop-k.k blank (omega (arith, c.requires.sized.0.few, c.requires.sized.0.full)) c.loop-k-test.true c.requires.mine,
  each_place (Quoting _ _) c.args.q.places c.args.p.count c.loop-k.k blank (omega (arith, c.requires.sized.0.few, c.requires.sized.1.full)) c.loop-k-test.true
      (rw c.requires.alike_long c.requires.others),
)

pub returns-then-not-same_principal : goal.returns-then-not-same_principal
returns-then-not-same_principal c =
    let few = c.requires.sized.0.few in
    sym (rw (← c.requires.alike_long) (sym c.loop-k.invariant
    ∙ places_differ _ _ c.args.p.places c.args.q.places c.args.p.count c.loop-k.k blank (omega (arith, few, c.requires.sized.0.full))
    (omega (arith, few, c.requires.sized.1.full)) c.loop-k-test.true (sym c.same_principal.ensures ∙ c.if-not-same_principal.true)))

pub loop-k-preserved : goal.loop-k-preserved
loop-k-preserved c =
    let few = c.requires.sized.0.few in
    sym (places_turn _ _ c.args.p.places c.args.q.places c.args.p.count c.loop-k.k blank (omega (arith, few, c.requires.sized.0.full))
    (omega (arith, few, c.requires.sized.1.full)) c.loop-k-test.true (sym c.same_principal.ensures ∙ c.if-not-same_principal.false))
    ∙ c.loop-k.invariant

pub returns : goal.returns
returns c =
    let few = c.requires.sized.0.few in
    sym (rw (← c.requires.alike_long) (sym c.loop-k.invariant
    ∙ places_over _ _ c.args.p.places c.args.q.places c.args.p.count c.loop-k.k blank (omega (arith, few, c.requires.sized.0.full))
    (omega (arith, few, c.requires.sized.1.full)) c.loop-k-test.false))
