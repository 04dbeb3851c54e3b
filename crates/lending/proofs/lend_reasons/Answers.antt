-- `lending::lend_reasons` meets its contract: the reasons are counted, and lent where they fit.
use Rattle.reasons.proofs.Choosing.{chooses_few}
use Rattle.lending.proofs.Resting.{rests_inside, lend_room, unfit, fit}
use native.Mathlib.Omega.{arith}
use Rattle.lending.proofs.lend_reasons.Goals as goal

pub choose-records-requires : goal.choose-records-requires
choose-records-requires c = rests_inside c.requires.rests

pub overflow_mul-records : goal.overflow_mul-records
overflow_mul-records c =
    let few = chooses_few c.choose-records.ensures in
    let inside = rests_inside c.requires.rests in
    omega arith

pub returns-then-out-records : goal.returns-then-out-records
returns-then-out-records c =
    λ hyps fs x used rests.
    unfit rests c.want.ensures c.choose-records.ensures _ c.if-out-records.true c.refused.ensures

pub lend-requires : goal.lend-requires
lend-requires c =
    let rests = c.requires.rests in
    (rests_inside rests, lend_room rests c.want.ensures c.choose-records.ensures c.args.out.now c.if-out-records.false)

pub returns : goal.returns
returns c =
    λ hyps fs x used rests.
    fit rests c.want.ensures c.choose-records.ensures _ c.if-out-records.false c.lend.ensures
