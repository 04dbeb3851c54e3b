-- `frontier::want` meets its contract: the formula is put in where the record is good.
use mathlib.Core.Path.{sym, ◌∙◌}
use Rattle.formulas.proofs.Given.{good_below}
use Rattle.frontier.proofs.Wanting.{is_wanted_lem, bad_wanted}
use native.Mathlib.Omega.{arith}
use Rattle.frontier.proofs.want.Goals as goal

pub insert-requires : goal.insert-requires
insert-requires c =
    let low = good_below _ _ _ _ (sym c.is_good.ensures ∙ c.if-is_good.true) in
    omega arith

pub returns-then-is_good : goal.returns-then-is_good
returns-then-is_good c =
    is_wanted_lem _ _ _ _ _ c.is_good.ensures c.if-is_good.true c.insert.ensures

pub returns-else-is_good : goal.returns-else-is_good
returns-else-is_good c = bad_wanted _ _ _ _ _ c.is_good.ensures c.if-is_good.false
