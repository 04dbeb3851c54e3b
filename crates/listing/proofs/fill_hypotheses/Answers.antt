-- `listing::fill_hypotheses` meets its contract: what is marked so far is what the lines so far say.
use native.Mathlib.Omega.{arith}
use mathlib.Core.Path.{◌∙◌}
use Rattle.twins.proofs.Texts.{counted}
use Rattle.listing.proofs.Marks.{line_is_form, line_row, line_inside, line_further, marks_begin, mark_room, mark_number, mark_fits, marks_on, marks_over}
use Rattle.listing.proofs.fill_hypotheses.Goals as goal

pub loop-r-init : goal.loop-r-init
loop-r-init c = marks_begin _ _ c.requires.clear

pub form_number-requires : goal.form_number-requires
form_number-requires c =
    line_is_form _ _ c.args.policy.held _ c.requires.ready _ _ c.loop-r.invariant.ahead (counted c.args.policy.all c.loop-r-test.true)

pub cell_at-line-requires : goal.cell_at-line-requires
cell_at-line-requires c =
    line_row _ _ c.args.policy.held _ c.requires.ready _ _ c.loop-r.invariant.ahead (counted c.args.policy.all c.loop-r-test.true)

pub bounds-policy-line : goal.bounds-policy-line
bounds-policy-line c =
    rw c.cell_at-line.ensures
    (line_inside _ _ c.args.policy.held _ c.requires.ready _ _ c.loop-r.invariant.ahead (counted c.args.policy.all c.loop-r-test.true))

pub cell_at-old-requires : goal.cell_at-old-requires
cell_at-old-requires c =
    let h = counted c.args.policy.all c.loop-r-test.true in (
      mark_room _ _ c.args.policy.held _ _ _ _ c.requires.ready c.requires.clear.long c.loop-r.invariant h,
      omega (arith, c.from-number.ensures, c.form_number.ensures, mark_number _ _ c.args.policy.held _ _ _ _ c.requires.ready c.requires.clear.long c.loop-r.invariant h),
    )

pub set_cell-requires-clause-inside : goal.set_cell-requires-clause-inside
set_cell-requires-clause-inside c =
    let h = counted c.args.policy.all c.loop-r-test.true in (
      mark_room _ _ c.args.policy.held _ _ _ _ c.requires.ready c.requires.clear.long c.loop-r.invariant h,
      omega (arith, c.from-number.ensures, c.form_number.ensures, mark_number _ _ c.args.policy.held _ _ _ _ c.requires.ready c.requires.clear.long c.loop-r.invariant h),
    )

pub set_cell-requires-clause-fits : goal.set_cell-requires-clause-fits
set_cell-requires-clause-fits c =
    let h = counted c.args.policy.all c.loop-r-test.true in
    mark_fits _ _ c.args.policy.held _ _ _ _ c.requires.ready c.requires.clear.long c.loop-r.invariant h _ _ _ _
    (c.from-number.ensures ∙ c.form_number.ensures) c.cell_at-old.ensures c.mark.ensures

pub cell_at-r-requires : goal.cell_at-r-requires
cell_at-r-requires c =
    line_row _ _ c.args.policy.held _ c.requires.ready _ _ c.loop-r.invariant.ahead (counted c.args.policy.all c.loop-r-test.true)

pub loop-r-smaller : goal.loop-r-smaller
loop-r-smaller c =
    omega (arith, c.cell_at-r.ensures, c.loop-r-test.true, line_further _ _ c.args.policy.held _ c.requires.ready _ _ c.loop-r.invariant.ahead (counted c.args.policy.all c.loop-r-test.true))

pub loop-r-preserved : goal.loop-r-preserved
loop-r-preserved c =
    let h = counted c.args.policy.all c.loop-r-test.true in
    marks_on _ _ c.args.policy.held _ _ _ _ c.requires.ready c.requires.clear.long c.loop-r.invariant h _ _ _ _ _ _
    (c.from-number.ensures ∙ c.form_number.ensures) c.cell_at-line.ensures c.cell_at-old.ensures c.mark.ensures c.set_cell.ensures c.cell_at-r.ensures

pub returns : goal.returns
returns c = marks_over _ _ _ c.loop-r.r c.loop-r.invariant (omega (arith, c.args.policy.all, c.loop-r-test.false))
