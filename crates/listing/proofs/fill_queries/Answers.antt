-- `listing::fill_queries` meets its contract: the numbers written so far are those of the queries so far.
use native.Mathlib.Omega.{arith}
use Rattle.twins.proofs.Texts.{counted}
use Rattle.listing.proofs.Marks.{line_is_form, line_row, line_inside, line_further, asked_begin, ask_room, asked_on, asked_over}
use Rattle.listing.proofs.fill_queries.Goals as goal

pub loop-r-init : goal.loop-r-init
loop-r-init c = asked_begin _ _

pub form_number-number-requires : goal.form_number-number-requires
form_number-number-requires c =
    line_is_form _ _ c.args.policy.held _ c.requires.ready _ _ c.loop-r.invariant.ahead (counted c.args.policy.all c.loop-r-test.true)

pub cell_at-line-requires : goal.cell_at-line-requires
cell_at-line-requires c =
    line_row _ _ c.args.policy.held _ c.requires.ready _ _ c.loop-r.invariant.ahead (counted c.args.policy.all c.loop-r-test.true)

pub bounds-policy-line : goal.bounds-policy-line
bounds-policy-line c =
    rw c.cell_at-line.ensures
    (line_inside _ _ c.args.policy.held _ c.requires.ready _ _ c.loop-r.invariant.ahead (counted c.args.policy.all c.loop-r-test.true))

pub ask-q-requires : goal.ask-q-requires
ask-q-requires c =
    ask_room _ _ c.args.policy.held _ _ _ _ _ c.requires.ready c.requires.room c.loop-r.invariant (counted c.args.policy.all c.loop-r-test.true)

pub cell_at-r-requires : goal.cell_at-r-requires
cell_at-r-requires c =
    line_row _ _ c.args.policy.held _ c.requires.ready _ _ c.loop-r.invariant.ahead (counted c.args.policy.all c.loop-r-test.true)

pub loop-r-smaller : goal.loop-r-smaller
loop-r-smaller c =
    omega (arith, c.cell_at-r.ensures, c.loop-r-test.true, line_further _ _ c.args.policy.held _ c.requires.ready _ _ c.loop-r.invariant.ahead (counted c.args.policy.all c.loop-r-test.true))

pub loop-r-preserved : goal.loop-r-preserved
loop-r-preserved c =
    asked_on _ _ c.args.policy.held _ _ _ _ _ c.requires.ready c.requires.room c.loop-r.invariant (counted c.args.policy.all c.loop-r-test.true) _ _ _ _ _
    c.form_number-number.ensures c.cell_at-line.ensures c.ask-q.ensures.count c.ask-q.ensures.numbers c.cell_at-r.ensures

pub returns : goal.returns
returns c = asked_over _ _ _ c.loop-r.q c.loop-r.r c.loop-r.invariant (omega (arith, c.args.policy.all, c.loop-r-test.false))
