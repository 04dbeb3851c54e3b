-- `columns::form_number` meets its contract: what is left of the way down gives the same number at each step.
use native.Mathlib.Omega.{arith}
use borrow.Author.Tests.{ltb-true, ltb-false}
use mathlib.Core.Path.{sym, ◌∙◌}
use Rattle.columns.proofs.Steps.{form_row, form_few, form_kind, going_begins, further, going_row, going_on, going_over}
use Rattle.columns.proofs.form_number.Goals as goal

pub kind_at-kind-requires : goal.kind_at-kind-requires
kind_at-kind-requires c = form_row _ _ c.args.policy.held _ _ c.requires

pub loop-kind-init : goal.loop-kind-init
loop-kind-init c = going_begins _ _ _ _ _ _ c.requires (form_kind _ _ c.args.policy.held _ _ c.requires c.kind_at-kind.ensures)

pub inward-form-requires : goal.inward-form-requires
inward-form-requires c = omega (arith, form_few _ _ c.args.policy.held _ _ c.loop-kind.invariant.is_form)

pub kind_at-kind-requires-in-loop-kind : goal.kind_at-kind-requires-in-loop-kind
kind_at-kind-requires-in-loop-kind c =
    going_row _ _ c.args.policy.held _ _ _ _ _ _ c.loop-kind.invariant (ltb-false _ _ (sym c.is_base.ensures ∙ c.loop-kind-test.true))

pub loop-kind-smaller : goal.loop-kind-smaller
loop-kind-smaller c = omega (arith, form_row _ _ c.args.policy.held _ _ c.loop-kind.invariant.is_form)

pub loop-kind-preserved : goal.loop-kind-preserved
loop-kind-preserved c =
    let held = c.args.policy.held in
    let so = c.loop-kind.invariant in
    let more = ltb-false _ _ (sym c.is_base.ensures ∙ c.loop-kind-test.true) in
    going_on _ _ held _ _ _ _ _ _ so more _ _ c.inward-form.ensures
    (form_kind _ _ held _ _ (further _ _ held _ _ _ _ _ _ so more) c.kind_at-kind-in-loop-kind.ensures)

pub overflow_mul-result : goal.overflow_mul-result
overflow_mul-result c = omega (arith, form_row _ _ c.args.policy.held _ _ c.loop-kind.invariant.is_form)

pub overflow_add-result : goal.overflow_add-result
overflow_add-result c =
    omega (arith, form_row _ _ c.args.policy.held _ _ c.loop-kind.invariant.is_form, form_few _ _ c.args.policy.held _ _ c.loop-kind.invariant.is_form)

pub offset_bounds-cand-at : goal.offset_bounds-cand-at
offset_bounds-cand-at c =
    omega (arith, form_row _ _ c.args.policy.held _ _ c.loop-kind.invariant.is_form, form_few _ _ c.args.policy.held _ _ c.loop-kind.invariant.is_form)

pub bounds-cand-at : goal.bounds-cand-at
bounds-cand-at c =
    omega (arith, form_row _ _ c.args.policy.held _ _ c.loop-kind.invariant.is_form, form_few _ _ c.args.policy.held _ _ c.loop-kind.invariant.is_form)

pub returns : goal.returns
returns c =
    going_over _ _ c.args.policy.held _ _ _ _ _ _ c.loop-kind.invariant (ltb-true _ _ (sym c.is_base.ensures ∙ c.loop-kind-test.false))
