-- `listing::list_node` meets its contract: a quotation asks for nothing, and the forms of a base are what it asks for.
use native.Mathlib.Omega.{arith}
use borrow.Author.Tests.{ltb-true, ltb-false}
use mathlib.Core.Path.{sym, ◌∙◌}
use Rattle.prefix.proofs.Shown.{count_few, readable}
use Rattle.twins.proofs.Texts.{counted}
use Rattle.listing.proofs.Nodewise.{kind_read, quotation_passed, base_of_lem, forms_ready, base_entered}
use Rattle.listing.proofs.list_node.Goals as goal

pub kind_at-requires : goal.kind_at-requires
kind_at-requires c = omega (arith, count_few _ _ c.args.policy.held)

pub returns-then-not-is_base : goal.returns-then-not-is_base
returns-then-not-is_base c =
    let held = c.args.policy.held in
    let below = counted c.args.policy.all c.requires.below in
    quotation_passed _ _ held _ below _ (kind_read _ _ held _ below c.kind_at.ensures) (ltb-false _ _ (sym c.is_base.ensures ∙ c.if-not-is_base.true)) c.requires.so_far

pub prefix_of-p-requires : goal.prefix_of-p-requires
prefix_of-p-requires c = readable _ _ c.args.policy.held c.args.i (counted c.args.policy.all c.requires.below)

pub list_forms-requires : goal.list_forms-requires
list_forms-requires c =
    let held = c.args.policy.held in
    let below = counted c.args.policy.all c.requires.below in
    forms_ready _ _ held _ below _ (kind_read _ _ held _ below c.kind_at.ensures) (ltb-true _ _ (sym c.is_base.ensures ∙ c.if-not-is_base.false)) _ _
    c.first_twin-twin.ensures c.prefix_of-p.ensures c.requires.few

pub returns : goal.returns
returns c =
    let held = c.args.policy.held in
    let below = counted c.args.policy.all c.requires.below in
    let read = kind_read _ _ held _ below c.kind_at.ensures in
    let base = ltb-true _ _ (sym c.is_base.ensures ∙ c.if-not-is_base.false) in
    base_entered _ _ held _ below _ read base _ _ c.first_twin-twin.ensures c.prefix_of-p.ensures
    (c.list_forms.ensures _ _ (base_of_lem _ _ held _ below _ read base _ _ c.first_twin-twin.ensures c.prefix_of-p.ensures) c.requires.so_far)
