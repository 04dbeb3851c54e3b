-- `columns::left_of` meets its contract: a base with parts has them behind it, under the same form.
use mathlib.Core.Path.{sym, ◌∙◌}
use Rattle.columns.proofs.Steps.{owner_read, owner_row, left_form, left_none, left_some}
use Rattle.columns.proofs.left_of.Goals as goal

pub kind_at-requires : goal.kind_at-requires
kind_at-requires c = owner_row (owner_read c.args.forms c.requires c.from-owner.ensures)

pub returns-then-is_leaf : goal.returns-then-is_leaf
returns-then-is_leaf c =
    left_none (owner_read c.args.forms c.requires c.from-owner.ensures) _ c.kind_at.ensures
    (sym c.is_leaf.ensures ∙ c.if-is_leaf.true)

pub form_number-requires : goal.form_number-requires
form_number-requires c =
    left_form (owner_read c.args.forms c.requires c.from-owner.ensures) c.args.forms.cand.now c.kind_at.ensures
    (sym c.is_leaf.ensures ∙ c.if-is_leaf.false)

pub returns : goal.returns
returns c =
    left_some (owner_read c.args.forms c.requires c.from-owner.ensures) _ c.kind_at.ensures
    (sym c.is_leaf.ensures ∙ c.if-is_leaf.false) c.form_number.ensures
