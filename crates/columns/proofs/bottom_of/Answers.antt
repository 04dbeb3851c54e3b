-- `columns::bottom_of` meets its contract: the last form of a node is inside its stride.
use native.Mathlib.Omega.{arith}
use Prim.Native.Nat.{ℕ, ◌+◌, ◌*◌, ◌-◌, ◌/◌, ◌≤◌}
use mathlib.Core.Path.{◌≡◌, ◌∙◌, ap}
use lib.ListN.{get_or}
use Rattle.prefix.specs.declared.Prefix.{Prefix}
use Rattle.prefix.specs.Places.{used, prefix_at, weaker_count_of}
use Rattle.columns.specs.Columns.{stride, bottom_column}
use Rattle.columns.proofs.Steps.{owner_read, owner_row, owner_form, form_readable, form_sized, form_weaker_some, form_weaker_few}
use Rattle.columns.proofs.bottom_of.Goals as goal
use Rattle.columns.proofs.bottom_of.Goals.{After-weaker_count-last}

pub prefix_of-requires : goal.prefix_of-requires
prefix_of-requires c =
    form_readable _ _ c.args.forms.policy.held _ _
    (owner_form (owner_read c.args.forms c.requires c.from-b.ensures))

pub weaker_count-last-requires : goal.weaker_count-last-requires
weaker_count-last-requires c =
    rw c.prefix_of.ensures
    (form_sized _ _ c.args.forms.policy.held _ _
    (owner_form (owner_read c.args.forms c.requires c.from-b.ensures)))

-- the count is that of the node's own prefix
counted : (c : After-weaker_count-last) → c.weaker_count-last.result ≡ weaker_count_of (used (prefix_at c.args.forms.policy.nodes.now (c.from-b.result / stride)))
counted c = c.weaker_count-last.ensures ∙ ap (λ (p : Prefix). weaker_count_of (used p)) c.prefix_of.ensures

some_few : (c : After-weaker_count-last) → (1 ≤ c.weaker_count-last.result) × (c.weaker_count-last.result ≤ stride)
some_few c =
    let form = owner_form (owner_read c.args.forms c.requires c.from-b.ensures) in
    rw (counted c) (form_weaker_some _ _ c.args.forms.policy.held _ _ form, form_weaker_few _ _ c.args.forms.policy.held _ _ form)

pub overflow_sub-last : goal.overflow_sub-last
overflow_sub-last c = (some_few c).0

pub overflow_add-result : goal.overflow_add-result
overflow_add-result c =
    omega (arith, some_few c, owner_row (owner_read c.args.forms c.requires c.from-b.ensures))

pub offset_bounds-forms-b : goal.offset_bounds-forms-b
offset_bounds-forms-b c =
    omega (arith, some_few c, owner_row (owner_read c.args.forms c.requires c.from-b.ensures))

pub bounds-forms-b : goal.bounds-forms-b
bounds-forms-b c =
    omega (arith, some_few c, owner_row (owner_read c.args.forms c.requires c.from-b.ensures))

pub returns : goal.returns
unfolding bottom_column
returns c =
    ap (λ (n : ℕ). get_or c.args.forms.cand.now (c.from-b.result / stride * stride + (n - 1)) 0) (counted (goal.at.returns c).After-weaker_count-last)
    ∙ ap (λ (owner : ℕ). get_or c.args.forms.cand.now (owner / stride * stride + (weaker_count_of (used (prefix_at c.args.forms.policy.nodes.now (owner / stride))) - 1)) 0) c.from-b.ensures
