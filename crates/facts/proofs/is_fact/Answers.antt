-- `facts::is_fact` meets its contract: the letter, the twins and the put places are compared, one after the other.
use native.Mathlib.Omega.{arith}
use mathlib.Core.Path.{sym, ◌∙◌}
use Rattle.prefix.proofs.Shown.{count_few, readable, prefix_sized, line_cell}
use Rattle.facts.proofs.Compared.{base_below, no_letter, no_twins, twins_puts}
use Rattle.facts.proofs.is_fact.Goals as goal

pub cell_at-line-requires : goal.cell_at-line-requires
cell_at-line-requires c = omega (arith, c.requires.below, count_few _ _ c.args.policy.held)

pub bounds-policy-line : goal.bounds-policy-line
bounds-policy-line c =
    let pre = c.requires in
    rw (c.cell_at-line.ensures, line_cell _ _ pre.told.held _ pre.below) pre.inside

pub returns-then-policy-line-ne72 : goal.returns-then-policy-line-ne72
returns-then-policy-line-ne72 c =
    let pre = c.requires in
    λ x told. no_letter _ _ _ _ _ pre x told _ c.cell_at-line.ensures c.if-policy-line-ne72.true

pub are_twins-requires : goal.are_twins-requires
are_twins-requires c =
    let pre = c.requires in
    rw c.base_of-i.ensures (base_below _ _ _ _ _ pre, pre.told.below)

pub returns-then-not-are_twins : goal.returns-then-not-are_twins
returns-then-not-are_twins c =
    let pre = c.requires in
    λ x told.
    no_twins _ _ _ _ _ pre x told _ c.cell_at-line.ensures c.if-policy-line-ne72.false
    (sym (rw c.base_of-i.ensures at c.are_twins.ensures) ∙ c.if-not-are_twins.true)

pub prefix_of-requires : goal.prefix_of-requires
prefix_of-requires c =
    let pre = c.requires in
    rw c.base_of-i.ensures (readable _ _ pre.told.held _ (base_below _ _ _ _ _ pre))

pub puts-requires : goal.puts-requires
puts-requires c =
    let pre = c.requires in
    rw (c.prefix_of.ensures, c.base_of-i.ensures) (prefix_sized _ _ pre.told.held _ (base_below _ _ _ _ _ pre))

pub returns : goal.returns
returns c =
    let pre = c.requires in
    λ x told.
    rw (c.puts.ensures, c.prefix_of.ensures, c.base_of-i.ensures)
    (twins_puts _ _ _ _ _ pre x told _ c.cell_at-line.ensures c.if-policy-line-ne72.false
    (sym (rw c.base_of-i.ensures at c.are_twins.ensures) ∙ c.if-not-are_twins.false))
