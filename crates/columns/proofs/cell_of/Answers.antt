-- `columns::cell_of` meets its contract: each arm is one column.
use mathlib.Core.Path.{◌∙◌}
use Rattle.columns.specs.Columns.{column_of, nothing}
use Rattle.columns.proofs.cell_of.Goals as goal

pub returns-in-Kind : goal.returns-in-Kind
unfolding column_of
returns-in-Kind c = c.kind_of.ensures ∙ rw c.in-Kind.is

pub returns-in-Puts : goal.returns-in-Puts
unfolding column_of
returns-in-Puts c = c.puts_of.ensures ∙ rw c.in-Puts.is

pub returns-in-Left : goal.returns-in-Left
unfolding column_of
returns-in-Left c = c.left_of.ensures ∙ rw c.in-Left.is

pub returns-in-Right : goal.returns-in-Right
unfolding column_of
returns-in-Right c = c.right_of.ensures ∙ rw c.in-Right.is

pub returns-in-Bottom : goal.returns-in-Bottom
unfolding column_of
returns-in-Bottom c = c.bottom_of.ensures ∙ rw c.in-Bottom.is

pub returns-in-Hypothesis : goal.returns-in-Hypothesis
unfolding column_of nothing
returns-in-Hypothesis c = rw c.in-Hypothesis.is

pub returns-in-Base : goal.returns-in-Base
unfolding column_of
returns-in-Base c = c.base_of.ensures ∙ rw c.in-Base.is
