-- `ways::gives` meets its contract: the premise is recorded, and the rule of the chain gives f from it.
use mathlib.Core.Path.{sym, ◌∙◌}
use Rattle.formulas.specs.Tests.{gives_in, premises_marked, leads_to}
use Rattle.rules.proofs.Led.{first_passed}
use Rattle.ways.proofs.Leads.{unrecorded}
use Rattle.ways.proofs.gives.Goals as goal

pub returns-in-Left : goal.returns-in-Left
unfolding leads_to premises_marked gives_in
returns-in-Left c = rw c.in-Left.is (first_passed (sym c.is_marked.ensures ∙ c.if-is_marked.true) c.has_part.ensures)

pub returns-in-Right : goal.returns-in-Right
unfolding leads_to premises_marked gives_in
returns-in-Right c = rw c.in-Right.is (first_passed (sym c.is_marked.ensures ∙ c.if-is_marked.true) c.has_part-in-Right.ensures)

pub returns-in-Bottom : goal.returns-in-Bottom
unfolding leads_to premises_marked
returns-in-Bottom c = rw c.in-Bottom.is (first_passed (sym c.is_marked.ensures ∙ c.if-is_marked.true) c.weakens.ensures)

pub returns-else-is_marked : goal.returns-else-is_marked
returns-else-is_marked c = unrecorded _ _ _ _ c.args.chain _ c.is_marked.ensures c.if-is_marked.false
