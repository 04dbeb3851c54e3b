use mathlib.Core.Path.{◌≡◌}
use Rattle.links.specs.Chains.{none_first}
use Rattle.links.proofs.clear_firsts.Given as goal

abbrev pub invariant-loop-x : goal.invariant-loop-x
invariant-loop-x l = none_first l.at l.list.n l.initial.links ≡ none_first l.at l.x l.links
