use mathlib.Core.Path.{◌≡◌}
use lib.ListN.{take, drop}
use Rattle.twins.specs.Twins.{same_places}
use Rattle.twins.proofs.same_principals.Given as goal

abbrev pub invariant-loop-k : goal.invariant-loop-k
invariant-loop-k l =
    same_places l.held.file.now l.held.nodes.now (drop l.k (take l.p.count l.p.places)) (drop l.k (take l.p.count l.q.places))
    ≡ same_places l.held.file.now l.held.nodes.now (take l.p.count l.p.places) (take l.p.count l.q.places)
