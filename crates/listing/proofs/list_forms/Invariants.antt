use Rattle.listing.proofs.Search.{Turning}
use Rattle.listing.proofs.list_forms.Given as goal

abbrev pub invariant-loop-m : goal.invariant-loop-m
invariant-loop-m l =
    Turning l.p l.twin l.base l.initial.work.cand l.initial.work.keys l.initial.work.owners l.count l.work.cand l.work.keys l.work.owners l.n l.m
