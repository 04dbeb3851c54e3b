use mathlib.Core.Path.{◌≡◌}
use lib.ListN.{drop}
use Rattle.prefix.specs.Places.{used, weaker_count_of}
use Rattle.prefix.proofs.weaker_count.Given as goal

abbrev pub invariant-loop-k : goal.invariant-loop-k
invariant-loop-k l = l.n ≡ weaker_count_of (drop l.k (used l.p))
