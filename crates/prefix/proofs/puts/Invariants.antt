use Prim.Native.Nat.{◌^◌}
use mathlib.Core.Path.{◌≡◌}
use lib.ListN.{drop, length}
use Rattle.prefix.specs.Places.{used, puts_of}
use Rattle.prefix.proofs.puts.Given as goal

abbrev pub invariant-loop-k : goal.invariant-loop-k
invariant-loop-k l = record {
  so_far : l.sum ≡ puts_of (drop l.k (used l.p));
  weight_is : l.weight ≡ 2 ^ length (drop l.k (used l.p));
}
