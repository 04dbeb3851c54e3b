use Prim.Native.Nat.{◌-◌}
use lib.ListN.{length}
use Rattle.printing.proofs.Going.{Going}
use Rattle.printing.proofs.print_answers.Given as goal

abbrev pub invariant-loop-start : goal.invariant-loop-start
invariant-loop-start l = Going l.file l.asked l.answers l.initial.out l.out l.so_far.at l.so_far.count l.start

abbrev pub decreases-loop-start : goal.decreases-loop-start
decreases-loop-start l = length l.file - l.start
