-- What is kept of the whole is what is kept so far and what is kept of the rest, and the reader stands behind what is kept so far.
use Rattle.std.proofs.Common.{◌≡◌, ◌*◌}
use Rattle.journal.proofs.Keeping.{Going}
use Rattle.journal.proofs.keep.Given as goal

abbrev pub invariant-loop-kept : goal.invariant-loop-kept
invariant-loop-kept l = record {
  going : Going l.list.table.now l.list.n l.journal l.used l.initial.marks l.kept l.marks;
  row : l.reader.journal.now ≡ l.journal;
  at : l.reader.at ≡ l.kept * 9;
}
