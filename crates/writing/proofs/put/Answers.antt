-- `writing::put` meets its contract: the text is copied over its part of the buffer.
use native.Mathlib.Omega.{arith}
use Rattle.writing.proofs.Placing.{copied_written}
use Rattle.writing.proofs.put.Goals as goal

pub returns : goal.returns
returns c = record { ends = omega arith; holds = copied_written c.args.out.now c.args.text.now _ c.args.at c.copy_from_slice.ensures.after }
