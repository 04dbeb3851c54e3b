-- `writing::put_decimal` meets its contract: there is room for all of the number.
use native.Mathlib.Omega.{arith}
use Rattle.writing.proofs.Placing.{some_fits}
use Rattle.writing.proofs.Decimal.{length_decimal}
use Rattle.writing.proofs.put_decimal.Goals as goal

pub returns : goal.returns
returns c = let few = length_decimal c.args.n in some_fits (omega arith) c.put_some_decimal.ensures
