-- `writing::put_some_decimal` meets its contract: the fewest digits that hold the number are its decimal.
use native.Mathlib.Omega.{arith}
use Prim.Native.Nat.{◌≤◌}
use mathlib.Core.Path.{◌≡◌}
use lib.ListN.{take}
use Rattle.writing.specs.Texts.{decimal_of}
use Rattle.writing.proofs.Decimal.{few_digits, fewest_decimal}
use Rattle.writing.proofs.put_some_decimal.Goals as goal

pub returns : goal.returns
returns c =
    let few : c.decimal-k.result ≤ 20 = few_digits c.args.n c.decimal-k.result (omega arith) c.decimal-k.ensures.len in
    let spelled : take c.decimal-k.result c.decimal-k.new.out ≡ decimal_of c.args.n =
    fewest_decimal c.args.n c.decimal-k.result _ few c.decimal-k.ensures.len c.decimal-k.ensures.digits in
    rw spelled at c.put_some.ensures
