-- `writing::put_number` meets its contract: the text is put, and behind it the number.
use Rattle.writing.proofs.Placing.{some_on}
use Rattle.writing.proofs.put_number.Goals as goal

pub returns : goal.returns
returns c = some_on c.put_some-behind.ensures c.put_some_decimal.ensures c.requires
