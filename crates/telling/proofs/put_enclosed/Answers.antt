-- `telling::put_enclosed` meets its contract: the number is put behind the first text, and the second behind it.
use Rattle.writing.specs.Texts.{decimal_of}
use Rattle.telling.proofs.Putting.{some_then}
use Rattle.telling.proofs.put_enclosed.Goals as goal

pub returns : goal.returns
returns c = let a = c.args in some_then a.before.now (decimal_of a.n) a.behind.now c.put_number-end.ensures c.put_some.ensures c.requires
