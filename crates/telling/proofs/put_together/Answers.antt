-- `telling::put_together` meets its contract: one number is put behind the other, each in its words.
use mathlib.Core.List.{◌++◌}
use Rattle.infon.specs.Bytes.{bytes}
use Rattle.writing.specs.Texts.{decimal_of}
use Rattle.telling.proofs.Putting.{some_then}
use Rattle.telling.proofs.put_together.Goals as goal

pub returns : goal.returns
unfolding bytes
returns c = let a = c.args in some_then (bytes "from ") (decimal_of a.p) (bytes " and " ++ (decimal_of a.q ++ bytes " together")) c.put_number-end.ensures c.put_enclosed.ensures c.requires
