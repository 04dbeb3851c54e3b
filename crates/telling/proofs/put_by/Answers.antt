-- `telling::put_by` meets its contract: one number is put behind the other, each in its words.
use mathlib.Core.List.{◌++◌}
use Rattle.infon.specs.Bytes.{bytes}
use Rattle.writing.specs.Texts.{decimal_of}
use Rattle.telling.proofs.Putting.{some_then}
use Rattle.telling.proofs.put_by.Goals as goal

pub returns : goal.returns
unfolding bytes
returns c = let a = c.args in some_then (bytes "from ") (decimal_of a.p) (bytes " by " ++ decimal_of a.q) c.put_number-end.ensures c.put_number.ensures c.requires
