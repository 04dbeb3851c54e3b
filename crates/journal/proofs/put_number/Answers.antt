-- `journal::put_number` meets its contract: two stores one after the other are the number's two bytes.
use Rattle.journal.proofs.Writing.{number_written}
use Rattle.journal.proofs.put_number.Goals as goal

pub returns : goal.returns
returns c = number_written _ _ _ c.requires
