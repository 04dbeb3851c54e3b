-- `desk::answer` meets its contract: the text is that of a call settled from an empty journal.
use Rattle.desk.proofs.Answering.{settled_desk}
use Rattle.desk.proofs.answer.Goals as goal

pub returns : goal.returns
returns c = settled_desk c.args.file.now c.args.text.now c.requires _ _ c.settle-settled.ensures.prints
