-- `spelling::word` meets its contract: what stands before the first break is the token.
use Rattle.spelling.proofs.Breaks.{part_read}
use Rattle.spelling.proofs.word.Goals as goal

pub returns : goal.returns
returns c = part_read c.args.text.now c.args.at c.requires c.word_length.result c.word_length.ensures
