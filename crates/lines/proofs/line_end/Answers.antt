-- `lines::line_end` meets its contract: what stands before the first line feed is counted.
use Rattle.lines.proofs.Feeds.{line_ends}
use Rattle.lines.proofs.line_end.Goals as goal

pub returns : goal.returns
returns c = line_ends c.args.file.now c.args.start c.line_length.result c.requires c.line_length.ensures
