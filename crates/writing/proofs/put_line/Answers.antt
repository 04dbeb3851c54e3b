-- `writing::put_line` meets its contract: its five parts are put one behind the other.
use Rattle.writing.proofs.Lines.{put_whole_line}
use Rattle.writing.proofs.put_line.Goals as goal

pub returns : goal.returns
returns c =
    put_whole_line c.args.count c.args.answer c.args.behind.now c.requires c.put_decimal-after_count.ensures c.put-after_space.ensures
    c.put_word-after_word.ensures c.put-after_behind.ensures c.put.ensures
