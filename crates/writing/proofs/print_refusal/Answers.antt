-- `writing::print_refusal` meets its contract: its five parts are put one behind the other.
use Rattle.infon.specs.Bytes.{bytes}
use Rattle.writing.proofs.Lines.{put_refusal}
use Rattle.writing.proofs.print_refusal.Goals as goal

pub returns : goal.returns
unfolding bytes
returns c =
    put_refusal c.args.code c.args.place c.requires c.put-after_word.ensures c.put_decimal-after_code.ensures c.put-after_space.ensures
    c.put_decimal-after_place.ensures c.put.ensures
