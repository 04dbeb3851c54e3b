-- `telling::put_record` meets its contract: its six parts are put one behind the other.
use Rattle.infon.specs.Bytes.{bytes}
use Rattle.writing.proofs.Placing.{some_as}
use Rattle.telling.specs.Text.{record_words}
use Rattle.telling.proofs.Putting.{six_put}
use Rattle.telling.proofs.put_record.Goals as goal

pub returns : goal.returns
unfolding bytes record_words
returns c =
    λ x told.
    six_put c.requires.1 c.put_some_decimal-counted.ensures c.put_some-dotted.ensures
    (some_as (c.line_for-line.ensures x told _) c.put_reason-reasoned.ensures) c.put_some-parted.ensures (c.put_formula-told.ensures x told) c.put_some.ensures
