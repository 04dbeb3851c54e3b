-- `settling::show` meets its contract: by the text's length.
use Rattle.settling.proofs.Settling.{shown_nothing, shown}
use Rattle.settling.proofs.show.Goals as goal

pub returns-then-text-lt-TEXT_BYTES : goal.returns-then-text-lt-TEXT_BYTES
returns-then-text-lt-TEXT_BYTES c =
    let a = c.args in
    shown_nothing a.asked a.file.now a.code a.place a.answers.now a.text.now c.if-text-lt-TEXT_BYTES.true

pub returns : goal.returns
returns c =
    let a = c.args in
    shown a.asked a.file.now a.code a.place a.answers.now a.text.now c.if-text-lt-TEXT_BYTES.false _ _ c.print_run.ensures
