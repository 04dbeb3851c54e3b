-- `wording::put_quotation` meets its contract: the principal is put, and behind it the word for its kind.
use Rattle.infon.specs.Bytes.{bytes}
use Rattle.writing.proofs.Placing.{some_on}
use Rattle.wording.specs.Words.{said_word}
use Rattle.wording.proofs.put_quotation.Goals as goal

pub returns-then-spoken : goal.returns-then-spoken
unfolding said_word bytes
returns-then-spoken c = rw (c.if-spoken.true, ← c.principal_of-principal.ensures) (some_on c.put_some-behind.ensures c.put_some.ensures c.requires.1)

pub returns-else-spoken : goal.returns-else-spoken
unfolding said_word bytes
returns-else-spoken c = rw (c.if-spoken.false, ← c.principal_of-principal.ensures) (some_on c.put_some-behind.ensures c.put_some-else-spoken.ensures c.requires.1)
