-- `members::remove` meets its contract: the word with the bit of the member flipped is stored.
use Rattle.members.proofs.Membership.{taken_out}
use Rattle.members.proofs.remove.Goals as goal

pub returns : goal.returns
returns c = taken_out _ _
