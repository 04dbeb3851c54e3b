-- `members::insert` meets its contract: the word with the bit of the number set is stored.
use Rattle.members.proofs.Membership.{put_in}
use Rattle.members.proofs.insert.Goals as goal

pub returns : goal.returns
returns c = put_in _ _
