-- `frontier::meet` meets its contract: the record or records that the chain asks for.
use Rattle.frontier.proofs.Wanting.{bottom_met, whole_met}
use Rattle.frontier.proofs.meet.Goals as goal

pub returns-in-Left : goal.returns-in-Left
returns-in-Left c = whole_met _ _ _ _ c.args.chain c.args.f c.args.g c.in-Left.is c.want_whole.ensures

pub returns-in-Bottom : goal.returns-in-Bottom
returns-in-Bottom c = rw c.in-Bottom.is (bottom_met _ _ _ _ c.args.f c.args.g c.want.ensures)
