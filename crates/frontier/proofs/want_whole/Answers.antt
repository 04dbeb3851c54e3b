-- `frontier::want_whole` meets its contract: the three records, one after the other.
use Rattle.frontier.proofs.Wanting.{whole_wanted}
use Rattle.frontier.proofs.want_whole.Goals as goal

pub returns : goal.returns
returns c =
    whole_wanted _ _ _ _ _ c.at-left.ensures c.at-right.ensures c.want.ensures
    c.want-2.ensures c.want-3.ensures
