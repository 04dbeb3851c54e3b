-- `frontier::want_parts` meets its contract: the two records by rules 4 and 5, one after the other.
use Rattle.frontier.proofs.Wanting.{parts_wanted}
use Rattle.frontier.proofs.want_parts.Goals as goal

pub returns : goal.returns
returns c =
    parts_wanted _ _ _ _ _ c.at-left.ensures c.at-right.ensures c.want.ensures
    c.want-2.ensures
