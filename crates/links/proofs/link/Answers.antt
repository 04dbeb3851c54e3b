-- `links::link` meets its contract: the chains of three columns, one after the other.
use Rattle.links.proofs.Filling.{all_linked}
use Rattle.links.proofs.link.Goals as goal

pub returns : goal.returns
returns c = all_linked _ _ _ c.fill.ensures c.fill-2.ensures c.fill-3.ensures
