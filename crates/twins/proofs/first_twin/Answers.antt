-- `twins::first_twin` meets its contract: the search goes through the nodes before i in their order.
use Rattle.twins.specs.Twins.{twin_of}
use Rattle.twins.proofs.Walks.{twin_searched}
use Rattle.twins.proofs.first_twin.Goals as goal

pub returns : goal.returns
unfolding twin_of
returns c = twin_searched _ c.args.i c.unwrap_or.ensures c.earlier_twin.ensures
