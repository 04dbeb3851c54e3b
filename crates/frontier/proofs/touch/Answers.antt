-- `frontier::touch` meets its contract: what f may give by itself, and what it may give with the formulas of its three chains.
use Rattle.frontier.proofs.Wanting.{touching_wanted}
use Rattle.frontier.proofs.touch.Goals as goal

pub returns : goal.returns
returns c =
    touching_wanted _ _ _ _ _ c.want_parts.ensures c.want_whole.ensures c.meet_chain.ensures c.meet_chain-2.ensures
    c.meet_chain-3.ensures
