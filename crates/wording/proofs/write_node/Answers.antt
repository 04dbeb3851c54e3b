-- `wording::write_node` meets its contract: what the node begins with is put, and its parts wait.
use Rattle.wording.proofs.Itemed.{parts_fit, node_written}
use Rattle.wording.proofs.write_node.Goals as goal

pub wait_parts-requires : goal.wait_parts-requires
wait_parts-requires c = (c.requires.0, parts_fit _ c.args.i c.requires.0 c.requires.1)

pub returns : goal.returns
returns c = node_written _ c.args.i c.requires.0 c.requires.1 c.put_own-behind.ensures c.wait_parts.ensures
