-- A formula by the node of its base and by its put places.
use Rattle.std.specs.Prelude.{ℕ, ◌<◌, ◌≡◌, List, []}
use Rattle.infon.specs.Formula.{Formula}
use Rattle.infon.specs.Rules.{prefix_under, core_of}
use Rattle.nodes.specs.Nodes.{node_at, count_nodes, nodes_of, NodesHeld}
use Rattle.formulas.specs.Table.{put_mask, all_put}

-- The node has the formula behind a prefix of the same principals, and the number has a bit for each put place.
pub record ToldBy (file t : List ℕ) (b puts : ℕ) (x : Formula) : Type 0 where
  pub held : NodesHeld file t
  pub below : b < count_nodes (nodes_of file)
  pub core : core_of x ≡ (node_at (nodes_of file) b).what
  pub principals : all_put (prefix_under [] x) ≡ all_put (node_at (nodes_of file) b).pre
  pub puts_are : puts ≡ put_mask (prefix_under [] x)
