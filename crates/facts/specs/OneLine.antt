-- One line: the base of its formula, and whether it says a formula as a fact, both by the number of the node that its formula begins with.
use Rattle.std.specs.Prelude.{ℕ, suc, ◌+◌, ◌<◌, ◌≡◌, Bool, ◌&&◌, List, [], length, get_or, eqb}
use Prim.Native.Char.{code}
use Rattle.infon.specs.Formula.{Formula, True, name, and, implies, quoted, same}
use Rattle.nodes.specs.Nodes.{Node, node_at, count_nodes, nodes_of}
use Rattle.prefix.specs.Told.{ToldBy}

-- how many quotations a formula begins with; the base behind those that node r begins with
unfoldable pub quotations : Formula → ℕ
quotations True = 0
quotations (name a) = 0
quotations (and x y) = 0
quotations (implies x y) = 0
quotations (quoted q x) = suc (quotations x)

unfoldable pub base_of : List Node → ℕ → ℕ
base_of row r = r + quotations (node_at row r).what

-- the letter of the line is `H`, and the formula that begins at node r is the same
unfoldable pub fact_at : List ℕ → ℕ → Formula → Bool
fact_at file r x = eqb (get_or file (node_at (nodes_of file) r).line 0) (code "H") && same x (node_at (nodes_of file) r).what

-- What is asked: some formula is told by node b and the put places, and node r stands under no quotation.
pub record LineAsked (file t : List ℕ) (r b puts : ℕ) : Type 0 where
  pub formula : Formula
  pub told : ToldBy file t b puts formula
  pub below : r < count_nodes (nodes_of file)
  pub outermost : (node_at (nodes_of file) r).pre ≡ []
  pub inside : (node_at (nodes_of file) r).line < length file
