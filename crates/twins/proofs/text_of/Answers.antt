-- `twins::text_of` meets its contract: the last node's row is in the table, and its end is the formula's.
use native.Mathlib.Omega.{arith}
use borrow.Author.Rules.{rules}
use mathlib.Core.Path.{◌≡◌}
use Prim.Native.Nat.{◌≤◌, ◌+◌}
use lib.ListN.{length}
use Rattle.infon.specs.Formula.{spelling}
use Rattle.nodes.specs.Nodes.{node_at, nodes_of}
use Rattle.prefix.proofs.Shown.{count_few}
use Rattle.twins.proofs.Texts.{end_positive, last_row, ends_at, text_inside, text_part}
use Rattle.twins.proofs.text_of.Goals as goal
use Rattle.twins.proofs.text_of.Goals.{After-cell_at-2}

-- the last node's end is the formula's
end_of : (c : After-cell_at-2) → c.cell_at.result + c.cell_at-2.result ≡ c.cell_at-start.result + length (spelling (node_at (nodes_of c.args.held.file.now) c.args.i).what)
end_of c =
    ends_at _ _ c.args.held.held c.args.i c.requires c.cell_at-last.ensures c.cell_at-start.ensures c.cell_at.ensures
    c.cell_at-2.ensures

end_inside : (c : After-cell_at-2) → c.cell_at.result + c.cell_at-2.result ≤ length c.args.held.file.now
end_inside c =
    omega (arith, end_of c, c.cell_at-start.ensures, text_inside _ _ c.args.held.held c.args.i c.requires)

pub cell_at-last-requires : goal.cell_at-last-requires
cell_at-last-requires c = omega (arith, count_few _ _ c.args.held.held)

pub overflow_sub-last : goal.overflow_sub-last
overflow_sub-last c =
    omega (arith, c.cell_at-last.ensures, end_positive _ _ c.args.held.held c.args.i c.requires)

pub cell_at-start-requires : goal.cell_at-start-requires
cell_at-start-requires c = omega (arith, count_few _ _ c.args.held.held)

pub cell_at-requires : goal.cell_at-requires
cell_at-requires c =
    omega (arith, c.cell_at-last.ensures, last_row _ _ c.args.held.held c.args.i c.requires)

pub cell_at-requires-2 : goal.cell_at-requires-2
cell_at-requires-2 c =
    omega (arith, c.cell_at-last.ensures, last_row _ _ c.args.held.held c.args.i c.requires)

pub overflow_add-end : goal.overflow_add-end
overflow_add-end c = let h = end_inside c in search rules

pub slice_bounds-result-count : goal.slice_bounds-result-count
slice_bounds-result-count c = omega (arith, end_of (goal.at.slice_bounds-result-count c).After-cell_at-2)

pub slice_bounds-result-start : goal.slice_bounds-result-start
slice_bounds-result-start c = omega (arith, end_of (goal.at.slice_bounds-result-start c).After-cell_at-2)

pub slice_bounds-result-end : goal.slice_bounds-result-end
slice_bounds-result-end c = end_inside (goal.at.slice_bounds-result-end c).After-cell_at-2

pub returns : goal.returns
returns c = text_part _ _ c.args.held.held c.args.i c.requires _ _ c.cell_at-start.ensures (end_of (goal.at.returns c).After-cell_at-2)
