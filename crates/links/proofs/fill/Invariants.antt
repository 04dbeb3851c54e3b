use mathlib.Core.Path.{◌≡◌}
use Rattle.links.specs.Chains.{chain_column, chain_start, link_down}
use Rattle.links.proofs.fill.Given as goal

abbrev pub invariant-loop-i : goal.invariant-loop-i
invariant-loop-i l =
    link_down l.list.table.now (chain_column l.chain) l.list.n (chain_start l.chain) l.list.n l.initial.links
    ≡ link_down l.list.table.now (chain_column l.chain) l.list.n (chain_start l.chain) l.i l.links
