-- What a number on the list stands for is told by the tables.
-- Assumes nothing.
use Prim.Native.Nat.{ℕ, ◌<◌}
use mathlib.Core.Path.{◌≡◌, ◌∙◌}
use mathlib.Core.List.{List}
use lib.ListN.{length}
use Rattle.infon.specs.Policy.{entries_of}
use Rattle.infon.specs.Listing.{list_of}
use Rattle.infon.specs.Rules.{numbered}
use Rattle.nodes.specs.Nodes.{count_nodes, nodes_of, NodesHeld}
use Rattle.formulas.specs.Table.{cell}
use Rattle.formulas.specs.Tests.{puts_at, base_at}
use Rattle.listing.proofs.Bases.{number_tells}
use Rattle.prefix.specs.Told.{ToldBy}
use Rattle.facts.specs.Facts.{Askable}
use Rattle.telling.specs.Shelf.{Shelf}

module _ (file t : List ℕ) (held : NodesHeld file t) (table : List ℕ) (shelf : Shelf file table) (i : ℕ) (low : i < length (list_of (entries_of file))) where
  pub shelf_told : {node puts : ℕ} → node ≡ cell table base_at i → puts ≡ cell table puts_at i → ToldBy file t node puts (numbered (list_of (entries_of file)) i)
  unfolding nodes_of
  shelf_told base places =
      let tells = number_tells (entries_of file) shelf.before table shelf.filled i low in
      rw (base) (record {
        held = held;
        below = tells.0.below;
        core = tells.0.core;
        principals = tells.0.principals;
        puts_are = places ∙ tells.1;
      })

  pub shelf_asks : {count : ℕ} → count ≡ count_nodes (nodes_of file) → {node puts : ℕ} → node ≡ cell table base_at i → puts ≡ cell table puts_at i → Askable file t count node puts
  shelf_asks all base places = record { all = all; formula = numbered (list_of (entries_of file)) i; told = shelf_told base places }
