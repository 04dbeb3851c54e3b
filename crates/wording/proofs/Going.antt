-- One item after the other is written, until none waits.
-- Assumes nothing.
use Prim.Native.Nat.{ℕ, ◌≤◌, ◌<◌}
use native.Mathlib.Omega.{arith}
use mathlib.Core.Path.{◌≡◌, sym, ◌∙◌, ap, subst}
use mathlib.Core.List.{List, [], ◌∷◌, ◌++◌, append_assoc, append-nil}
use lib.ListN.{length}
use Rattle.nodes.specs.Nodes.{count_nodes, nodes_of, NodesHeld}
use Rattle.nodes.proofs.Order.{node_within}
use Rattle.prefix.proofs.Shown.{count_few}
use Rattle.writing.specs.Placed.{PutSome}
use Rattle.writing.proofs.Placing.{some_ends, some_on, some_nothing}
use Rattle.wording.specs.declared.Brackets.{Brackets}
use Rattle.wording.specs.declared.Item.{Item}
use Rattle.wording.specs.declared.Item.TheVariants as Of
use Rattle.wording.specs.Waiting.{EachThere, item_text, waiting_text, item_weight, waiting_weight, waiting_room, Ready, Writes}

-- What is known when some of a text has been put, and the rest of it waits.
pub record Going (file text out₀ : List ℕ) (at : ℕ) (items : List Item) (out : List ℕ) (end : ℕ) : Type 0 where
  pub begun : List ℕ
  pub puts : PutSome begun at out₀ end out
  pub there : EachThere (nodes_of file) items
  pub rest : text ≡ begun ++ waiting_text (nodes_of file) items
  pub room : waiting_weight (nodes_of file) items ≤ waiting_room

-- one formula waits
pub going_begins : (file t : List ℕ) → NodesHeld file t → (around : Brackets) (i : ℕ) → i < count_nodes (nodes_of file) → (out : List ℕ) (at : ℕ)
    → {items : List Item} → items ≡ Of.Formula around i ∷ [] → Going file (item_text (nodes_of file) (Of.Formula around i)) out at items out at
unfolding waiting_text waiting_weight item_weight
going_begins file t held around i h out at waits =
    rw waits
    (record {
      begun = [];
      puts = some_nothing at out;
      there = (h, tt);
      rest = sym (append-nil (item_text (nodes_of file) (Of.Formula around i)));
      room = omega (arith, node_within (nodes_of file) i h, count_few file t held);
    })

module _ {file text out₀ : List ℕ} {at : ℕ} {items : List Item} {out : List ℕ} {end : ℕ} (going : Going file text out₀ at items out end) where
  -- none waits
  pub going_over : items ≡ [] → PutSome text at out₀ end out
  unfolding waiting_text
  going_over none =
      let all : text ≡ going.begun = going.rest ∙ (ap (λ (l : List Item). going.begun ++ waiting_text (nodes_of file) l) none ∙ append-nil going.begun) in
      subst (λ (l : List ℕ). PutSome l at out₀ end out) (sym all) going.puts

  module _ {item : Item} {later : List Item} (next : items ≡ item ∷ later) where
    some_there : EachThere (nodes_of file) (item ∷ later)
    some_there = subst (EachThere (nodes_of file)) next going.there

    pub next_ready : at ≤ length out₀ → Ready file (item_weight (nodes_of file) item) later out end
    unfolding waiting_weight
    next_ready inside =
        record { there = some_there.1; room = rw next at going.room; inside = (some_ends going.puts inside).0 }

    module _ {items' : List Item} {out' : List ℕ} {end' : ℕ}
        (writes : Writes file (item_text (nodes_of file) item) (item_weight (nodes_of file) item) later out end items' out' end') where
      pub going_down : waiting_weight (nodes_of file) items' < waiting_weight (nodes_of file) items
      unfolding waiting_weight
      going_down = rw next writes.less

      pub going_on : at ≤ length out₀ → Going file text out₀ at items' out' end'
      unfolding waiting_text
      going_on inside =
          record {
            begun = going.begun ++ writes.begun;
            puts = some_on going.puts writes.puts inside;
            there = writes.there;
            rest =
                going.rest
                ∙ (ap (λ (l : List Item). going.begun ++ waiting_text (nodes_of file) l) next
                ∙ (ap (λ (l : List ℕ). going.begun ++ l) writes.rest ∙ sym (append_assoc going.begun writes.begun _)));
            room = omega (arith, going_down, going.room);
          }
