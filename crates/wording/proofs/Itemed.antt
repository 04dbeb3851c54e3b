-- What is written of an item and of a node, and what waits then.
-- Assumes nothing.
use Prim.Native.Nat.{ℕ, ◌+◌, ◌*◌, ◌-◌, ◌≤◌, ◌<◌}
use native.Mathlib.Omega.{arith}
use mathlib.Core.Path.{◌≡◌, refl, sym, ◌∙◌, ap}
use mathlib.Core.Bool.{Bool, true, false}
use mathlib.Core.List.{List, ◌∷◌, ◌++◌, append_assoc}
use lib.ListN.{length}
use Rattle.infon.specs.Bytes.{bytes}
use Rattle.infon.specs.Formula.{Formula, nodes}
use Rattle.nodes.specs.Nodes.{Node, node_at, count_nodes, nodes_of}
use Rattle.nodes.proofs.Order.{nodes_positive}
use Rattle.writing.specs.Placed.{PutSome}
use Rattle.writing.proofs.Placing.{some_ends, some_on}
use Rattle.wording.specs.declared.Brackets.{Brackets}
use Rattle.wording.specs.declared.Word.{Word}
use Rattle.wording.specs.declared.Word.TheVariants.{Close}
use Rattle.wording.specs.declared.Item.{Item}
use Rattle.wording.specs.declared.Item.TheVariants as Of
use Rattle.wording.specs.Words.{bracketed, in_words}
use Rattle.wording.specs.Waiting.{between_word, needs_brackets, item_text, waiting_text, item_weight, waiting_weight, waiting_room, own_words, part_items, Ready, Writes}
use Rattle.wording.proofs.Waited.{text_on, weight_on, there_on, few_items}
use Rattle.wording.proofs.Parted.{parts}

-- a word
pub word_written : (file : List ℕ) (word : Word) {items : List Item} {out : List ℕ} {at : ℕ} → Ready file (item_weight (nodes_of file) (Of.Word word)) items out at
    → {end : ℕ} {out' : List ℕ} → PutSome (between_word word) at out end out'
    → Writes file (item_text (nodes_of file) (Of.Word word)) (item_weight (nodes_of file) (Of.Word word)) items out at items out' end
unfolding item_text item_weight
word_written file word ready puts = record { begun = between_word word; puts = puts; there = ready.there; rest = refl; less = omega arith }

module _ (file : List ℕ) (i : ℕ) (h : i < count_nodes (nodes_of file)) where
  abbrev row : List Node
  row = nodes_of file

  abbrev x : Formula
  x = (node_at row i).what

  module _ {items : List Item} {out : List ℕ} {at : ℕ} where
    -- there is room for the parts of a node
    pub parts_fit : Ready file (3 * nodes x - 1) items out at → length (part_items i x) + length items ≤ waiting_room
    parts_fit ready =
        omega (arith, few_items row (part_items i x), few_items row items, (parts row i h).weight, ready.room)

    -- a node
    pub node_written : Ready file (3 * nodes x - 1) items out at → {end : ℕ} {out' : List ℕ} {items' : List Item} → PutSome (own_words x) at out end out'
        → items' ≡ part_items i x ++ items → Writes file (in_words x) (3 * nodes x - 1) items out at items' out' end
    node_written ready {end} {out'} {items'} puts waits =
        let p = parts row i h in
        rw waits
        (record {
          begun = own_words x;
          puts = puts;
          there = there_on row (part_items i x) items p.there ready.there;
          rest =
              ap (λ (l : List ℕ). l ++ waiting_text row items) (sym p.text)
              ∙ (append_assoc (own_words x) (waiting_text row (part_items i x)) (waiting_text row items)
              ∙ ap (λ (l : List ℕ). own_words x ++ l) (sym (text_on row (part_items i x) items)));
          less = omega (arith, weight_on row (part_items i x) items, p.weight);
        })

    module _ (around : Brackets) (ready : Ready file (item_weight (nodes_of file) (Of.Formula around i)) items out at) where
      -- a formula without brackets
      pub bare_ready : Ready file (3 * nodes x - 1) items out at
      unfolding item_weight
      bare_ready = record { there = ready.there; room = omega (arith, ready.room); inside = ready.inside }

      pub bare_written : {b : Bool} → b ≡ needs_brackets around x → b ≡ false → {items' : List Item} {out' : List ℕ} {end : ℕ}
          → Writes file (in_words x) (3 * nodes x - 1) items out at items' out' end
          → Writes file (item_text row (Of.Formula around i)) (item_weight row (Of.Formula around i)) items out at items' out' end
      unfolding item_text item_weight bracketed
      bare_written {b} e none writes =
          let bare : needs_brackets around x ≡ false = sym e ∙ none in
          record {
            begun = writes.begun;
            puts = writes.puts;
            there = writes.there;
            rest = rw bare writes.rest;
            less = omega (arith, writes.less, nodes_positive x);
          }

      -- a formula in brackets: the closing one waits behind it
      pub closing_room : length items < waiting_room
      unfolding item_weight
      closing_room = omega (arith, few_items row items, ready.room, nodes_positive x)

      module _ {inside : ℕ} {out₁ : List ℕ} {items₁ : List Item} (opened : PutSome (bytes "(") at out inside out₁) (waits : items₁ ≡ Of.Word Close ∷ items) where
        pub closed_ready : Ready file (3 * nodes x - 1) items₁ out₁ inside
        unfolding item_weight waiting_weight
        closed_ready =
            rw waits
            (record {
              there = (tt, ready.there);
              room = omega (arith, ready.room, nodes_positive x);
              inside = (some_ends opened ready.inside).0;
            })

        pub closed_written : {b : Bool} → b ≡ needs_brackets around x → b ≡ true → {items' : List Item} {out' : List ℕ} {end : ℕ}
            → Writes file (in_words x) (3 * nodes x - 1) items₁ out₁ inside items' out' end
            → Writes file (item_text row (Of.Formula around i)) (item_weight row (Of.Formula around i)) items out at items' out' end
        unfolding item_text item_weight bracketed between_word waiting_text waiting_weight
        closed_written {b} e some {items'} writes =
            let gets : needs_brackets around x ≡ true = sym e ∙ some in
            let tail = waiting_text row items in
            let later : in_words x ++ (bytes ")" ++ tail) ≡ writes.begun ++ waiting_text row items' = rw waits at writes.rest in
            let weighs : waiting_weight row items' < 3 * nodes x - 1 + (1 + waiting_weight row items) = rw waits at writes.less in
            record {
              begun = bytes "(" ++ writes.begun;
              puts = some_on opened writes.puts ready.inside;
              there = writes.there;
              rest =
                  rw gets
                  (append_assoc (bytes "(") (in_words x ++ bytes ")") tail
                  ∙ (ap (λ (l : List ℕ). bytes "(" ++ l) (append_assoc (in_words x) (bytes ")") tail ∙ later)
                  ∙ sym (append_assoc (bytes "(") writes.begun _)));
              less = omega (arith, weighs, nodes_positive x);
            }
