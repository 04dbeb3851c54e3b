-- Items that wait: some before the others, and how many places all of them may come to need.
-- Assumes nothing.
use Prim.Native.Nat.{ℕ, zero, suc, ◌+◌, ◌≤◌}
use native.Mathlib.Omega.{arith}
use mathlib.Core.Path.{◌≡◌, refl, sym, ◌∙◌, ap}
use mathlib.Core.List.{List, [], ◌∷◌, ◌++◌, append_assoc}
use lib.ListN.{length, drop, replicate}
use Rattle.nodes.specs.Nodes.{Node, node_at}
use Rattle.nodes.proofs.Order.{nodes_positive}
use Rattle.wording.specs.declared.Item.{Item}
use Rattle.wording.specs.declared.Item.TheVariants as Of
use Rattle.wording.specs.Waiting.{EachThere, item_text, waiting_text, item_weight, waiting_weight}

module _ (row : List Node) where
  pub text_on : (one two : List Item) → waiting_text row (one ++ two) ≡ waiting_text row one ++ waiting_text row two
  unfolding waiting_text
  text_on [] two = refl
  text_on (item ∷ one) two =
      ap (λ (l : List ℕ). item_text row item ++ l) (text_on one two) ∙ sym (append_assoc (item_text row item) (waiting_text row one) (waiting_text row two))

  pub weight_on : (one two : List Item) → waiting_weight row (one ++ two) ≡ waiting_weight row one + waiting_weight row two
  unfolding waiting_weight
  weight_on [] two = omega arith
  weight_on (item ∷ one) two = omega (arith, weight_on one two)

  pub there_on : (one two : List Item) → EachThere row one → EachThere row two → EachThere row (one ++ two)
  there_on [] two first second = second
  there_on (item ∷ one) two first second = (first.0, there_on one two first.1 second)

  item_positive : (item : Item) → 1 ≤ item_weight row item
  unfolding item_weight
  item_positive (Of.Formula around i) = omega (arith, nodes_positive (node_at row i).what)
  item_positive (Of.Word word) = omega arith

  -- there are not more items than places that they need
  pub few_items : (items : List Item) → length items ≤ waiting_weight row items
  unfolding waiting_weight
  few_items [] = omega arith
  few_items (item ∷ items) = omega (arith, few_items items, item_positive item)

-- nothing waits where all places are free
pub none_wait : (n : ℕ) (item : Item) → drop n (replicate n item) ≡ []
none_wait zero item = refl
none_wait (suc n) item = none_wait n item
