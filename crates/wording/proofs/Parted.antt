-- A formula in words is what it begins with and the text of its parts, which wait; they are nodes of the file, and may come to need
-- fewer places than the formula.
-- Assumes nothing.
use Prim.Native.Nat.{ℕ, suc, ◌+◌, ◌*◌, ◌≤◌, ◌<◌}
use native.Mathlib.Numerals.{add-one}
use native.Mathlib.Omega.{arith}
use mathlib.Core.Path.{◌≡◌, refl, sym, ◌∙◌, ap}
use mathlib.Core.Logic.{◌⊎◌, inl, inr}
use mathlib.Core.List.{List, [], ◌∷◌, ◌++◌, append_assoc, append-nil}
use lib.ListN.{length}
use Rattle.infon.specs.Formula.{Quotation, Formula, True, name, and, implies, quoted, nodes}
use Rattle.nodes.specs.Nodes.{Node, node_at, count_nodes, nodes_of, node_end, node_kind, node_cell, kind_of, part, inner, NodesHeld}
use Rattle.nodes.specs.declared.Kind.{Kind}
use Rattle.nodes.specs.declared.Kind.TheVariants as Kinds
use Rattle.nodes.specs.Columns.{kind_by, number_of}
use Rattle.nodes.proofs.Order.{nodes_positive, node_within, and_left, and_right, implies_left, implies_right, quoted_inner, quoted_high}
use Rattle.prefix.proofs.Shown.{count_few, end_cell}
use Rattle.prefix.proofs.Inside.{parts_of, left_below}
use Rattle.wording.specs.declared.Brackets.TheVariants.{Never, AroundRules, AroundParts}
use Rattle.wording.specs.declared.Word.TheVariants.{And, Then}
use Rattle.wording.specs.declared.Item.{Item}
use Rattle.wording.specs.declared.Item.TheVariants as Of
use Rattle.wording.specs.Words.{bracketed, in_words}
use Rattle.wording.specs.Waiting.{between_word, needs_brackets, EachThere, item_text, waiting_text, item_weight, waiting_weight, own_words, part_items}
use Rattle.wording.proofs.Own.{known}

pub record PartsOf (row : List Node) (i : ℕ) (x : Formula) : Type 0 where
  pub text : own_words x ++ waiting_text row (part_items i x) ≡ in_words x
  pub weight : waiting_weight row (part_items i x) + 2 ≤ 3 * nodes x
  pub there : EachThere row (part_items i x)

module _ (row : List Node) (i : ℕ) (h : i < count_nodes row) where
  inside_is : (q : Quotation) (y : Formula) → (node_at row i).what ≡ quoted q y → (node_at row (suc i)).what ≡ y
  unfolding inner
  inside_is q y e = ap (λ (n : Node). n.what) (quoted_inner row i h q y e)

  inside_there : (q : Quotation) (y : Formula) → (node_at row i).what ≡ quoted q y → suc i < count_nodes row
  unfolding nodes
  inside_there q y e = omega (arith, node_within row i h, ap nodes e, nodes_positive y)

  left_and : (y z : Formula) → (node_at row i).what ≡ and y z → (node_at row (suc i)).what ≡ y
  unfolding part
  left_and y z e = ap (λ (n : Node). n.what) (and_left row i h y z e)

  right_and : (y z : Formula) → (node_at row i).what ≡ and y z → (node_at row (suc i + nodes y)).what ≡ z
  unfolding part
  right_and y z e = ap (λ (n : Node). n.what) (and_right row i h y z e)

  left_rule : (y z : Formula) → (node_at row i).what ≡ implies y z → (node_at row (suc i)).what ≡ y
  unfolding part
  left_rule y z e = ap (λ (n : Node). n.what) (implies_left row i h y z e)

  right_rule : (y z : Formula) → (node_at row i).what ≡ implies y z → (node_at row (suc i + nodes y)).what ≡ z
  unfolding part
  right_rule y z e = ap (λ (n : Node). n.what) (implies_right row i h y z e)

  parts_by : (x : Formula) → (node_at row i).what ≡ x → PartsOf row i x
  unfolding own_words part_items in_words waiting_text waiting_weight item_text item_weight needs_brackets between_word bracketed nodes
  parts_by True e = record { text = append-nil _; weight = omega arith; there = tt }
  parts_by (name a) e = record { text = append-nil a; weight = omega arith; there = tt }
  parts_by (and y z) e =
      let left = left_and y z e in
      let right = right_and y z e in
      let within = ap nodes e in
      record {
        text = rw (left, right, append-nil);
        weight = rw (left, right) (omega arith);
        there = (omega (arith, node_within row i h, within, nodes_positive z), (tt, (omega (arith, node_within row i h, within, nodes_positive z), tt)));
      }
  parts_by (implies y z) e =
      let left = left_rule y z e in
      let right = right_rule y z e in
      let within = ap nodes e in
      record {
        text = rw (left, right, append-nil);
        weight = rw (left, right) (omega arith);
        there = (omega (arith, node_within row i h, within, nodes_positive z), (tt, (omega (arith, node_within row i h, within, nodes_positive z), tt)));
      }
  parts_by (quoted q y) e =
      let inside = inside_is q y e in
      record {
        text = rw (inside, append-nil, append_assoc);
        weight = rw inside (omega arith);
        there = (inside_there q y e, tt);
      }

  pub parts : PartsOf row i (node_at row i).what
  parts = parts_by (node_at row i).what refl

-- What waits of a node's parts, by its kind.
module _ (file t : List ℕ) (held : NodesHeld file t) (i : ℕ) (h : i < count_nodes (nodes_of file)) where
  abbrev x : Formula
  x = (node_at (nodes_of file) i).what

  none_by : (y : Formula) → kind_of y < 2 → [] ≡ part_items i y
  unfolding part_items kind_of
  none_by True low = refl
  none_by (name a) low = refl
  none_by (and y z) low = absurd (omega arith)
  none_by (implies y z) low = absurd (omega arith)
  none_by (quoted q y) low = absurd (omega (arith, quoted_high q y))

  one_by : (y : Formula) → 4 ≤ kind_of y → Of.Formula AroundParts (suc i) ∷ [] ≡ part_items i y
  unfolding part_items kind_of
  one_by True high = absurd (omega arith)
  one_by (name a) high = absurd (omega arith)
  one_by (and y z) high = absurd (omega arith)
  one_by (implies y z) high = absurd (omega arith)
  one_by (quoted q y) high = refl

  second_place : (y : Formula) → suc i < count_nodes (nodes_of file) → (node_at (nodes_of file) (suc i)).what ≡ y → node_cell t node_end (i + 1) ≡ suc i + nodes y
  second_place y there e = rw (add-one i) (end_cell file t held (suc i) there ∙ ap (λ (z : Formula). suc i + nodes z) e)

  second_there : (y z : Formula) → suc (nodes y + nodes z) ≡ nodes x → suc i < count_nodes (nodes_of file)
  second_there y z e = omega (arith, node_within (nodes_of file) i h, nodes_positive y, nodes_positive z)

  and_by : (y : Formula) → x ≡ y → kind_of y ≡ 2
      → Of.Formula AroundParts (i + 1) ∷ (Of.Word And ∷ (Of.Formula AroundRules (node_cell t node_end (i + 1)) ∷ [])) ≡ part_items i y
  unfolding part_items kind_of nodes
  and_by True e k = absurd (omega arith)
  and_by (name a) e k = absurd (omega arith)
  and_by (and y z) e k = rw (second_place y (second_there y z (ap nodes (sym e))) (left_and (nodes_of file) i h y z e), add-one i)
  and_by (implies y z) e k = absurd (omega arith)
  and_by (quoted q y) e k = absurd (omega (arith, quoted_high q y))

  rule_by : (y : Formula) → x ≡ y → kind_of y ≡ 3
      → Of.Formula AroundRules (i + 1) ∷ (Of.Word Then ∷ (Of.Formula Never (node_cell t node_end (i + 1)) ∷ [])) ≡ part_items i y
  unfolding part_items kind_of nodes
  rule_by True e k = absurd (omega arith)
  rule_by (name a) e k = absurd (omega arith)
  rule_by (and y z) e k = absurd (omega arith)
  rule_by (implies y z) e k = rw (second_place y (second_there y z (ap nodes (sym e))) (left_rule (nodes_of file) i h y z e), add-one i)
  rule_by (quoted q y) e k = absurd (omega (arith, quoted_high q y))

  leaf_low : {kind : Kind} → (kind ≡ Kinds.True) ⊎ (kind ≡ Kinds.Name) → number_of kind < 2
  leaf_low (inl e) = rw e (omega arith)
  leaf_low (inr e) = rw e (omega arith)

  quoted_high_lem : {kind : Kind} → (kind ≡ Kinds.Said) ⊎ (kind ≡ Kinds.Put) → 4 ≤ number_of kind
  quoted_high_lem (inl e) = rw e (omega arith)
  quoted_high_lem (inr e) = rw e (omega arith)

  -- a leaf has no parts
  pub leaf_waits : {kind : Kind} → kind ≡ kind_by (node_cell t node_kind i) → (kind ≡ Kinds.True) ⊎ (kind ≡ Kinds.Name) → (items : List Item)
      → items ≡ part_items i x ++ items
  leaf_waits e leaf items = ap (λ (l : List Item). l ++ items) (none_by x (omega (arith, known file t held i h e, leaf_low leaf)))

  quoted_parts : {kind : Kind} → kind ≡ kind_by (node_cell t node_kind i) → (kind ≡ Kinds.Said) ⊎ (kind ≡ Kinds.Put) → Of.Formula AroundParts (suc i) ∷ [] ≡ part_items i x
  quoted_parts e quotation = one_by x (omega (arith, known file t held i h e, quoted_high_lem quotation))

  pub quoted_waits : {kind : Kind} → kind ≡ kind_by (node_cell t node_kind i) → (kind ≡ Kinds.Said) ⊎ (kind ≡ Kinds.Put) → {items' items : List Item}
      → items' ≡ Of.Formula AroundParts (i + 1) ∷ items → items' ≡ part_items i x ++ items
  quoted_waits e quotation {items'} {items} waits =
      rw (waits, add-one i) (ap (λ (l : List Item). l ++ items) (quoted_parts e quotation))

  -- how many parts there are
  pub quoted_one : {kind : Kind} → kind ≡ kind_by (node_cell t node_kind i) → (kind ≡ Kinds.Said) ⊎ (kind ≡ Kinds.Put) → length (part_items i x) ≡ 1
  quoted_one e quotation = sym (ap length (quoted_parts e quotation))

  pub and_three : Kinds.And ≡ kind_by (node_cell t node_kind i) → length (part_items i x) ≡ 3
  and_three e = sym (ap length (and_by x refl (sym (known file t held i h e))))

  pub rule_three : Kinds.Implies ≡ kind_by (node_cell t node_kind i) → length (part_items i x) ≡ 3
  rule_three e = sym (ap length (rule_by x refl (sym (known file t held i h e))))

  pub and_waits : Kinds.And ≡ kind_by (node_cell t node_kind i) → {items' items : List Item} {second : ℕ} → second ≡ node_cell t node_end (i + 1)
      → items' ≡ Of.Formula AroundParts (i + 1) ∷ (Of.Word And ∷ (Of.Formula AroundRules second ∷ items)) → items' ≡ part_items i x ++ items
  and_waits e {items'} {items} place waits =
      rw (waits, place) (ap (λ (l : List Item). l ++ items) (and_by x refl (sym (known file t held i h e))))

  pub rule_waits : Kinds.Implies ≡ kind_by (node_cell t node_kind i) → {items' items : List Item} {second : ℕ} → second ≡ node_cell t node_end (i + 1)
      → items' ≡ Of.Formula AroundRules (i + 1) ∷ (Of.Word Then ∷ (Of.Formula Never second ∷ items)) → items' ≡ part_items i x ++ items
  rule_waits e {items'} {items} place waits =
      rw (waits, place) (ap (λ (l : List Item). l ++ items) (rule_by x refl (sym (known file t held i h e))))

  -- the first part of a conjunction or a rule is a node
  pub first_below : {kind : Kind} → kind ≡ kind_by (node_cell t node_kind i) → 2 ≤ number_of kind → number_of kind < 4 → i + 1 < count_nodes (nodes_of file)
  first_below e low high =
      rw (add-one i) (left_below (nodes_of file) i h (parts_of (nodes_of file) i h (omega (arith, known file t held i h e)) (omega (arith, known file t held i h e))))

  -- a second part's number is at most the count of the nodes
  pub second_small : i + 1 < count_nodes (nodes_of file) → {second : ℕ} → second ≡ node_cell t node_end (i + 1) → second ≤ 1024
  second_small there place =
      omega (arith, place, end_cell file t held (i + 1) there, node_within (nodes_of file) (i + 1) there, count_few file t held)
