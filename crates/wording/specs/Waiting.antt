-- How the words are written without going back: what is still to be written waits, the next item first. An item is a formula, by where
-- brackets are needed around it and by its node's number, or a word between formulas.
use Rattle.std.specs.Prelude.{ℕ, suc, ◌+◌, ◌*◌, ◌≤◌, ◌<◌, ◌≡◌, Bool, false, List, [], ◌∷◌, ◌++◌, length}
use Rattle.infon.specs.Bytes.{bytes}
use Rattle.infon.specs.Formula.{Formula, True, name, and, implies, quoted, nodes}
use Rattle.nodes.specs.Nodes.{Node, node_at, count_nodes, nodes_of}
use Rattle.writing.specs.Placed.{PutSome}
use Rattle.wording.specs.declared.Brackets.{Brackets}
use Rattle.wording.specs.declared.Brackets.TheVariants.{Never, AroundRules, AroundParts}
use Rattle.wording.specs.declared.Word.{Word}
use Rattle.wording.specs.declared.Word.TheVariants.{And, Then, Close}
use Rattle.wording.specs.declared.Item.{Item}
use Rattle.wording.specs.declared.Item.TheVariants as Of
use Rattle.wording.specs.Words.{is_rule, has_parts, bracketed, told_word, in_words}

unfoldable pub between_word : Word → List ℕ
between_word And = bytes " and "
between_word Then = bytes " then "
between_word Close = bytes ")"

unfoldable pub needs_brackets : Brackets → Formula → Bool
needs_brackets Never x = false
needs_brackets AroundRules x = is_rule x
needs_brackets AroundParts x = has_parts x

-- a formula that waits is one of the file's
abbrev pub IsThere : List Node → Item → Type 0
IsThere row (Of.Formula around i) = i < count_nodes row
IsThere row (Of.Word word) = Unit {0}

unfoldable pub item_text : List Node → Item → List ℕ
item_text row (Of.Formula around i) = let x = (node_at row i).what in bracketed (needs_brackets around x) (in_words x)
item_text row (Of.Word word) = between_word word

-- How many places an item may come to need: three for each node, one for a word.
unfoldable pub item_weight : List Node → Item → ℕ
item_weight row (Of.Formula around i) = 3 * nodes (node_at row i).what
item_weight row (Of.Word word) = 1

-- the same of all that waits
abbrev pub EachThere : List Node → List Item → Type 0
EachThere row [] = Unit {0}
EachThere row (item ∷ rest) = IsThere row item × EachThere row rest

unfoldable pub waiting_text : List Node → List Item → List ℕ
waiting_text row [] = []
waiting_text row (item ∷ rest) = item_text row item ++ waiting_text row rest

unfoldable pub waiting_weight : List Node → List Item → ℕ
waiting_weight row [] = 0
waiting_weight row (item ∷ rest) = item_weight row item + waiting_weight row rest

-- room for all that a formula of 1,024 nodes can have waiting
abbrev pub waiting_room : ℕ
waiting_room = 3072

-- A formula in words is what it begins with, and behind that its parts.
unfoldable pub own_words : Formula → List ℕ
own_words True = bytes "what is true"
own_words (name a) = a
own_words (and x y) = []
own_words (implies x y) = bytes "if "
own_words (quoted q x) = q.principal ++ told_word q.told

-- the parts of a formula that begins at node i, with the word between them
unfoldable pub part_items : ℕ → Formula → List Item
part_items i True = []
part_items i (name a) = []
part_items i (and x y) = Of.Formula AroundParts (suc i) ∷ (Of.Word And ∷ (Of.Formula AroundRules (suc i + nodes x) ∷ []))
part_items i (implies x y) = Of.Formula AroundRules (suc i) ∷ (Of.Word Then ∷ (Of.Formula Never (suc i + nodes x) ∷ []))
part_items i (quoted q x) = Of.Formula AroundParts (suc i) ∷ []

-- What is asked where something is written before all that waits, and may come to need so many places: there is room.
pub record Ready (file : List ℕ) (weight : ℕ) (items : List Item) (out : List ℕ) (at : ℕ) : Type 0 where
  pub there : EachThere (nodes_of file) items
  pub room : weight + waiting_weight (nodes_of file) items ≤ waiting_room
  pub inside : at ≤ length out

-- What writing a text before all that waits comes to: some of it is put, the rest waits, and fewer places may come to be needed.
pub record Writes (file text : List ℕ) (weight : ℕ) (items : List Item) (out : List ℕ) (at : ℕ) (items' : List Item) (out' : List ℕ) (end : ℕ) : Type 0 where
  pub begun : List ℕ
  pub puts : PutSome begun at out end out'
  pub there : EachThere (nodes_of file) items'
  pub rest : text ++ waiting_text (nodes_of file) items ≡ begun ++ waiting_text (nodes_of file) items'
  pub less : waiting_weight (nodes_of file) items' < weight + waiting_weight (nodes_of file) items
