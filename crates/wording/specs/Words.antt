-- Formulas in words, for those who read no logic. Brackets stand only where the words could be read in two ways without them.
use Rattle.std.specs.Prelude.{ℕ, Bool, true, false, List, ◌++◌}
use Rattle.infon.specs.Bytes.{bytes}
use Rattle.infon.specs.Formula.{Told, said, put, Formula, True, name, and, implies, quoted}

-- an `if .. then ..`, which goes on to the end of what it stands in; a formula of two parts
unfoldable pub is_rule : Formula → Bool
is_rule True = false
is_rule (name a) = false
is_rule (and x y) = false
is_rule (implies x y) = true
is_rule (quoted q x) = false

unfoldable pub has_parts : Formula → Bool
has_parts True = false
has_parts (name a) = false
has_parts (and x y) = true
has_parts (implies x y) = true
has_parts (quoted q x) = false

unfoldable pub bracketed : Bool → List ℕ → List ℕ
bracketed true text = bytes "(" ++ (text ++ bytes ")")
bracketed false text = text

unfoldable pub said_word : Bool → List ℕ
said_word true = bytes " said "
said_word false = bytes " put "

unfoldable pub told_word : Told → List ℕ
told_word said = said_word true
told_word put = said_word false

unfoldable pub in_words : Formula → List ℕ
in_words True = bytes "what is true"
in_words (name a) = a
in_words (and x y) = bracketed (has_parts x) (in_words x) ++ (bytes " and " ++ bracketed (is_rule y) (in_words y))
in_words (implies x y) = bytes "if " ++ (bracketed (is_rule x) (in_words x) ++ (bytes " then " ++ in_words y))
in_words (quoted q x) = q.principal ++ (told_word q.told ++ bracketed (has_parts x) (in_words x))
