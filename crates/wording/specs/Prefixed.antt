-- The words of a prefix, read off its places and a number that has a bit for each, the outermost place lowest: put where it is 1.
use Rattle.std.specs.Prelude.{ℕ, zero, suc, ◌/◌, ◌%◌, ◌≤◌, List, [], ◌∷◌, ◌++◌, length, eqb}
use Rattle.infon.specs.Formula.{Formula}
use Rattle.prefix.specs.declared.Place.{Place}
use Rattle.prefix.specs.Told.{ToldBy}
use Rattle.twins.specs.Twins.{principal_text}
use Rattle.wording.specs.declared.Brackets.{Brackets}
use Rattle.wording.specs.declared.Brackets.TheVariants.{Never, AroundParts}
use Rattle.wording.specs.Words.{said_word}

-- the bits that are left when so many places have taken theirs
unfoldable pub bits_behind : ℕ → ℕ → ℕ
bits_behind zero puts = puts
bits_behind (suc k) puts = bits_behind k puts / 2

-- the places go from the innermost to the outermost, their words the other way
unfoldable pub place_words : List ℕ → List ℕ → List Place → ℕ → List ℕ
place_words file t [] puts = []
place_words file t (q ∷ outer) puts =
    place_words file t outer puts ++ (principal_text file t q.node ++ said_word (eqb (bits_behind (length outer) puts % 2) 0))

-- how what stands behind so many quotations gets brackets
unfoldable pub around_by : ℕ → Brackets
around_by zero = Never
around_by (suc k) = AroundParts

-- There is one.
pub record Tellable (file t : List ℕ) (b puts : ℕ) (out : List ℕ) (at : ℕ) : Type 0 where
  pub formula : Formula
  pub told : ToldBy file t b puts formula
  pub inside : at ≤ length out
