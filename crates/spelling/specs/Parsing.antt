-- The node that begins at a place of a text: where its own bytes end, its kind, and what it does to the count of formulas that
-- are still needed.
use Rattle.std.specs.Prelude.{ℕ, ◌+◌, ◌-◌, Bool, true, false, cond, List, length, get_or, eqb, Option, None, Some}
use Rattle.infon.specs.Bytes.{bytes, space, alike}
use Rattle.infon.specs.Formula.{is_name}
use Rattle.nodes.specs.declared.Kind.{Kind}
use Rattle.nodes.specs.declared.Kind.TheVariants as Of
use Rattle.spelling.specs.declared.Parsed.{Parsed}
use Rattle.spelling.specs.declared.Parsed.TheVariants.{True, Name, And, Implies, Quoted}
use Rattle.spelling.specs.Token.{word_at}

-- a quotation's letter wants a space and a name behind it
unfoldable pub quotation_at : Bool → List ℕ → ℕ → Option Parsed
quotation_at said text gap =
    cond (eqb (get_or text gap 0) space)
    (cond (is_name (word_at text (gap + 1))) (Some (Quoted said (gap + 1) (gap + 1 + length (word_at text (gap + 1))))) None)
    None

-- the spelling table, row by row
unfoldable pub parsed_at : List ℕ → ℕ → Option Parsed
parsed_at text at =
    cond (alike (word_at text at) (bytes "T")) (Some True)
    (cond (alike (word_at text at) (bytes "+")) (Some And)
    (cond (alike (word_at text at) (bytes ">")) (Some Implies)
    (cond (alike (word_at text at) (bytes "S")) (quotation_at true text (at + 1))
    (cond (alike (word_at text at) (bytes "P")) (quotation_at false text (at + 1))
    (cond (is_name (word_at text at)) (Some (Name (at + length (word_at text at)))) None)))))

-- the place behind a node's own bytes
abbrev pub behind_own : ℕ → Parsed → ℕ
behind_own at True = at + 1
behind_own at (Name end) = end
behind_own at And = at + 1
behind_own at Implies = at + 1
behind_own at (Quoted said start end) = end

abbrev pub kind_parsed : Parsed → Kind
kind_parsed True = Of.True
kind_parsed (Name end) = Of.Name
kind_parsed And = Of.And
kind_parsed Implies = Of.Implies
kind_parsed (Quoted true start end) = Of.Said
kind_parsed (Quoted false start end) = Of.Put

-- True and a name are one formula of those needed, an operator needs one more than it is, a quotation as many as before
abbrev pub still_needed : Parsed → ℕ → ℕ
still_needed True needed = needed - 1
still_needed (Name end) needed = needed - 1
still_needed And needed = needed + 1
still_needed Implies needed = needed + 1
still_needed (Quoted said start end) needed = needed
