-- 01, "The policy file": lines with their places, and codes 1 to 4 of "Codes on the board".
use Rattle.std.specs.Prelude.{ℕ, ◌+◌, Bool, cond, not, List, [], ◌∷◌, length, ltb, eqb, Option, None, Some, is_some, option_map, option_and_then}
use Rattle.infon.specs.Bytes.{bytes, line_feed, alike}
use Rattle.infon.specs.Formula.{Formula, onto, formula_of, nodes, depth}
use Rattle.infon.specs.Codes.{when, and_then, Verdict, passed}

-- "ASCII, zero or more lines, each ended by one line feed (byte 10)": the file cut behind each line feed. A rest without a
-- line feed is a line too, and not well formed.
unfoldable pub cut : List ℕ → List (List ℕ)
cut [] = []
cut (b ∷ s) =
    let rest = cut s in
    cond (eqb b line_feed) ((b ∷ []) ∷ rest) (onto b rest)

-- a line's bytes, its line feed with them, and the place where it starts
pub record Line : Type 0 where
  pub start : ℕ
  pub text : List ℕ

unfoldable pub placed : ℕ → List (List ℕ) → List Line
placed start [] = []
placed start (text ∷ rest) = record { start = start; text = text } ∷ placed (start + length text) rest

unfoldable pub lines_of : List ℕ → List Line
lines_of file = placed 0 (cut file)

-- what a line says
pub data Sentence : Type 0 where
  hypothesis : Formula → Sentence
  query : Formula → Sentence

-- the bytes before the line feed that ends a text, if one does
unfoldable pub before_feed : List ℕ → Option (List ℕ)
before_feed [] = None
before_feed (b ∷ []) = cond (eqb b line_feed) (Some []) None
before_feed (b ∷ (c ∷ s)) = option_map (λ (text : List ℕ). b ∷ text) (before_feed (c ∷ s))

unfoldable pub read : (Formula → Sentence) → Option (List ℕ) → Option Sentence
read letter text = option_map letter (option_and_then formula_of text)

-- "A line is `H` (hypothesis) or `Q` (query), one space, one formula." What the formula's part of the file is: "the part of
-- the file that starts after its letter and space and ends before its line feed".
unfoldable pub sentence_of : List ℕ → Option Sentence
sentence_of [] = None
sentence_of (a ∷ []) = None
sentence_of (a ∷ (b ∷ text)) =
    cond (alike (a ∷ (b ∷ [])) (bytes "H ")) (read hypothesis (before_feed text))
    (cond (alike (a ∷ (b ∷ [])) (bytes "Q ")) (read query (before_feed text)) None)

unfoldable pub is_well_formed : Line → Bool
is_well_formed line = is_some (sentence_of line.text)

-- a well-formed line: where it starts, and what it says
pub record Entry : Type 0 where
  pub start : ℕ
  pub sentence : Sentence

unfoldable pub with_entry : ℕ → Option Sentence → List Entry → List Entry
with_entry start None rest = rest
with_entry start (Some sentence) rest = record { start = start; sentence = sentence } ∷ rest

unfoldable pub entries_from : List Line → List Entry
entries_from [] = []
entries_from (line ∷ rest) = with_entry line.start (sentence_of line.text) (entries_from rest)

unfoldable pub entries_of : List ℕ → List Entry
entries_of file = entries_from (lines_of file)

unfoldable pub formula_in : Sentence → Formula
formula_in (hypothesis x) = x
formula_in (query x) = x

-- "`H` and `Q` lines may come in any order; a hypothesis below a query counts for it."
unfoldable pub hypotheses_of : List Entry → List Formula
hypotheses_of [] = []
hypotheses_of (e ∷ rest) = elim e.sentence [ hypothesis x ↦ x ∷ hypotheses_of rest | query x ↦ hypotheses_of rest ]

unfoldable pub queries_of : List Entry → List Formula
queries_of [] = []
queries_of (e ∷ rest) = elim e.sentence [ hypothesis x ↦ queries_of rest | query x ↦ x ∷ queries_of rest ]

-- 1: "the file is over 32,768 bytes", place 0
abbrev pub most_bytes : ℕ
most_bytes = 32768

unfoldable pub code1 : List ℕ → Verdict
code1 file = when (ltb most_bytes (length file)) 1 0

-- 2: "a line is not well formed", "start of the first such line"
unfoldable pub code2_from : List Line → Verdict
code2_from [] = passed
code2_from (line ∷ rest) = and_then (when (not (is_well_formed line)) 2 line.start) (code2_from rest)

unfoldable pub code2 : List ℕ → Verdict
code2 file = code2_from (lines_of file)

-- 3: "over 1,024 nodes in the file", "start of the line with node 1,025"
unfoldable pub most_nodes : ℕ
most_nodes = 1024

unfoldable pub code3_from : ℕ → List Entry → Verdict
code3_from count [] = passed
code3_from count (e ∷ rest) =
    let now = count + nodes (formula_in e.sentence) in
    and_then (when (ltb most_nodes now) 3 e.start) (code3_from now rest)

unfoldable pub code3 : List Entry → Verdict
code3 entries = code3_from 0 entries

-- 4: "a formula's quotation depth is over 4", "start of the first such line"
unfoldable pub most_depth : ℕ
most_depth = 4

unfoldable pub code4 : List Entry → Verdict
code4 [] = passed
code4 (e ∷ rest) = and_then (when (ltb most_depth (depth (formula_in e.sentence))) 4 e.start) (code4 rest)
