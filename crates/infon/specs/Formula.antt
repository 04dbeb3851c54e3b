-- 01, "The policy file": formulas, their spelling, their nodes and their depth.
use Rattle.std.specs.Prelude.{ℕ, suc, ◌+◌, max, Bool, true, false, cond, ◌&&◌, ◌||◌, List, [], ◌∷◌, ◌++◌, length, leb, eqb, Option, None, Some, option_and_then}
use Rattle.infon.specs.Bytes.{bytes, space, alike, every}

-- the two ways in which a principal passes a formula on; said is the stronger
pub data Told : Type 0 where
  said : Told
  put : Told

-- one place of a prefix: its kind and its principal
pub record Quotation : Type 0 where
  pub told : Told
  pub principal : List ℕ

-- formulas, a row of the spelling table each (`S` and `P` are one row here); those of the language are the ones whose names
-- are names, `is_named` below
pub data Formula : Type 0 where
  True : Formula
  name : List ℕ → Formula
  and : Formula → Formula → Formula
  implies : Formula → Formula → Formula
  quoted : Quotation → Formula → Formula

-- "A name, also a principal's, is 1 to 16 characters out of a to z, 0 to 9 and hyphen."
unfoldable pub is_name_byte : ℕ → Bool
is_name_byte b = (leb 97 b && leb b 122) || (leb 48 b && leb b 57) || eqb b 45

unfoldable pub is_name : List ℕ → Bool
is_name word = leb 1 (length word) && leb (length word) 16 && every is_name_byte word

-- a formula of the language: every name in it is one
unfoldable pub is_named : Formula → Bool
is_named True = true
is_named (name a) = is_name a
is_named (and x y) = is_named x && is_named y
is_named (implies x y) = is_named x && is_named y
is_named (quoted q x) = is_name q.principal && is_named x

-- "Formulas are written operator first": a formula's tokens
unfoldable pub letter_of : Told → List ℕ
letter_of said = bytes "S"
letter_of put = bytes "P"

unfoldable pub words : Formula → List (List ℕ)
words True = bytes "T" ∷ []
words (name a) = a ∷ []
words (and x y) = bytes "+" ∷ (words x ++ words y)
words (implies x y) = bytes ">" ∷ (words x ++ words y)
words (quoted q x) = letter_of q.told ∷ (q.principal ∷ words x)

-- "Tokens are separated by exactly one space, with none before the line feed."
unfoldable pub joined : List (List ℕ) → List ℕ
joined [] = []
joined (word ∷ []) = word
joined (word ∷ (next ∷ rest)) = word ++ (space ∷ joined (next ∷ rest))

unfoldable pub spelling : Formula → List ℕ
spelling x = joined (words x)

-- Reading goes the other way: a text is split at each space, and its tokens are gone through from the last to the first,
-- the formulas read so far waiting in a row, the latest first. An operator takes its operands from that row.
unfoldable pub onto : ℕ → List (List ℕ) → List (List ℕ)
onto b [] = (b ∷ []) ∷ []
onto b (word ∷ rest) = (b ∷ word) ∷ rest

unfoldable pub tokens : List ℕ → List (List ℕ)
tokens [] = [] ∷ []
tokens (b ∷ s) =
    let rest = tokens s in
    cond (eqb b space) ([] ∷ rest) (onto b rest)

unfoldable pub join_two : (Formula → Formula → Formula) → List Formula → Option (List Formula)
join_two operator [] = None
join_two operator (x ∷ []) = None
join_two operator (x ∷ (y ∷ waiting)) = Some (operator x y ∷ waiting)

unfoldable pub quote : Told → List Formula → Option (List Formula)
quote told [] = None
quote told (name a ∷ []) = None
quote told (name a ∷ (x ∷ waiting)) = Some (quoted (record { told = told; principal = a }) x ∷ waiting)
quote told (True ∷ waiting) = None
quote told (and x y ∷ waiting) = None
quote told (implies x y ∷ waiting) = None
quote told (quoted q x ∷ waiting) = None

unfoldable pub take_word : List ℕ → List Formula → Option (List Formula)
take_word word waiting =
    cond (alike word (bytes "T")) (Some (True ∷ waiting))
    (cond (alike word (bytes "+")) (join_two and waiting)
    (cond (alike word (bytes ">")) (join_two implies waiting)
    (cond (alike word (bytes "S")) (quote said waiting)
    (cond (alike word (bytes "P")) (quote put waiting)
    (cond (is_name word) (Some (name word ∷ waiting)) None)))))

unfoldable pub read_words : List (List ℕ) → Option (List Formula)
read_words [] = Some []
read_words (word ∷ rest) = option_and_then (take_word word) (read_words rest)

unfoldable pub only_one : Option (List Formula) → Option Formula
only_one None = None
only_one (Some []) = None
only_one (Some (x ∷ [])) = Some x
only_one (Some (x ∷ (y ∷ waiting))) = None

-- the formula that stands in a text, if one does
unfoldable pub formula_of : List ℕ → Option Formula
formula_of text = only_one (read_words (tokens text))

-- "Two formulas are equal exactly when they are spelled alike": the test by structure, which the laws show to be the same
unfoldable pub same_told : Told → Told → Bool
same_told said said = true
same_told said put = false
same_told put said = false
same_told put put = true

unfoldable pub same_quotation : Quotation → Quotation → Bool
same_quotation p q = same_told p.told q.told && alike p.principal q.principal

unfoldable pub same : Formula → Formula → Bool
same True True = true
same True (name b) = false
same True (and z w) = false
same True (implies z w) = false
same True (quoted r z) = false
same (name a) True = false
same (name a) (name b) = alike a b
same (name a) (and z w) = false
same (name a) (implies z w) = false
same (name a) (quoted r z) = false
same (and x y) True = false
same (and x y) (name b) = false
same (and x y) (and z w) = same x z && same y w
same (and x y) (implies z w) = false
same (and x y) (quoted r z) = false
same (implies x y) True = false
same (implies x y) (name b) = false
same (implies x y) (and z w) = false
same (implies x y) (implies z w) = same x z && same y w
same (implies x y) (quoted r z) = false
same (quoted q x) True = false
same (quoted q x) (name b) = false
same (quoted q x) (and z w) = false
same (quoted q x) (implies z w) = false
same (quoted q x) (quoted r z) = same_quotation q r && same x z

-- "Each `T`, name used as a formula, `+`, `>`, `S` with its principal and `P` with its principal is one node."
unfoldable pub nodes : Formula → ℕ
nodes True = 1
nodes (name a) = 1
nodes (and x y) = suc (nodes x + nodes y)
nodes (implies x y) = suc (nodes x + nodes y)
nodes (quoted q x) = suc (nodes x)

-- "Depth of a node: the number of `S` and `P` nodes above it. We take a formula's quotation depth to be the greatest depth
-- of its nodes."
unfoldable pub depth : Formula → ℕ
depth True = 0
depth (name a) = 0
depth (and x y) = max (depth x) (depth y)
depth (implies x y) = max (depth x) (depth y)
depth (quoted q x) = suc (depth x)
