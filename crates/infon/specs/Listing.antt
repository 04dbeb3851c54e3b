-- 01, "The list of formulas that matter", and code 5.
use Rattle.std.specs.Prelude.{ℕ, Bool, cond, List, [], ◌∷◌, ◌++◌, map, length, ltb, flat_map}
use Rattle.infon.specs.Bytes.{some_of}
use Rattle.infon.specs.Formula.{Told, said, put, Quotation, Formula, True, name, and, implies, quoted, same}
use Rattle.infon.specs.Codes.{when, and_then, Verdict, passed}
use Rattle.infon.specs.Policy.{Entry, formula_in}

-- A prefix, "the row of quotations above" a base. It is kept from the innermost place to the outermost, as a walk down into a
-- formula meets them: each quotation that is passed goes in front. Document 01 writes it the other way round, which
-- `Calculus.under` renders; the laws join the two.
abbrev pub Prefix : Type 0
Prefix = List Quotation

-- the formula x under a prefix
unfoldable pub wrap : Prefix → Formula → Formula
wrap [] x = x
wrap (q ∷ outer) x = wrap outer (quoted q x)

-- "A weaker prefix has the same principals and `put` at some places where the other has `said`"; "`said` before `put`, the
-- outermost place weighing most". The prefix itself comes first.
unfoldable pub weaker_told : Told → List Told
weaker_told said = said ∷ (put ∷ [])
weaker_told put = put ∷ []

unfoldable pub inside : Quotation → List Told → Prefix → List Prefix
inside q kinds outer = map (λ (told : Told). record { told = told; principal = q.principal } ∷ outer) kinds

unfoldable pub inside_each : Quotation → List Prefix → List Prefix
inside_each q outers = flat_map (λ (outer : Prefix). inside q (weaker_told q.told) outer) outers

unfoldable pub weaker_prefixes : Prefix → List Prefix
weaker_prefixes [] = [] ∷ []
weaker_prefixes (q ∷ outer) = inside_each q (weaker_prefixes outer)

-- "For each, list every weaker prefix followed by the base"
unfoldable pub weakened : Prefix → Formula → List Formula
weakened pref base = map (λ (w : Prefix). wrap w base) (weaker_prefixes pref)

-- "A base is a node that is not a quotation." "Take all bases in order of their first byte": operator first is first byte first.
unfoldable pub weakened_bases : Prefix → Formula → List Formula
weakened_bases pref True = weakened pref True
weakened_bases pref (name a) = weakened pref (name a)
weakened_bases pref (and x y) = weakened pref (and x y) ++ (weakened_bases pref x ++ weakened_bases pref y)
weakened_bases pref (implies x y) = weakened pref (implies x y) ++ (weakened_bases pref x ++ weakened_bases pref y)
weakened_bases pref (quoted q x) = weakened_bases (q ∷ pref) x

-- "Skip what has been listed already."
unfoldable pub is_listed : Formula → List Formula → Bool
is_listed x fs = some_of (same x) fs

unfoldable pub enlist : List Formula → List Formula → List Formula
enlist fs [] = fs
enlist fs (x ∷ rest) = enlist (cond (is_listed x fs) fs (fs ++ (x ∷ []))) rest

-- "numbered from 0 as they are listed": a formula's number is its place in this row
unfoldable pub list_from : List Formula → List Entry → List Formula
list_from fs [] = fs
list_from fs (e ∷ rest) = list_from (enlist fs (weakened_bases [] (formula_in e.sentence))) rest

unfoldable pub list_of : List Entry → List Formula
list_of entries = list_from [] entries

-- 5: "L is over 4,096", "start of the line whose base first needs number 4,096"
unfoldable pub most_listed : ℕ
most_listed = 4096

unfoldable pub code5_from : List Formula → List Entry → Verdict
code5_from fs [] = passed
code5_from fs (e ∷ rest) =
    let now = enlist fs (weakened_bases [] (formula_in e.sentence)) in
    and_then (when (ltb most_listed (length now)) 5 e.start) (code5_from now rest)

unfoldable pub code5 : List Entry → Verdict
code5 entries = code5_from [] entries
