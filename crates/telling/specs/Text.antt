-- What a lender desk is told of a query: the reasons behind a yes, one to a line, each with where it comes from; what a no lacks; or that
-- it is still open.
use Rattle.std.specs.Prelude.{ℕ, suc, cond, ◌&&◌, List, [], ◌∷◌, ◌++◌, eqb}
use Rattle.infon.specs.declared.Way.{Way}
use Rattle.infon.specs.declared.Way.TheVariants.{Hypothesis, Given, Weaken, Left, Right, Both, Apply, Attach}
use Rattle.infon.specs.declared.Record.{Record}
use Rattle.infon.specs.Bytes.{bytes, line_feed}
use Rattle.infon.specs.Formula.{Formula, same}
use Rattle.infon.specs.Policy.{Entry}
use Rattle.infon.specs.Rules.{Shape, truth, primitive, conjunction, implication, shape_of, weakenings, numbered}
use Rattle.infon.specs.Run.{is_on_record}
use Rattle.infon.specs.Reasons.{reasons}
use Rattle.writing.specs.Texts.{decimal_of}
use Rattle.wording.specs.Words.{in_words}
use Rattle.facts.specs.Facts.{fact_line}

-- ---- A yes

-- where the record for a number stands in a row, counted from 1
unfoldable pub place_in : ℕ → List Record → ℕ
place_in p [] = 1
place_in p (r ∷ row) =
    let later = place_in p row in
    cond (eqb p r.formula) 1 (suc later)

-- where a record comes from: a line of the file, or earlier records, by their places
unfoldable pub reason_by : ℕ → (ℕ → ℕ) → Way → List ℕ
reason_by line place Hypothesis = bytes "line " ++ (decimal_of line ++ bytes " of the file")
reason_by line place Given = bytes "true in itself"
reason_by line place (Weaken p) = bytes "from " ++ (decimal_of (place p) ++ bytes ", as who says a thing has also put it")
reason_by line place (Left p) = bytes "part of " ++ decimal_of (place p)
reason_by line place (Right p) = bytes "part of " ++ decimal_of (place p)
reason_by line place (Both p q) = bytes "from " ++ (decimal_of (place p) ++ (bytes " and " ++ (decimal_of (place q) ++ bytes " together")))
reason_by line place (Apply p q) = bytes "from " ++ (decimal_of (place p) ++ (bytes " by " ++ decimal_of (place q)))
reason_by line place (Attach p) = bytes "from " ++ (decimal_of (place p) ++ bytes ", whatever the condition")

-- a line for a record: its count, where it comes from, and its formula
unfoldable pub record_words : ℕ → (ℕ → ℕ) → Formula → ℕ → Way → List ℕ
record_words line place x k way =
    decimal_of k ++ (bytes ". " ++ (reason_by line place way ++ (bytes ": " ++ (in_words x ++ bytes "\n"))))

unfoldable pub record_line : List Entry → List Formula → List Record → ℕ → Record → List ℕ
record_line es fs row k r =
    let x = numbered fs r.formula in
    record_words (fact_line x es) (λ (p : ℕ). place_in p row) x k r.way

unfoldable pub record_lines : List Entry → List Formula → List Record → ℕ → List Record → List ℕ
record_lines es fs row k [] = []
record_lines es fs row k (r ∷ rest) = record_line es fs row k r ++ record_lines es fs row (suc k) rest

unfoldable pub yes_text : List Entry → List Formula → List Record → Formula → List ℕ
yes_text es fs kept x =
    let row = reasons fs x kept in
    in_words x ++ (bytes ": yes, because" ++ (line_feed ∷ record_lines es fs row 1 row))

-- ---- A no

-- the weaker forms of a formula that are on record: the first, if there is one
unfoldable pub weaker_on : List Formula → List Record → List Formula → List ℕ
weaker_on fs kept [] = []
weaker_on fs kept (y ∷ rest) =
    let later = weaker_on fs kept rest in
    cond (is_on_record fs kept y) (bytes "   on record is only: " ++ (in_words y ++ (bytes ", which is weaker" ++ (line_feed ∷ [])))) later

-- a formula that is not on record, and the weaker form that is
unfoldable pub missing_text : List Formula → List Record → Formula → List ℕ
missing_text fs kept y =
    bytes "   not on record: " ++ (in_words y ++ (line_feed ∷ weaker_on fs kept (weakenings y)))

-- the same where it is not on record, and nothing where it is
unfoldable pub part_text : List Formula → List Record → Formula → List ℕ
part_text fs kept y = cond (is_on_record fs kept y) [] (missing_text fs kept y)

-- a rule on record that ends in the question: what it asks
unfoldable pub rule_text : List Formula → List Record → Formula → Formula → Shape → List ℕ
rule_text fs kept x f truth = []
rule_text fs kept x f primitive = []
rule_text fs kept x f (conjunction l r) = []
rule_text fs kept x f (implication l r) =
    cond (same x r && is_on_record fs kept f) (bytes "it would follow by: " ++ (in_words f ++ (line_feed ∷ part_text fs kept l))) []

unfoldable pub rules_text : List Formula → List Record → Formula → List Formula → List ℕ
rules_text fs kept x [] = []
rules_text fs kept x (f ∷ rest) = rule_text fs kept x f (shape_of f) ++ rules_text fs kept x rest

-- the parts of a question that are not on record
unfoldable pub parts_text : List Formula → List Record → Shape → List ℕ
parts_text fs kept truth = []
parts_text fs kept primitive = []
parts_text fs kept (conjunction l r) = bytes "it would follow from both its parts" ++ (line_feed ∷ (part_text fs kept l ++ part_text fs kept r))
parts_text fs kept (implication l r) = bytes "it would follow from its conclusion" ++ (line_feed ∷ missing_text fs kept r)

-- what is said where nothing else is
unfoldable pub or_nothing : List ℕ → List ℕ
or_nothing [] = bytes "nothing on record leads to it" ++ (line_feed ∷ [])
or_nothing (b ∷ text) = b ∷ text

unfoldable pub no_text : List Formula → List Record → Formula → List ℕ
no_text fs kept x =
    in_words x ++ (bytes ": no" ++ (line_feed ∷ or_nothing (rules_text fs kept x fs ++ parts_text fs kept (shape_of x))))

-- ---- Open

unfoldable pub open_text : Formula → List ℕ
open_text x = in_words x ++ (bytes ": open, so run the night on this journal again and ask then" ++ (line_feed ∷ []))
