-- What a set must hold so that the next record is found in it, and what is put in as a formula is recorded.
use Rattle.std.specs.Prelude.{ℕ, zero, suc, ◌≡◌, true, cond, List, [], ◌∷◌, ◌++◌, eqb}
use Rattle.infon.specs.declared.Way.TheVariants.{Hypothesis, Given, Weaken, Left, Right, Both, Apply, Attach}
use Rattle.infon.specs.declared.Record.{Record}
use Rattle.formulas.specs.Table.{cell}
use Rattle.formulas.specs.Tests.{left_at, right_at, bottom_at, is_marked, good_in}
use Rattle.members.specs.Members.{is_in, with_number}

-- The set holds every formula that is not marked and has a way now. What else it holds costs time and never truth.
abbrev pub Covers : List ℕ → ℕ → List ℕ → List ℕ → Type 0
Covers t n marks cover = (r : Record) → good_in t n marks r ≡ true → is_in cover r.formula ≡ true

-- the same but for one formula
abbrev pub CoversBut : List ℕ → ℕ → List ℕ → List ℕ → ℕ → Type 0
CoversBut t n marks cover f = (r : Record) → good_in t n marks r ≡ true → (r.formula ≡ f → ⊥) → is_in cover r.formula ≡ true

-- the set with the formula of a record, of each of a row of records, that is good now
unfoldable pub wanted : List ℕ → ℕ → List ℕ → List ℕ → Record → List ℕ
wanted t n marks cover r = cond (good_in t n marks r) (with_number cover r.formula) cover

unfoldable pub wanted_all : List ℕ → ℕ → List ℕ → List ℕ → List Record → List ℕ
wanted_all t n marks cover [] = cover
wanted_all t n marks cover (r ∷ rest) = wanted_all t n marks (wanted t n marks cover r) rest

-- the records by rules 4 and 5 that f as a conjunction may give
unfoldable pub parts_by : List ℕ → ℕ → List Record
parts_by t f = record { formula = cell t left_at f; way = Left f } ∷ (record { formula = cell t right_at f; way = Right f } ∷ [])

-- the records by rules 6, 8 and 7 that a whole may give: itself from its parts, and what it ends in as an implication
unfoldable pub whole_by : List ℕ → ℕ → List Record
whole_by t g =
    record { formula = g; way = Both (cell t left_at g) (cell t right_at g) }
    ∷ (record { formula = g; way = Attach (cell t right_at g) }
    ∷ (record { formula = cell t right_at g; way = Apply (cell t left_at g) g } ∷ []))

-- the records that f and a g of one of its chains may give: g weakened from f where they share a bottom, else those of the whole
unfoldable pub meeting : List ℕ → ℕ → ℕ → ℕ → List Record
meeting t column f g = cond (eqb column bottom_at) (record { formula = g; way = Weaken f } ∷ []) (whole_by t g)

-- those of f and each g from i on, count of them, that has x in a column
unfoldable pub along : List ℕ → ℕ → ℕ → ℕ → ℕ → ℕ → List Record
along t column x f i zero = []
along t column x f i (suc count) =
    cond (eqb (cell t column i) x) (meeting t column f i ++ along t column x f (suc i) count) (along t column x f (suc i) count)

-- every record that has f as a premise is one of these
unfoldable pub touching : List ℕ → ℕ → ℕ → List Record
touching t n f =
    parts_by t f
    ++ (whole_by t f
    ++ (along t left_at f f 0 n ++ (along t right_at f f 0 n ++ along t bottom_at (cell t bottom_at f) f 0 n)))

-- the records without a premise, and those of a premise that is marked
unfoldable pub taking_in : List ℕ → ℕ → List ℕ → ℕ → List Record
taking_in t n marks i =
    record { formula = i; way = Hypothesis }
    ∷ (record { formula = i; way = Given } ∷ cond (is_marked n marks i) (touching t n i) [])

unfoldable pub taking_all : List ℕ → ℕ → List ℕ → ℕ → ℕ → List Record
taking_all t n marks i zero = []
taking_all t n marks i (suc count) = taking_in t n marks i ++ taking_all t n marks (suc i) count
