-- Which records of a journal are wanted, by their formulas' numbers: what the code goes through. The laws join it to the reasons.
use Rattle.std.specs.Prelude.{ℕ, zero, suc, ◌+◌, ◌*◌, ◌≡◌, Bool, cond, List, [], ◌∷◌, ◌++◌, length, get_or, set, eqb, Option, None, Some}
use Rattle.infon.specs.declared.Way.{Way}
use Rattle.infon.specs.declared.Record.{Record}
use Rattle.infon.specs.Journal.{record_bytes, first_premise, second_premise}
use Rattle.reader.specs.Decoded.{record_at}

-- the row of wanted numbers has this one
unfoldable pub is_wanted : List ℕ → ℕ → Bool
is_wanted wanted n = eqb (get_or wanted n 0) 1

-- the way's premises are wanted too; the mark for none is a number beyond the row
unfoldable pub wish : Way → List ℕ → List ℕ
wish way wanted = set (set wanted (first_premise way) 1) (second_premise way) 1

-- a record, if there is one and it is wanted
unfoldable pub only_wanted : List ℕ → Option Record → Option Record
only_wanted wanted None = None
only_wanted wanted (Some r) = cond (is_wanted wanted r.formula) (Some r) None

unfoldable pub wish_for : Option Record → List ℕ → List ℕ
wish_for None wanted = wanted
wish_for (Some r) wanted = wish r.way wanted

unfoldable pub one_of : Option Record → List Record
one_of None = []
one_of (Some r) = r ∷ []

-- the wanted record with a count, from 0, in the journal
abbrev pub wanted_at : List ℕ → List ℕ → ℕ → Option Record
wanted_at journal wanted i = only_wanted wanted (record_at journal (record_bytes * i))

-- From the last of the first i records to the first: what is wanted in the end, and how many of them were found wanted.
unfoldable pub swept_down : List ℕ → ℕ → List ℕ → List ℕ
swept_down journal zero wanted = wanted
swept_down journal (suc i) wanted = swept_down journal i (wish_for (wanted_at journal wanted i) wanted)

unfoldable pub found_down : List ℕ → ℕ → List ℕ → ℕ
found_down journal zero wanted = 0
found_down journal (suc i) wanted =
    length (one_of (wanted_at journal wanted i)) + found_down journal i (wish_for (wanted_at journal wanted i) wanted)

-- the wanted ones of the first i records
unfoldable pub wanted_to : List ℕ → List ℕ → ℕ → List Record
wanted_to journal wanted zero = []
wanted_to journal wanted (suc i) = wanted_to journal wanted i ++ one_of (wanted_at journal wanted i)

-- What going through the first `kept` records gives.
pub record Chooses (journal : List ℕ) (kept : ℕ) (wanted : List ℕ) (found : ℕ) (after : List ℕ) : Type 0 where
  pub counted : found ≡ found_down journal kept wanted
  pub wishes : after ≡ swept_down journal kept wanted
