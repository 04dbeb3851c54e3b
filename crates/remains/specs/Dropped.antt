-- What a call does not keep of a journal's used bytes.
use Rattle.std.specs.Prelude.{ℕ, ◌*◌, ◌/◌, ◌%◌, Bool, cond, ◌&&◌, List, take, drop, get_or, eqb, ltb, leb}
use Rattle.infon.specs.Journal.{record_bytes, mark_high, mark_low}
use Rattle.remains.specs.declared.Dropped.{Dropped}
use Rattle.remains.specs.declared.Dropped.TheVariants.{Nothing, Torn, More}

-- the used bytes behind the last whole record
unfoldable pub rest_of : List ℕ → ℕ → List ℕ
rest_of journal used = drop (record_bytes * (used / record_bytes)) (take used journal)

-- they begin as a record does, as far as they go: the first two are the mark, and the third is a rule from 1 to 8
unfoldable pub is_begun : List ℕ → Bool
is_begun rest =
    eqb (get_or rest 0 mark_high) mark_high && eqb (get_or rest 1 mark_low) mark_low && (leb 1 (get_or rest 2 1) && leb (get_or rest 2 1) 8)

-- What is not kept of so many used bytes, where so many records are kept and the bytes behind the last whole record begin as a record
-- does, or do not: 0 nothing, 1 a last record that was cut off and nothing else, 2 more than that.
unfoldable pub dropped_by : ℕ → ℕ → Bool → ℕ
dropped_by used kept begun = cond (ltb kept (used / record_bytes)) 2 (cond (eqb (used % record_bytes) 0) 0 (cond begun 1 2))

-- these numbers, by name
abbrev pub number_of : Dropped → ℕ
number_of Nothing = 0
number_of Torn = 1
number_of More = 2

-- what a call that keeps so many records does not keep of the journal's used bytes
unfoldable pub dropped_of : List ℕ → ℕ → ℕ → ℕ
dropped_of journal used kept = dropped_by used kept (is_begun (rest_of journal used))
