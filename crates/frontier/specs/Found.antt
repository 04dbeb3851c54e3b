-- What a search for the next record in a covering set gives.
use Rattle.std.specs.Prelude.{ℕ, suc, ◌≤◌, ◌<◌, ◌≡◌, false, List, length, Option, None, Some}
use Rattle.infon.specs.declared.Record.{Record}
use Rattle.ways.specs.Search.{next_in}
use Rattle.members.specs.Members.{is_in}
use Rattle.frontier.specs.Touched.{CoversBut}

-- where the search stopped: behind the record's formula, or past all n
abbrev pub stop_of : ℕ → Option Record → ℕ
stop_of n (Some r) = suc r.formula
stop_of n None = n

-- The next record; and the members before the place where the search stopped are taken out, the others stay: but for the record's
-- formula the set still covers.
pub record Found (t : List ℕ) (n : ℕ) (marks before : List ℕ) (next : Option Record) (after : List ℕ) : Type 0 where
  pub is_next : next ≡ next_in t n marks
  pub long : length after ≡ length before
  pub covers : (r : Record) → next ≡ Some r → CoversBut t n marks after r.formula
  pub taken : (i : ℕ) → i < stop_of n next → is_in after i ≡ false
  pub stays : (i : ℕ) → stop_of n next ≤ i → is_in after i ≡ is_in before i
