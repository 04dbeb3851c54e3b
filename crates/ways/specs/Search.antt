-- The least way to a formula and the next record, over the formula table and the marks.
use Rattle.std.specs.Prelude.{ℕ, cond, ◌&&◌, List, eqb, leb, Option, None, Some}
use Rattle.infon.specs.declared.Way.{Way}
use Rattle.infon.specs.declared.Way.TheVariants.{Weaken, Left, Right}
use Rattle.infon.specs.declared.Record.{Record}
use Rattle.infon.specs.Bytes.{first_of}
use Rattle.infon.specs.Journal.{numbers_from, each_pair, all_ways, all_records}
use Rattle.formulas.specs.Table.{cell}
use Rattle.formulas.specs.Tests.{kind_at, left_at, is_marked, leads_to, good_in}
use Rattle.links.specs.declared.Chain.{Chain}
use Rattle.links.specs.declared.Chain.TheVariants as Of

-- the way by the rule that a chain is for
abbrev pub way_by : Chain → ℕ → Way
way_by Of.Left p = Left p
way_by Of.Right p = Right p
way_by Of.Bottom p = Weaken p

-- the least of some ways that leads to f now
unfoldable pub least_among : List Way → List ℕ → ℕ → List ℕ → ℕ → Option Way
least_among ways t n marks f = first_of (leads_to t n marks f) ways

-- the ways with two premises, the first weighing most
unfoldable pub pairs_of : (ℕ → ℕ → Way) → ℕ → List Way
pairs_of rule n = each_pair rule (numbers_from 0 n) (numbers_from 0 n)

-- all ways to f
unfoldable pub least_way_in : List ℕ → ℕ → List ℕ → ℕ → Option Way
least_way_in t n marks f = least_among (all_ways (numbers_from 0 n)) t n marks f

-- all ways to f, if f is not marked itself
unfoldable pub due_way_in : List ℕ → ℕ → List ℕ → ℕ → Option Way
due_way_in t n marks f =
    first_of (λ (way : Way). good_in t n marks (record { formula = f; way = way })) (all_ways (numbers_from 0 n))

-- the next record, if any
unfoldable pub next_in : List ℕ → ℕ → List ℕ → Option Record
next_in t n marks = first_of (good_in t n marks) (all_records n)

-- rule 7: the condition of a marked implication, where it is marked itself
unfoldable pub condition_in : List ℕ → ℕ → List ℕ → ℕ → Option ℕ
condition_in t n marks q =
    cond (is_marked n marks q && eqb (cell t kind_at q) 3 && is_marked n marks (cell t left_at q)) (Some (cell t left_at q)) None

-- the least pair of premises, the first weighing most, after an implication q whose condition is p
unfoldable pub better_of : Option (ℕ × ℕ) → ℕ → ℕ → Option (ℕ × ℕ)
better_of None p q = Some (p, q)
better_of (Some (first, second)) p q = cond (leb first p) (Some (first, second)) (Some (p, q))
