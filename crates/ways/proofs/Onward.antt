-- The next record, one number after another: the first that has a way is its formula. The next record over table and marks is the
-- paper's.
-- Assumes nothing.
use Prim.Native.Nat.{ℕ, suc, ◌+◌, ◌-◌, ◌≤◌, ◌<◌}
use mathlib.Core.Path.{◌≡◌, sym, ◌∙◌, ap}
use Rattle.std.specs.Prelude.{Option, None, Some}
use mathlib.Core.List.{List, ◌++◌, map}
use native.Mathlib.Numerals.{add-one}
use native.Mathlib.Omega.{arith}
use lib.ListN.{length}
use Rattle.infon.specs.declared.Way.{Way}
use Rattle.infon.specs.declared.Record.{Record}
use Rattle.infon.specs.Formula.{Formula}
use Rattle.infon.specs.Bytes.{first_of}
use Rattle.infon.specs.Journal.{is_good, numbers_from, all_ways, records_for, all_records, next}
use Rattle.formulas.specs.Tests.{good_in, Held}
use Rattle.formulas.proofs.Given.{good_in_lem}
use Rattle.ways.specs.Search.{due_way_in, next_in}
use Rattle.ways.proofs.Firsts.{nothing, alike_first, append_found, append_none, map_found, map_none}

-- the first good record for the numbers from f on
unfoldable pub next_from : List ℕ → ℕ → List ℕ → ℕ → Option Record
next_from t n marks f = first_of (good_in t n marks) (records_for (all_ways (numbers_from 0 n)) (numbers_from f (n - f)))

module _ (t : List ℕ) (n : ℕ) (marks : List ℕ) where
  pub onward_begins : next_in t n marks ≡ next_from t n marks 0
  unfolding next_in next_from all_records
  onward_begins = let e : n - 0 ≡ n = omega arith in rw e

  abbrev block : ℕ → List Record
  block f = map (λ (way : Way). record { formula = f; way = way }) (all_ways (numbers_from 0 n))

  block_first : (f : ℕ) → f < n
      → next_from t n marks f
      ≡ first_of (good_in t n marks) (block f ++ records_for (all_ways (numbers_from 0 n)) (numbers_from (suc f) (n - suc f)))
  unfolding next_from numbers_from records_for
  block_first f h = let e : n - f ≡ suc (n - suc f) = omega arith in rw e

  pub onward_found : (f : ℕ) {r : Option Way} {way : Way} → f < n → r ≡ due_way_in t n marks f → r ≡ Some way
      → next_from t n marks f ≡ Some (record { formula = f; way = way })
  unfolding due_way_in
  onward_found f {r} {way} h e due =
      let ways = all_ways (numbers_from 0 n) in
      block_first f h
      ∙ append_found (good_in t n marks) (block f) (records_for ways (numbers_from (suc f) (n - suc f)))
      (map_found (good_in t n marks) (λ (w : Way). record { formula = f; way = w }) ways
      (sym e ∙ due))

  pub onward_goes_on : (f : ℕ) {r : Option Way} → f < n → r ≡ due_way_in t n marks f → r ≡ None
      → next_from t n marks f ≡ next_from t n marks (f + 1)
  unfolding due_way_in next_from
  onward_goes_on f {r} h e missing =
      let ways = all_ways (numbers_from 0 n) in
      block_first f h
      ∙ (append_none (good_in t n marks) (block f) (records_for ways (numbers_from (suc f) (n - suc f)))
      (map_none (good_in t n marks) (λ (w : Way). record { formula = f; way = w }) ways
      (sym e ∙ missing))
      ∙ ap (λ (g : ℕ). first_of (good_in t n marks) (records_for ways (numbers_from g (n - g)))) (sym (add-one f)))

  pub onward_over : (f : ℕ) → n ≤ f → next_from t n marks f ≡ None
  unfolding next_from numbers_from records_for
  onward_over f h = let e : n - f ≡ 0 = omega arith in rw e (nothing (good_in t n marks))

-- the next record over a table and marks that hold a list and its records is the paper's
pub next_in_lem : (hyps fs : List Formula) (done : List Record) (t : List ℕ) (n : ℕ) (marks : List ℕ) → Held hyps fs done t n marks
    → next hyps fs done ≡ next_in t n marks
unfolding next next_in
next_in_lem hyps fs done t n marks held =
    alike_first (is_good hyps fs done) (good_in t n marks) (all_records (length fs))
    (λ r. good_in_lem hyps fs done t n marks r held)
    ∙ ap (λ (m : ℕ). first_of (good_in t n marks) (all_records m)) held.count
