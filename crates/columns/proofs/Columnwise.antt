-- What stands in the table once its columns are set.
-- Assumes nothing.
use Prim.Native.Nat.{ℕ, zero, suc, ◌+◌, ◌*◌, ◌≤◌, ◌<◌}
use native.Mathlib.Numerals.{add-one}
use native.Mathlib.Omega.{arith}
use mathlib.Core.Path.{◌≡◌, refl, ◌∙◌, ap}
use mathlib.Core.Logic.{⊎_elim}
use mathlib.Core.Bool.{true, false}
use mathlib.Core.List.{List, [], ◌∷◌}
use lib.ListN.{length, get_or}
use lib.Seq.{get_or-set_same, get_or-set_other}
use lib.Dec.{ltb}
use borrow.Author.Tests.{ltb-true, ltb-false}
use Rattle.std.proofs.lemmas.Bool.{cases_Bool}
use Rattle.formulas.specs.declared.Column.{Column}
use Rattle.formulas.specs.declared.Column.TheVariants.{Kind, Puts, Left, Right, Bottom, Hypothesis, Base}
use Rattle.formulas.specs.Columns.{column_number}
use Rattle.formulas.specs.Table.{table_rows, table_columns, table_cells, cell}
use Rattle.columns.specs.Columns.{column_of, with_column, filled_to, filled}
use Rattle.columns.proofs.Steps.{column_length}

-- the columns stand in the order of their numbers
pub in_order : (k : ℕ) (d : Column) → k < table_columns
    → column_number (get_or (Kind ∷ (Puts ∷ (Left ∷ (Right ∷ (Bottom ∷ (Hypothesis ∷ (Base ∷ []))))))) k d) ≡ k
in_order zero d h = refl
in_order (suc zero) d h = refl
in_order (suc (suc zero)) d h = refl
in_order (suc (suc (suc zero))) d h = refl
in_order (suc (suc (suc (suc zero)))) d h = refl
in_order (suc (suc (suc (suc (suc zero))))) d h = refl
in_order (suc (suc (suc (suc (suc (suc zero)))))) d h = refl
in_order (suc (suc (suc (suc (suc (suc (suc k))))))) d h = absurd (omega arith)

module _ (column : ℕ) (f : ℕ → ℕ) (before : List ℕ) where
  pub column_other : (n k i : ℕ) → n ≤ table_rows → i < table_rows → (k ≡ column → n ≤ i)
      → cell (with_column column f n before) k i ≡ cell before k i
  unfolding with_column
  column_other zero k i few row behind = refl
  column_other (suc n) k i few row behind =
      get_or-set_other (with_column column f n before) (column * table_rows + n) (k * table_rows + i) (f n) 0 apart
      ∙ column_other n k i (omega arith) row (λ e. let h = behind e in omega arith)
    where
      apart : k * table_rows + i ≡ column * table_rows + n → ⊥
      apart e =
          let same : k ≡ column = omega arith in
          let h = behind same in
          omega arith

  pub column_cell : (n i : ℕ) → n ≤ table_rows → column * table_rows + n ≤ length before → i < n
      → cell (with_column column f n before) column i ≡ f i
  unfolding with_column
  column_cell zero i few room h = absurd (omega arith)
  column_cell (suc n) i few room h =
      ⊎_elim
      (λ (less : ltb i n ≡ true).
      get_or-set_other (with_column column f n before) (column * table_rows + n) (column * table_rows + i) (f n) 0
      (λ e. let less' = ltb-true i n less in omega arith)
      ∙ column_cell n i (omega arith) (omega arith) (ltb-true i n less))
      (λ (more : ltb i n ≡ false).
      let e : i ≡ n = omega (arith, ltb-false i n more) in
      rw e
      (get_or-set_same (with_column column f n before) (column * table_rows + n) (f n) 0 (omega (arith, column_length column f n before))))
      (cases_Bool (ltb i n))

-- The table that `fill_columns` leaves, column by column.
module _ (t cand keys owners : List ℕ) (n : ℕ) (table : List ℕ) where
  abbrev up_to : ℕ → List ℕ
  up_to c = filled_to c t cand keys owners n table

  abbrev column : ℕ → ℕ → ℕ
  column = column_of t cand keys owners

  pub length_to : (c : ℕ) → length (up_to c) ≡ length table
  unfolding filled_to
  length_to zero = refl
  length_to (suc c) = column_length c (column c) n (up_to c) ∙ length_to c

  -- one more column, and all of them
  pub columns_turn : (c : ℕ) (so_far next : List ℕ) → so_far ≡ up_to c → next ≡ with_column c (column c) n so_far → next ≡ up_to (c + 1)
  unfolding filled_to
  columns_turn c so_far next e set_is = rw (set_is, e, add-one c)

  pub columns_over : (c : ℕ) (last : List ℕ) → last ≡ up_to c → c ≤ table_columns → table_columns ≤ c → last ≡ filled t cand keys owners n table
  unfolding filled
  columns_over c last e low high =
      let all : c ≡ table_columns = omega arith in
      e ∙ ap up_to all

  cell_to : n ≤ table_rows → table_cells ≤ length table → (c k i : ℕ) → c ≤ table_columns → k < c → i < n → cell (up_to c) k i ≡ column k i
  unfolding filled_to
  cell_to few long zero k i room below h = absurd (omega arith)
  cell_to few long (suc c) k i room below h =
      ⊎_elim
      (λ (less : ltb k c ≡ true).
      let earlier = ltb-true k c less in
      column_other c (column c) (up_to c) n k i few (omega arith) (λ e. absurd (omega arith)) ∙ cell_to few long c k i (omega arith) earlier h)
      (λ (more : ltb k c ≡ false).
      let e : k ≡ c = omega (arith, ltb-false k c more) in
      rw e (column_cell c (column c) (up_to c) n i few (omega (arith, length_to c)) h))
      (cases_Bool (ltb k c))

  others_to : (c k i : ℕ) → i < table_rows → n ≤ i → cell (up_to c) k i ≡ cell table k i
  unfolding filled_to
  others_to zero k i row behind = refl
  others_to (suc c) k i row behind =
      column_other c (column c) (up_to c) n k i (omega arith) row (λ e. behind) ∙ others_to c k i row behind

  pub filled_length : length (filled t cand keys owners n table) ≡ length table
  unfolding filled
  filled_length = length_to table_columns

  pub filled_cell : n ≤ table_rows → table_cells ≤ length table → (k i : ℕ) → k < table_columns → i < n
      → cell (filled t cand keys owners n table) k i ≡ column k i
  unfolding filled
  filled_cell few long k i = cell_to few long table_columns k i (omega arith)

  pub filled_others : (k i : ℕ) → i < table_rows → n ≤ i → cell (filled t cand keys owners n table) k i ≡ cell table k i
  unfolding filled
  filled_others = others_to table_columns
