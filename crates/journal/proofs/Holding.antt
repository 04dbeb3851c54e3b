-- Where the table and the marks hold a list and its records, the kept part over them is the paper's; and the marks with those of
-- more good records hold these too.
-- Assumes nothing.
use Prim.Native.Nat.{ℕ, ◌/◌, ◌≤◌, ◌<◌}
use native.Mathlib.Omega.{arith}
use mathlib.Core.Path.{◌≡◌, refl, sym, ◌∙◌}
use mathlib.Core.Logic.{⊎_elim}
use mathlib.Core.Bool.{true, false, false≢true}
use Rattle.std.proofs.lemmas.Bool.{cases_Bool}
use Rattle.std.specs.Prelude.{Option, None, Some}
use mathlib.Core.List.{List, [], ◌∷◌, ◌++◌, append-nil, append_assoc}
use lib.ListN.{length, get_or, set, length-set, replicate, length-replicate, get_or-replicate}
use lib.Seq.{get_or-set_same, get_or-set_other}
use lib.Dec.{eqb}
use borrow.Author.Tests.{eqb-true, eqb-false}
use Rattle.infon.specs.declared.Record.{Record}
use Rattle.infon.specs.Bytes.{some_of}
use Rattle.infon.specs.Formula.{Formula}
use Rattle.infon.specs.Journal.{is_recorded, is_good, decoded, whole_records, record_bytes, followed, only_good, kept_after, kept_of}
use Rattle.infon.proofs.Grown.{GoodRow, stop, more, kept_good}
use Rattle.infon.proofs.Missing.{recorded_now, recorded_other}
use Rattle.formulas.specs.Table.{table_rows, flag, Tabled}
use Rattle.formulas.specs.Tests.{Held}
use Rattle.formulas.proofs.Given.{good_below, good_in_lem}
use Rattle.journal.specs.Kept.{mark_all, only_good_in, kept_by, kept_in, Keeps}

module _ (hyps fs : List Formula) (t : List ℕ) (n : ℕ) where
  -- the marks with that of one more good record
  pub held_more : (done : List Record) (marks : List ℕ) (r : Record) → Held hyps fs done t n marks → is_good hyps fs done r ≡ true
      → Held hyps fs (done ++ (r ∷ [])) t n (set marks r.formula 1)
  unfolding flag
  held_more done marks r held good =
      let low : r.formula < n = good_below t n marks r (sym (good_in_lem hyps fs done t n marks r held) ∙ good) in
      let long : table_rows ≤ length marks = held.marks_are.long in
      let few : length fs ≤ table_rows = held.table.few in
      let count = held.count in
      record {
        count = held.count;
        table = held.table;
        marks_are =
            record {
              long = rw length-set long;
              marked =
                  λ i h.
                  ⊎_elim
                  (λ (e : eqb i r.formula ≡ true).
                  let same = eqb-true i r.formula e in
                  rw (same, recorded_now done r) (get_or-set_same marks r.formula 1 0 (omega arith)))
                  (λ (e : eqb i r.formula ≡ false).
                  let apart = eqb-false i r.formula e in
                  rw (recorded_other i done r apart) (get_or-set_other marks r.formula i 1 0 apart ∙ held.marks_are.marked i h))
                  (cases_Bool (eqb i r.formula));
            };
        below =
            λ i h.
            ⊎_elim
            (λ (e : eqb i r.formula ≡ true). let same = eqb-true i r.formula e in omega arith)
            (λ (e : eqb i r.formula ≡ false). held.below i (sym (recorded_other i done r (eqb-false i r.formula e)) ∙ h))
            (cases_Bool (eqb i r.formula));
      }

  -- the marks with those of a row of good records
  pub held_row : (done xs : List Record) (marks : List ℕ) → GoodRow hyps fs done xs → Held hyps fs done t n marks
      → Held hyps fs (done ++ xs) t n (mark_all marks xs)
  unfolding mark_all
  held_row done xs marks (stop _) held = rw append-nil held
  held_row done xs marks (more _ r rest good later) held =
      rw append_assoc at (held_row (done ++ (r ∷ [])) rest (set marks r.formula 1) later (held_more done marks r held good))

  -- no mark, no record
  pub held_none : (marks : List ℕ) → Tabled hyps fs t → length fs ≡ n → table_rows ≤ length marks → ((i : ℕ) → i < n → get_or marks i 0 ≡ 0)
      → Held hyps fs [] t n marks
  unfolding flag is_recorded some_of
  held_none marks tabled count long zeros =
      record {
        count = count;
        table = tabled;
        marks_are = record { long = long; marked = zeros };
        below = λ i h. absurd (false≢true h);
      }

  pub held_zeros : (m : ℕ) → Tabled hyps fs t → length fs ≡ n → table_rows ≤ m → Held hyps fs [] t n (replicate m 0)
  held_zeros m tabled count long =
      let few : length fs ≤ table_rows = tabled.few in
      held_none (replicate m 0) tabled count (rw length-replicate long) (λ i h. get_or-replicate m i 0 0 (omega arith))

  pub kept_after_lem : (rows : List (List ℕ)) (done : List Record) (marks : List ℕ) → Held hyps fs done t n marks
      → kept_by t n marks rows ≡ kept_after hyps fs done rows
  unfolding kept_by kept_after only_good_in only_good followed
  kept_after_lem [] done marks held = refl
  kept_after_lem (s ∷ rest) done marks held =
      each (decoded s)
      (λ r good. kept_after_lem rest (done ++ (r ∷ [])) (set marks r.formula 1) (held_more done marks r held good))
    where
      each : (o : Option Record)
          → ((r : Record) → is_good hyps fs done r ≡ true
          → kept_by t n (set marks r.formula 1) rest ≡ kept_after hyps fs (done ++ (r ∷ [])) rest)
          → followed (only_good_in t n marks o) (λ (r : Record). kept_by t n (set marks r.formula 1) rest)
          ≡ followed (only_good hyps fs done o) (λ (r : Record). kept_after hyps fs (done ++ (r ∷ [])) rest)
      each None later = refl
      each (Some r) later =
          ⊎_elim
          (λ (good : is_good hyps fs done r ≡ true). rw (← good_in_lem hyps fs done t n marks r held, good, later r good))
          (λ (bad : is_good hyps fs done r ≡ false). rw (← good_in_lem hyps fs done t n marks r held, bad))
          (cases_Bool (is_good hyps fs done r))

  -- the kept part over the table is the paper's, and its marks hold it
  pub kept_of_lem : (journal : List ℕ) (used : ℕ) (marks : List ℕ) → Held hyps fs [] t n marks
      → kept_in t n marks journal used ≡ kept_of hyps fs journal used
  unfolding kept_in kept_of
  kept_of_lem journal used marks held = kept_after_lem (whole_records (used / record_bytes) journal) [] marks held

  pub kept_held : (journal : List ℕ) (used : ℕ) (marks : List ℕ) → Held hyps fs [] t n marks
      → Held hyps fs (kept_of hyps fs journal used) t n (mark_all marks (kept_in t n marks journal used))
  unfolding kept_of
  kept_held journal used marks held =
      rw (kept_of_lem journal used marks held)
      (held_row [] (kept_of hyps fs journal used) marks (kept_good hyps fs [] (whole_records (used / record_bytes) journal)) held)

-- going through the same journal with the same table and marks, two runs give the same count and the same marks
pub keeps_once : {t : List ℕ} {n : ℕ} {journal : List ℕ} {used : ℕ} {marks : List ℕ} {count count₂ : ℕ} {after after₂ : List ℕ}
    → Keeps t n journal used marks count after → Keeps t n journal used marks count₂ after₂ → (count ≡ count₂) × (after ≡ after₂)
keeps_once one two = (one.counted ∙ sym two.counted, one.marked ∙ sym two.marked)
