-- Going through the journal, one record after the other: one law for each way that the loop goes on or ends.
-- Assumes nothing.
use Prim.Native.Nat.{ℕ, suc, ◌+◌, ◌*◌, ◌-◌, ◌/◌, ◌≤◌, ◌<◌}
use native.Mathlib.Nat.{zero-add}
use native.Mathlib.Omega.{arith}
use mathlib.Core.Path.{◌≡◌, refl, sym, ◌∙◌, ap}
use mathlib.Core.Bool.{true, false}
use Rattle.std.specs.Prelude.{None, Some}
use mathlib.Core.List.{List, [], ◌∷◌}
use lib.ListN.{length, take, drop, set, length-set, length-drop}
use lib.Seq.{drop-drop}
use borrow.Author.Tests.{le-ltb}
use Rattle.infon.specs.declared.Record.{Record}
use Rattle.infon.specs.Journal.{whole_records, followed, decoded}
use Rattle.formulas.specs.Tests.{good_in}
use Rattle.reader.specs.Decoded.{record_at}
use Rattle.journal.specs.Kept.{mark_all, only_good_in, kept_by, kept_in, Keeps}

-- the nine bytes of a record
abbrev row_at : List ℕ → ℕ → List ℕ
row_at journal kept = take 9 (drop (kept * 9) journal)

-- the whole records from a place on
unfoldable pub rows_from : List ℕ → ℕ → ℕ → List (List ℕ)
rows_from journal used kept = whole_records (used / 9 - kept) (drop (kept * 9) journal)

rows_more : (journal : List ℕ) (used kept : ℕ) → kept < used / 9
    → rows_from journal used kept ≡ row_at journal kept ∷ rows_from journal used (kept + 1)
unfolding rows_from whole_records
rows_more journal used kept h =
    let left : used / 9 - kept ≡ suc (used / 9 - (kept + 1)) = omega arith in
    let next : kept * 9 + 9 ≡ (kept + 1) * 9 = omega arith in
    rw (left, drop-drop 9 (kept * 9) journal, next)

rows_over : (journal : List ℕ) (used kept : ℕ) → used / 9 ≤ kept → rows_from journal used kept ≡ []
unfolding rows_from whole_records
rows_over journal used kept h = let none_left : used / 9 - kept ≡ 0 = omega arith in rw none_left

-- What is kept of the whole is what is kept so far and what is kept of the rest.
pub record Going (t : List ℕ) (n : ℕ) (journal : List ℕ) (used : ℕ) (marks₀ : List ℕ) (kept : ℕ) (marks : List ℕ) : Type 0 where
  pub inside : used ≤ length journal
  pub within : kept ≤ used / 9
  pub long : length marks ≡ length marks₀
  pub counts : length (kept_in t n marks₀ journal used) ≡ kept + length (kept_by t n marks (rows_from journal used kept))
  pub marked : mark_all marks₀ (kept_in t n marks₀ journal used) ≡ mark_all marks (kept_by t n marks (rows_from journal used kept))

-- what the nine bytes from a place spell, where so many are left
nine_left : (journal : List ℕ) (at : ℕ) → at + 9 ≤ length journal → record_at journal at ≡ decoded (take 9 (drop at journal))
unfolding record_at
nine_left journal at h =
    let nine : 9 ≤ length (drop at journal) = simp length-drop (omega arith) in rw (le-ltb (length (drop at journal)) 9 nine)

module _ {t : List ℕ} {n : ℕ} {journal : List ℕ} {used : ℕ} {marks₀ : List ℕ} where
  pub begin : used ≤ length journal → Going t n journal used marks₀ 0 marks₀
  unfolding rows_from kept_in
  begin inside = let all : used / 9 - 0 ≡ used / 9 = omega arith in record { inside = inside; within = omega arith; long = refl; counts = rw (all, zero-add); marked = rw all }

  module _ {kept : ℕ} {marks : List ℕ} (going : Going t n journal used marks₀ kept marks) where
    -- the next record of the journal is kept where it is good
    next_is : kept < used / 9 → kept_by t n marks (rows_from journal used kept)
        ≡ followed (only_good_in t n marks (record_at journal (kept * 9)))
        (λ (r : Record). kept_by t n (set marks r.formula 1) (rows_from journal used (kept + 1)))
    unfolding kept_by
    next_is h = let inside = going.inside in rw (rows_more journal used kept h, nine_left journal (kept * 9) (omega arith))

    -- a record more is kept
    pub turn : (r : Record) → kept < used / 9 → record_at journal (kept * 9) ≡ Some r → good_in t n marks r ≡ true
        → Going t n journal used marks₀ (kept + 1) (set marks r.formula 1)
    unfolding only_good_in followed mark_all
    turn r h reads good =
        let step : kept_by t n marks (rows_from journal used kept) ≡ r ∷ kept_by t n (set marks r.formula 1) (rows_from journal used (kept + 1)) =
        next_is h ∙ rw (reads, good) in
        let size = ap length step in
        let counts = going.counts in
        record {
          inside = going.inside;
          within = omega arith;
          long = length-set marks r.formula 1 ∙ going.long;
          counts = omega arith;
          marked = going.marked ∙ ap (mark_all marks) step;
        }

    -- where nothing more is kept, the count and the marks are the whole's
    no_more : kept_by t n marks (rows_from journal used kept) ≡ [] → Keeps t n journal used marks₀ kept marks
    unfolding mark_all
    no_more rest =
        let size = ap length rest in
        let counts = going.counts in
        record { counted = omega arith; marked = sym (going.marked ∙ ap (mark_all marks) rest) }

    pub unread : kept < used / 9 → record_at journal (kept * 9) ≡ None → Keeps t n journal used marks₀ kept marks
    unfolding only_good_in followed
    unread h reads = no_more (next_is h ∙ rw reads)

    pub not_good : (r : Record) → kept < used / 9 → record_at journal (kept * 9) ≡ Some r → good_in t n marks r ≡ false
        → Keeps t n journal used marks₀ kept marks
    unfolding only_good_in followed
    not_good r h reads bad = no_more (next_is h ∙ rw (reads, bad))

    pub over : used / 9 ≤ kept → Keeps t n journal used marks₀ (used / 9) marks
    unfolding kept_by
    over h =
        let within = going.within in
        let end : used / 9 ≡ kept = omega arith in
        rw end (no_more (rw (rows_over journal used kept h)))
