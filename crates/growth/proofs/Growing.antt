-- The growth of the journal, one record after the other: one law for each way that the loop goes on or ends.
-- Assumes nothing.
use Prim.Native.Nat.{ℕ, zero, suc, ◌+◌, ◌*◌, ◌-◌, ◌≤◌, ◌<◌}
use native.Mathlib.Nat.{zero-add}
use native.Mathlib.Omega.{arith}
use mathlib.Core.Path.{◌≡◌, refl, sym, ◌∙◌, ap, subst}
use mathlib.Core.Bool.{Bool, true, not}
use Rattle.std.specs.Prelude.{Option, None, Some}
use Rattle.std.specs.Option.{is_some}
use mathlib.Core.List.{List, [], ◌∷◌}
use lib.ListN.{length, set, length-set}
use Rattle.infon.specs.declared.Record.{Record}
use Rattle.infon.specs.Journal.{record_bytes, spelled, spelled_all, followed}
use Rattle.std.specs.Prelude.{is_none}
use Rattle.infon.specs.Run.{written}
use Rattle.infon.proofs.Codec.{length_spelled}
use Rattle.infon.proofs.Cuts.{length_written, written_more}
use Rattle.journal.specs.Kept.{mark_all}
use Rattle.journal.proofs.Writing.{written_nothing}
use Rattle.ways.specs.Search.{next_in}
use Rattle.frontier.specs.Found.{Found}
use Rattle.growth.specs.Grown.{grown_in, marks_with, journal_with, Addable, Adds, Roomy, Grows}
use Rattle.growth.proofs.Covering.{Covering}
use Rattle.growth.proofs.Adding.{cover_long}

-- What is added in all is what is added so far and what is added from here on.
pub record Growing (t : List ℕ) (n : ℕ) (marks₀ journal₀ : List ℕ) (kept limit : ℕ) (marks journal : List ℕ) (added : ℕ)
    : Type 0 where
  pub marks_long : n ≤ length marks
  pub journal_long : length journal ≡ length journal₀
  pub room : record_bytes * (kept + added + length (grown_in t n marks (limit - added))) ≤ length journal
  pub counts : length (grown_in t n marks₀ limit) ≡ added + length (grown_in t n marks (limit - added))
  pub marked : mark_all marks₀ (grown_in t n marks₀ limit) ≡ mark_all marks (grown_in t n marks (limit - added))
  pub spells : written journal₀ (record_bytes * kept) (spelled_all (grown_in t n marks₀ limit))
      ≡ written journal (record_bytes * (kept + added)) (spelled_all (grown_in t n marks (limit - added)))

grown_none : (t : List ℕ) (n : ℕ) (marks : List ℕ) (limit : ℕ) → next_in t n marks ≡ None → grown_in t n marks limit ≡ []
unfolding grown_in followed
grown_none t n marks zero e = refl
grown_none t n marks (suc limit) e = rw e

grown_over : (t : List ℕ) (n : ℕ) (marks : List ℕ) (limit : ℕ) → limit ≡ 0 → grown_in t n marks limit ≡ []
unfolding grown_in
grown_over t n marks limit e = rw e

grown_due : (t : List ℕ) (n : ℕ) (marks : List ℕ) (limit left : ℕ) (r : Record) → limit ≡ suc left → next_in t n marks ≡ Some r
    → grown_in t n marks limit ≡ r ∷ grown_in t n (set marks r.formula 1) left
unfolding grown_in followed
grown_due t n marks limit left r e due = rw (e, due)

none_is : {o : Option Record} → o ≡ None → true ≡ is_none o
none_is e = rw e

some_open : (o : Option Record) → not (is_some o) ≡ is_none o
some_open None = refl
some_open (Some r) = refl

pub begin : {t : List ℕ} {n : ℕ} {marks journal : List ℕ} {kept limit : ℕ} → Roomy t n marks journal kept limit
    → Growing t n marks journal kept limit marks journal 0
begin {t} {n} {marks} {journal} {kept} {limit} roomy =
    let all : limit - 0 ≡ limit = omega arith in
    let room = roomy.room in
    record {
      marks_long = roomy.marks_long;
      journal_long = refl;
      room = rw all (omega arith);
      counts = rw (all, zero-add);
      marked = rw all;
      spells = rw all (ap (λ (at : ℕ). written journal at (spelled_all (grown_in t n marks limit))) (omega arith));
    }

module _ {t : List ℕ} {n : ℕ} {marks₀ journal₀ : List ℕ} {kept limit : ℕ} {marks journal : List ℕ} {added : ℕ}
    (growing : Growing t n marks₀ journal₀ kept limit marks journal added) where
  goes_on : (r : Record) → added < limit → next_in t n marks ≡ Some r
      → grown_in t n marks (limit - added) ≡ r ∷ grown_in t n (set marks r.formula 1) (limit - (added + 1))
  goes_on r more due = grown_due t n marks (limit - added) (limit - (added + 1)) r (omega arith) due

  -- below the limit, a record that is next has room behind what is added, and before it
  pub addable : {cover : List ℕ} {count : ℕ} → Covering t n marks cover → added < limit → count ≤ kept + added
      → Addable t n marks cover journal count
  addable covering more behind =
      record {
        marks_long = growing.marks_long;
        covers = covering.covers;
        room =
            λ r due.
            let size = ap length (goes_on r more due) in
            let room = growing.room in
            omega arith;
      }

  -- where nothing more is added, what stands is the whole
  over : {finished : Bool} → grown_in t n marks (limit - added) ≡ [] → finished ≡ is_none (next_in t n marks)
      → Grows t n marks₀ journal₀ kept limit (record { added = added; finished = finished }) marks journal
  unfolding mark_all spelled_all
  over e ends =
      let size = ap length e in
      let counts = growing.counts in
      let marked : marks ≡ mark_all marks₀ (grown_in t n marks₀ limit) = sym (growing.marked ∙ ap (mark_all marks) e) in
      record {
        counted = omega arith;
        ended = ends ∙ ap (λ (m : List ℕ). is_none (next_in t n m)) marked;
        marks_are = marked;
        journal_is =
            sym (growing.spells ∙ ap (λ (l : List Record). written journal (record_bytes * (kept + added)) (spelled_all l)) e
            ∙ written_nothing journal (record_bytes * (kept + added)));
      }

  none_left : next_in t n marks ≡ None → Grows t n marks₀ journal₀ kept limit (record { added = added; finished = true }) marks journal
  none_left e = over (grown_none t n marks (limit - added) e) (none_is e)

  -- what one call of `add_next` leaves
  module _ {cover : List ℕ} {answer : Option Record} {marksAfter coverAfter journalAfter : List ℕ}
      (adds : Adds t n marks cover journal (kept + added) answer marksAfter coverAfter journalAfter) where
    pub turn : (r : Record) → added < limit → length cover ≡ 64 → answer ≡ Some r
        → Growing t n marks₀ journal₀ kept limit marksAfter journalAfter (added + 1) × Covering t n marksAfter coverAfter
    unfolding marks_with journal_with mark_all spelled_all
    turn r more long told =
        let due : next_in t n marks ≡ Some r = sym adds.found.is_next ∙ told in
        let step = goes_on r more due in
        let rest : List Record = grown_in t n (set marks r.formula 1) (limit - (added + 1)) in
        let at : ℕ = 9 * (kept + added) in
        let nine : length (spelled r) ≡ 9 = length_spelled r in
        let size = ap length step in
        let room = growing.room in
        let marks_are : marksAfter ≡ set marks r.formula 1 = adds.marks_are ∙ ap (marks_with marks) told in
        let journal_is : journalAfter ≡ written journal at (spelled r) = adds.journal_is ∙ ap (journal_with journal (kept + added)) told in
        let size_after = length_written journal at (spelled r) (omega arith) in
        let after : at + length (spelled r) ≡ 9 * (kept + (added + 1)) = omega arith in (
          rw (marks_are, journal_is)
              (record {
                marks_long = rw length-set growing.marks_long;
                journal_long = size_after ∙ growing.journal_long;
                room = omega arith;
                counts = let counts = growing.counts in omega arith;
                marked = growing.marked ∙ ap (mark_all marks) step;
                spells =
                    growing.spells
                    ∙ ap (λ (l : List Record). written journal at (spelled_all l)) step
                    ∙ sym (written_more journal at (spelled r) (omega arith) (spelled_all rest))
                    ∙ ap (λ (k : ℕ). written (written journal at (spelled r)) k (spelled_all rest)) after;
              }),
          record { long = cover_long adds ∙ long; covers = adds.covers r told },
        )

    pub none_added : answer ≡ None
        → Grows t n marks₀ journal₀ kept limit (record { added = added; finished = true }) marksAfter journalAfter
    unfolding marks_with journal_with
    none_added told =
        rw (adds.marks_are ∙ ap (marks_with marks) told, adds.journal_is ∙ ap (journal_with journal (kept + added)) told)
        (none_left (sym adds.found.is_next ∙ told))

  -- at the limit the search says whether a record is next
  pub limit_reached : added ≡ limit → {cover left : List ℕ} {answer : Option Record} {more : Bool} → Found t n marks cover answer left
      → more ≡ is_some answer → Grows t n marks₀ journal₀ kept limit (record { added = limit; finished = not more }) marks journal
  limit_reached reached {answer = answer} {more = more} found e =
      subst (λ (a : ℕ). Grows t n marks₀ journal₀ kept limit (record { added = a; finished = not more }) marks journal) reached
      (over (grown_over t n marks (limit - added) (omega arith)) (ap not e ∙ (some_open answer ∙ ap is_none found.is_next)))
