-- The next record is added: what the code leaves, and the one answer and content that the contract leaves.
-- Assumes nothing.
use Prim.Native.Nat.{ℕ, zero, suc, ◌+◌, ◌*◌, ◌-◌, ◌/◌, ◌%◌, ◌^◌, ◌≤◌, ◌<◌}
use native.Mathlib.Omega.{arith}
use mathlib.Core.Path.{◌≡◌, refl, sym, ◌∙◌, ap}
use mathlib.Core.Bool.{Bool, true, false, cond}
use Rattle.std.specs.Prelude.{Option, None, Some}
use mathlib.Core.List.{List, [], ◌∷◌, ◌++◌}
use lib.ListN.{length, get_or, take, drop, set}
use lib.Bits.{bit_or, or_add_and, and_le_r}
use Rattle.infon.specs.declared.Record.{Record}
use Rattle.infon.specs.Journal.{spelled, all_records}
use Rattle.infon.specs.Run.{written}
use Rattle.infon.proofs.Codec.{length_spelled}
use Rattle.infon.proofs.Grown.{first_of_passes}
use Rattle.formulas.specs.Tests.{good_in}
use Rattle.formulas.proofs.Given.{good_below}
use Rattle.journal.proofs.Writing.{tail_written}
use Rattle.ways.specs.Search.{next_in}
use Rattle.frontier.specs.Found.{Found}
use Rattle.members.specs.Members.{with_number}
use Rattle.frontier.specs.Touched.{wanted, wanted_all, touching}
use Rattle.frontier.proofs.Wanting.{all_long}
use Rattle.frontier.proofs.Once.{Words, found_once}
use Rattle.growth.specs.Grown.{marks_with, journal_with, cover_with, Addable, Adds}
use Rattle.growth.proofs.Covering.{covering_touched}

next_below : (t : List ℕ) (n : ℕ) (marks : List ℕ) (r : Record) → next_in t n marks ≡ Some r → r.formula < n
unfolding next_in
next_below t n marks r e = good_below t n marks r (first_of_passes (good_in t n marks) (all_records n) r e)

module _ {t : List ℕ} {n : ℕ} {marks cover journal : List ℕ} {count : ℕ} (addable : Addable t n marks cover journal count)
    {answer : Option Record} {left : List ℕ} (found : Found t n marks cover answer left) where
  pub none_added : answer ≡ None → Adds t n marks cover journal count None marks left journal
  unfolding marks_with journal_with cover_with
  none_added told =
      record {
        left = left;
        found = rw told at found;
        marks_are = refl;
        journal_is = refl;
        cover_is = refl;
        covers = λ r e. let never : ◌≡◌ {A = ℕ} 0 1 = cc in absurd (omega arith);
      }

  module _ (r : Record) (told : answer ≡ Some r) where
    is_due : next_in t n marks ≡ Some r
    is_due = sym found.is_next ∙ told

    -- it is for a listed formula, its mark has a place, and it has room
    pub listed : r.formula < n
    listed = next_below t n marks r is_due

    pub mark_place : r.formula < length marks
    mark_place =
        let low = listed in
        let long = addable.marks_long in
        omega arith

    pub record_room : count * 9 + 9 ≤ length journal
    record_room = let room = addable.room r is_due in omega arith

    pub one_added : n ≤ 4096 → length cover ≡ 64 → {last after : List ℕ} → last ≡ written (take (length journal - count * 9) (drop (count * 9) journal)) 0 (spelled r)
        → after ≡ wanted_all t n (set marks r.formula 1) left (touching t n r.formula)
        → Adds t n marks cover journal count (Some r) (set marks r.formula 1) after
        (take (count * 9) journal ++ (last ++ drop (length journal - count * 9) (drop (count * 9) journal)))
    unfolding marks_with journal_with cover_with
    one_added few long e widened =
        let nine : length (spelled r) ≡ 9 = length_spelled r in
        let fits = record_room in
        let again = covering_touched t marks n few left r.formula listed addable.marks_long (found.long ∙ long) (found.covers r told) widened in
        record {
          left = left;
          found = rw told at found;
          marks_are = refl;
          journal_is = tail_written journal (count * 9) (spelled r) (omega arith) e ∙ ap (λ (at : ℕ). written journal at (spelled r)) (omega arith);
          cover_is = widened;
          covers = λ q e. again.covers;
        }

-- a word is no less after a bit was set, so that the words of a set had 64 bits before it was widened
or_more : (w bit : ℕ) → w ≤ bit_or w bit
or_more w bit =
    let sum = or_add_and w bit in
    let less = and_le_r w bit in
    omega arith

set_more : (s : List ℕ) (k bit at : ℕ) → get_or s at 0 ≤ get_or (set s k (bit_or (get_or s k 0) bit)) at 0
set_more [] k bit at = omega arith
set_more (x ∷ s) zero bit zero = or_more x bit
set_more (x ∷ s) zero bit (suc at) = omega arith
set_more (x ∷ s) (suc k) bit zero = omega arith
set_more (x ∷ s) (suc k) bit (suc at) = set_more s k bit at

with_fits : (cover : List ℕ) (i : ℕ) → Words (with_number cover i) → Words cover
unfolding with_number
with_fits cover i fits at =
    let after = fits at in
    let more = set_more cover (i / 64) (2 ^ (i % 64)) at in
    omega arith

all_fits : (t : List ℕ) (n : ℕ) (marks : List ℕ) (rs : List Record) (cover : List ℕ) → Words (wanted_all t n marks cover rs) → Words cover
unfolding wanted_all wanted
all_fits t n marks [] cover fits = fits
all_fits t n marks (r ∷ rest) cover fits =
    each (good_in t n marks r) (all_fits t n marks rest (wanted t n marks cover r) fits)
  where
    each : (good : Bool) → Words (cond good (with_number cover r.formula) cover) → Words cover
    each true fits = with_fits cover r.formula fits
    each false fits = fits

left_fits : (t : List ℕ) (n : ℕ) (marks : List ℕ) (next : Option Record) (cover : List ℕ) → Words (cover_with t n marks cover next) → Words cover
unfolding cover_with
left_fits t n marks (Some r) cover fits = all_fits t n (set marks r.formula 1) (touching t n r.formula) cover fits
left_fits t n marks None cover fits = fits

pub cover_long : {t : List ℕ} {n : ℕ} {marks cover journal : List ℕ} {count : ℕ} {next : Option Record} {marksAfter coverAfter journalAfter : List ℕ}
    → Adds t n marks cover journal count next marksAfter coverAfter journalAfter → length coverAfter ≡ length cover
unfolding cover_with
cover_long {t} {n} {marks} {cover} {journal} {count} {next} adds =
    ap length adds.cover_is ∙ (each next adds.left ∙ adds.found.long)
  where
    each : (answer : Option Record) (left : List ℕ) → length (cover_with t n marks left answer) ≡ length left
    each (Some r) left = all_long t n (set marks r.formula 1) (touching t n r.formula) left
    each None left = refl

-- adding to the same marks, set and journal, two runs give the same answer, marks, set and journal; the words of a set have 64 bits
pub adds_once : {t : List ℕ} {n : ℕ} {marks cover journal : List ℕ} {count : ℕ} {one two : Option Record}
    {marks₁ marks₂ cover₁ cover₂ journal₁ journal₂ : List ℕ} → Words cover₁ → Words cover₂
    → Adds t n marks cover journal count one marks₁ cover₁ journal₁ → Adds t n marks cover journal count two marks₂ cover₂ journal₂
    → (one ≡ two) × (marks₁ ≡ marks₂) × (cover₁ ≡ cover₂) × (journal₁ ≡ journal₂)
adds_once {t} {n} {marks} {cover} {journal} {count} {one} {two} fits₁ fits₂ first second =
    let left₁ = left_fits t n marks one first.left (rw first.cover_is at fits₁) in
    let left₂ = left_fits t n marks two second.left (rw second.cover_is at fits₂) in
    let found = found_once left₁ left₂ first.found second.found in (
      found.0,
      first.marks_are ∙ (ap (marks_with marks) found.0 ∙ sym second.marks_are),
      first.cover_is
          ∙ (ap (λ (next : Option Record). cover_with t n marks first.left next) found.0
          ∙ (ap (λ (left : List ℕ). cover_with t n marks left two) found.1 ∙ sym second.cover_is)),
      first.journal_is ∙ (ap (journal_with journal count) found.0 ∙ sym second.journal_is),
    )
