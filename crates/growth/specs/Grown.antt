-- The records that a run adds, over the formula table and the marks. The laws join them to the paper's.
use Rattle.std.specs.Prelude.{ℕ, zero, suc, ◌+◌, ◌*◌, ◌≤◌, ◌≡◌, List, [], length, set, Option, None, Some}
use Rattle.infon.specs.declared.Record.{Record}
use Rattle.infon.specs.Journal.{record_bytes, spelled, spelled_all, followed}
use Rattle.std.specs.Prelude.{is_none}
use Rattle.infon.specs.Run.{written}
use Rattle.journal.specs.Kept.{mark_all}
use Rattle.ways.specs.Search.{next_in}
use Rattle.frontier.specs.Touched.{Covers, wanted_all, touching}
use Rattle.frontier.specs.Found.{Found}
use Rattle.growth.specs.declared.Growth.{Growth}

-- the marks, the journal behind its first `count` records, and the set, with the record that is added, if one is
unfoldable pub marks_with : List ℕ → Option Record → List ℕ
marks_with marks (Some r) = set marks r.formula 1
marks_with marks None = marks

unfoldable pub journal_with : List ℕ → ℕ → Option Record → List ℕ
journal_with journal count (Some r) = written journal (record_bytes * count) (spelled r)
journal_with journal count None = journal

unfoldable pub cover_with : List ℕ → ℕ → List ℕ → List ℕ → Option Record → List ℕ
cover_with t n marks cover (Some r) = wanted_all t n (set marks r.formula 1) cover (touching t n r.formula)
cover_with t n marks cover None = cover

-- What adding the next record asks of its tables, of the set, and of the journal: room behind the first `count` records if one is next.
pub record Addable (t : List ℕ) (n : ℕ) (marks cover journal : List ℕ) (count : ℕ) : Type 0 where
  pub marks_long : n ≤ length marks
  pub covers : Covers t n marks cover
  pub room : (r : Record) → next_in t n marks ≡ Some r → record_bytes * (count + 1) ≤ length journal

-- What adding the next record gives: the answer of a search, which leaves the set `left`; the marks, the journal and that set with
-- the record; and after a record a set that covers again, so that a caller can go on.
pub record Adds (t : List ℕ) (n : ℕ) (marks cover journal : List ℕ) (count : ℕ) (next : Option Record) (marksAfter coverAfter journalAfter : List ℕ)
    : Type 0 where
  pub left : List ℕ
  pub found : Found t n marks cover next left
  pub marks_are : marksAfter ≡ marks_with marks next
  pub journal_is : journalAfter ≡ journal_with journal count next
  pub cover_is : coverAfter ≡ cover_with t n marks left next
  pub covers : (r : Record) → next ≡ Some r → Covers t n marksAfter coverAfter

-- what at most so many records, "each the next one", add to the marked ones
unfoldable pub grown_in : List ℕ → ℕ → List ℕ → ℕ → List Record
grown_in t n marks zero = []
grown_in t n marks (suc limit) = followed (next_in t n marks) (λ (r : Record). grown_in t n (set marks r.formula 1) limit)

-- What growing asks of its tables and of the journal: room for what is added.
pub record Roomy (t : List ℕ) (n : ℕ) (marks journal : List ℕ) (kept limit : ℕ) : Type 0 where
  pub marks_long : n ≤ length marks
  pub room : record_bytes * (kept + length (grown_in t n marks limit)) ≤ length journal

-- What growing gives: how many records were added, whether none is next any more, the marks with theirs, and the journal with
-- them right after the kept part.
pub record Grows (t : List ℕ) (n : ℕ) (marks journal : List ℕ) (kept limit : ℕ) (growth : Growth) (marksAfter journalAfter : List ℕ) : Type 0 where
  pub counted : growth.added ≡ length (grown_in t n marks limit)
  pub ended : growth.finished ≡ is_none (next_in t n (mark_all marks (grown_in t n marks limit)))
  pub marks_are : marksAfter ≡ mark_all marks (grown_in t n marks limit)
  pub journal_is : journalAfter ≡ written journal (record_bytes * kept) (spelled_all (grown_in t n marks limit))
