-- 01, "Codes on the board", and 02's codes: the rule of each, in their words, and the rows of codes that are tried. A rule says of a
-- place that its code is due there; "first" is said by what stands before.
use Rattle.std.specs.Prelude.{ℕ, ◌+◌, ◌*◌, ◌≤◌, ◌<◌, ◌≡◌, Bool, true, false, not, List, [], ◌∷◌, ◌++◌, length, ltb}
use Rattle.infon.specs.declared.Record.{Record}
use Rattle.infon.specs.Bytes.{every}
use Rattle.infon.specs.Formula.{Formula, nodes, depth}
use Rattle.infon.specs.Codes.{Code}
use Rattle.infon.specs.Policy.{Line, lines_of, is_well_formed, Entry, entries_of, formula_in, hypotheses_of, queries_of, most_bytes, most_nodes, most_depth}
use Rattle.infon.specs.Listing.{list_of, most_listed}
use Rattle.infon.specs.Journal.{record_bytes, kept_of, grown}
use Rattle.infon.specs.Reasons.{reasons}
use Rattle.infon.specs.Run.{is_on_record}
use Rattle.infon.specs.Chain.{query_of}

-- the nodes of some lines
unfoldable pub nodes_in : List Entry → ℕ
nodes_in [] = 0
nodes_in (e ∷ rest) = nodes (formula_in e.sentence) + nodes_in rest

unfoldable pub is_shallow : Entry → Bool
is_shallow e = not (ltb most_depth (depth (formula_in e.sentence)))

-- 1: "the file is over 32,768 bytes", place 0
pub data FileTooLong (file : List ℕ) : ℕ → Type 0 where
  file_too_long : most_bytes < length file → FileTooLong file 0

-- 2: "a line is not well formed", "start of the first such line"
pub data LineNotWellFormed (file : List ℕ) : ℕ → Type 0 where
  line_not_well_formed : (before after : List Line) (line : Line) → lines_of file ≡ before ++ (line ∷ after)
      → every is_well_formed before ≡ true → is_well_formed line ≡ false → LineNotWellFormed file line.start

-- 3: "over 1,024 nodes in the file", "start of the line with node 1,025"
pub data TooManyNodes (file : List ℕ) : ℕ → Type 0 where
  too_many_nodes : (before after : List Entry) (e : Entry) → entries_of file ≡ before ++ (e ∷ after) → nodes_in before ≤ most_nodes
      → most_nodes < nodes_in (before ++ (e ∷ [])) → TooManyNodes file e.start

-- 4: "a formula's quotation depth is over 4", "start of the first such line"
pub data TooDeep (file : List ℕ) : ℕ → Type 0 where
  too_deep : (before after : List Entry) (e : Entry) → entries_of file ≡ before ++ (e ∷ after) → every is_shallow before ≡ true
      → is_shallow e ≡ false → TooDeep file e.start

-- 5: "L is over 4,096", "start of the line whose base first needs number 4,096"
pub data TooManyListed (file : List ℕ) : ℕ → Type 0 where
  too_many_listed : (before after : List Entry) (e : Entry) → entries_of file ≡ before ++ (e ∷ after)
      → length (list_of before) ≤ most_listed → most_listed < length (list_of (before ++ (e ∷ []))) → TooManyListed file e.start

-- 6: "journal buffer shorter than 9 × L"
pub data JournalTooShort (file journal : List ℕ) : ℕ → Type 0 where
  journal_too_short : length journal < record_bytes * length (list_of (entries_of file)) → JournalTooShort file journal 0

-- 7: "used length greater than the journal buffer"
pub data UsedTooLong (journal : List ℕ) (used : ℕ) : ℕ → Type 0 where
  used_too_long : length journal < used → UsedTooLong journal used 0

-- 8: "answer buffer shorter than the number of queries"
pub data AnswersTooShort (file answers : List ℕ) : ℕ → Type 0 where
  answers_too_short : length answers < length (queries_of (entries_of file)) → AnswersTooShort file answers 0

-- 9: "a record is due and the buffer has no room for it"
pub data NoRoom (kept added : List Record) (journal : List ℕ) : ℕ → Type 0 where
  no_room : length journal < record_bytes * (length kept + length added) → NoRoom kept added journal 0

-- 02, 31: "query count outside the file"
pub data CountOutside (file : List ℕ) (count : ℕ) : ℕ → Type 0 where
  count_none : count ≡ 0 → CountOutside file count 0
  count_beyond : length (queries_of (entries_of file)) < count → CountOutside file count 0

-- 32: "that query is not recorded in the kept part"
pub data NotRecorded (fs : List Formula) (kept : List Record) (x : Formula) : ℕ → Type 0 where
  not_recorded : is_on_record fs kept x ≡ false → NotRecorded fs kept x 0

-- 33: "the chain does not fit the lent buffer"
pub data ChainTooLong (row : List Record) (out : List ℕ) : ℕ → Type 0 where
  chain_too_long : length out < record_bytes * length row → ChainTooLong row out 0

-- the codes about the file alone, in the order in which they are tried
unfoldable pub file_row : List ℕ → List Code
file_row file =
    record { number = 1; rule = FileTooLong file }
    ∷ (record { number = 2; rule = LineNotWellFormed file }
    ∷ (record { number = 3; rule = TooManyNodes file }
    ∷ (record { number = 4; rule = TooDeep file } ∷ (record { number = 5; rule = TooManyListed file } ∷ []))))

-- the codes of a run
unfoldable pub run_row : List ℕ → List ℕ → ℕ → ℕ → List ℕ → List Code
run_row file journal used limit answers =
    let hyps = hypotheses_of (entries_of file) in
    let fs = list_of (entries_of file) in
    let kept = kept_of hyps fs journal used in
    let added = grown hyps fs kept limit in
    file_row file
    ++ (record { number = 6; rule = JournalTooShort file journal }
    ∷ (record { number = 7; rule = UsedTooLong journal used }
    ∷ (record { number = 8; rule = AnswersTooShort file answers } ∷ (record { number = 9; rule = NoRoom kept added journal } ∷ []))))

-- the codes of a call for a chain
unfoldable pub chain_row : List ℕ → List ℕ → ℕ → ℕ → List ℕ → List Code
chain_row file journal used count out =
    let entries = entries_of file in
    let fs = list_of entries in
    let kept = kept_of (hypotheses_of entries) fs journal used in
    let x = query_of (queries_of entries) count in
    file_row file
    ++ (record { number = 7; rule = UsedTooLong journal used }
    ∷ (record { number = 31; rule = CountOutside file count }
    ∷ (record { number = 32; rule = NotRecorded fs kept x } ∷ (record { number = 33; rule = ChainTooLong (reasons fs x kept) out } ∷ []))))
