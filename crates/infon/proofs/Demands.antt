-- The three demands of the mission, as theorems about the definitions. Each stands under its plain sentence; the work is elsewhere.
-- Assumes nothing.
use Prim.Native.Nat.{ℕ, ◌+◌, ◌*◌, ◌/◌, ◌≤◌, ◌<◌, min}
use native.Mathlib.Nat.{le_refl}
use native.Mathlib.Omega.{arith}
use mathlib.Core.Path.{◌≡◌, refl, sym, ◌∙◌, ap, subst}
use mathlib.Core.Logic.{◌⊎◌, ⊎_elim, ◌↔◌}
use mathlib.Core.Bool.{Bool, true, false}
use Rattle.std.specs.Prelude.{Some}
use mathlib.Core.List.{List, [], ◌∷◌, ◌++◌, map}
use lib.ListN.{length, take, drop, get_or, length-append, length-map, get_or-append}
use lib.Seq.{take_at, take-length}
use Rattle.infon.specs.declared.Record.{Record}
use Rattle.infon.specs.declared.Answer.{Answer}
use Rattle.infon.specs.declared.Answer.TheVariants.{Open}
use Rattle.infon.specs.Bytes.{every}
use Rattle.infon.specs.Formula.{Formula, True, is_named, spelling}
use Rattle.infon.specs.Policy.{Sentence, sentence_of, formula_in, entries_of, hypotheses_of, queries_of}
use Rattle.infon.specs.Listing.{is_listed, list_of}
use Rattle.infon.specs.Calculus.{Derives, through}
use Rattle.infon.specs.Rules.{numbered}
use Rattle.infon.specs.Journal.{is_recorded, is_good, record_bytes, spelled_all, decoded, whole_records, kept_after, kept_of, all_records, next, is_finished, grown}
use Rattle.infon.specs.Run.{answer_byte, answer_of, is_on_record, answers_of, Missing, Outcome, written, success, run}
use Rattle.std.proofs.lemmas.Bool.{cases_Bool}
use Rattle.std.proofs.lemmas.List.{get_or-map}
use Rattle.infon.proofs.Codec.{AreBytes, length_spelled_all, whole_records_cong}
use Rattle.infon.proofs.Listed.{list_closed, hypotheses_listed, queries_listed, numbered_injective, code5_passed, numbered_mem}
use Rattle.infon.proofs.Prefixes.{mem_listed}
use Rattle.infon.proofs.Readable.{spelled_alike}
use Rattle.infon.proofs.Lines.{line_of, read_line, line_read}
use Rattle.infon.proofs.Named.{listed_named, derives_plainly}
use Rattle.infon.proofs.Ascending.{first_least}
use Rattle.infon.proofs.Least.{Before, all_ascend, all_has}
use Rattle.infon.proofs.Grown.{GoodRow, good_fresh, kept_decoded, kept_longest, kept_spelled, kept_of_spelled, kept_good, grown_good, good_append}
use Rattle.infon.proofs.Cuts.{Reached, take_before_written, run_ended, reached_standing, ended_same, success_spells}
use Rattle.infon.proofs.Refusals.{accepted_none, none_refused, lets_pass, accepted_passes}
use Rattle.infon.proofs.Sound.{Sound, good_is, premises_below, premise_derived, sound_row, sound_empty}
use Rattle.infon.proofs.Finished.{List-of, derivable_answered, answered_derivable, derivable_recorded_number}
use Rattle.infon.proofs.Missing.{row_short, grown_all, missing_exists, missing_once, adds_smaller, finishes_exactly}

-- ---- Names for what a file and a call are about

abbrev pub hypotheses_in : List ℕ → List Formula
hypotheses_in file = hypotheses_of (entries_of file)

abbrev pub queries_in : List ℕ → List Formula
queries_in file = queries_of (entries_of file)

-- the query with a count, from 0
abbrev pub query_at : List ℕ → ℕ → Formula
query_at file i = get_or (queries_in file) i True

abbrev pub list_in : List ℕ → List Formula
list_in file = list_of (entries_of file)

abbrev pub kept_part : List ℕ → List ℕ → ℕ → List Record
kept_part file journal used = kept_of (hypotheses_in file) (list_in file) journal used

abbrev pub added_part : List ℕ → List ℕ → ℕ → ℕ → List Record
added_part file journal used limit = grown (hypotheses_in file) (list_in file) (kept_part file journal used) limit

-- the records of the journal that a call leaves
abbrev pub records_left : List ℕ → List ℕ → ℕ → ℕ → List Record
records_left file journal used limit = kept_part file journal used ++ added_part file journal used limit

list_of_lem : (file : List ℕ) → List-of (hypotheses_in file) (list_in file)
list_of_lem file =
    record {
      closed = list_closed (entries_of file);
      hypotheses = λ x m. mem_listed (hypotheses_listed (entries_of file) x m);
      once = numbered_injective (entries_of file);
    }

-- "The kept part is the longest row of whole nine-byte records at the journal's start, inside the used length, each good after
-- those before it": it is such a row, ..
pub kept_is_such_a_row : (file journal : List ℕ) (used : ℕ)
    → GoodRow (hypotheses_in file) (list_in file) [] (kept_part file journal used)
    × (map decoded (take (length (kept_part file journal used)) (whole_records (used / record_bytes) journal))
    ≡ map Some (kept_part file journal used))
unfolding kept_of
kept_is_such_a_row file journal used =
    let rows = whole_records (used / record_bytes) journal in
    (kept_good (hypotheses_in file) (list_in file) [] rows, kept_decoded (hypotheses_in file) (list_in file) [] rows)

-- .. and it begins with every such row.
pub kept_is_longest : (file journal : List ℕ) (used : ℕ) (row : List Record) → GoodRow (hypotheses_in file) (list_in file) [] row
    → map decoded (take (length row) (whole_records (used / record_bytes) journal)) ≡ map Some row
    → take (length row) (kept_part file journal used) ≡ row
unfolding kept_of
kept_is_longest file journal used row good spelled =
    kept_longest (hypotheses_in file) (list_in file) [] row (whole_records (used / record_bytes) journal) good spelled

row_of : (file journal : List ℕ) (used limit : ℕ)
    → GoodRow (hypotheses_in file) (list_in file) [] (records_left file journal used limit)
row_of file journal used limit =
    let hyps = hypotheses_in file in
    let fs = list_in file in
    good_append hyps fs [] (kept_part file journal used) (added_part file journal used limit) (kept_is_such_a_row file journal used).0
    (grown_good hyps fs (kept_part file journal used) limit)

sound_of : (file journal : List ℕ) (used limit : ℕ) → Sound (hypotheses_in file) (list_in file) (records_left file journal used limit)
sound_of file journal used limit =
    let hyps = hypotheses_in file in
    let fs = list_in file in
    sound_row hyps fs [] (records_left file journal used limit) (sound_empty hyps fs) (row_of file journal used limit)

-- what the answer's byte says
yes_recorded : (on finished : Bool) → answer_byte (answer_of on finished) ≡ 1 → on ≡ true
unfolding answer_byte answer_of
yes_recorded true finished h = refl
yes_recorded false true h = absurd (omega arith)
yes_recorded false false h = absurd (omega arith)

recorded_yes : (finished : Bool) {on : Bool} → on ≡ true → answer_byte (answer_of on finished) ≡ 1
unfolding answer_byte answer_of
recorded_yes finished h = rw h

finished_no : {on finished : Bool} → on ≡ false → finished ≡ true → answer_byte (answer_of on finished) ≡ 0
unfolding answer_byte answer_of
finished_no h e = rw (h, e)

unfinished_open : {on finished : Bool} → on ≡ false → finished ≡ false → answer_byte (answer_of on finished) ≡ 2
unfolding answer_byte answer_of
unfinished_open h e = rw (h, e)

whole_within : (used size : ℕ) → used ≤ size → record_bytes * (used / record_bytes) ≤ size
whole_within used size h = omega arith

one_not_zero : ◌≡◌ {A = ℕ} 1 0 → ⊥
one_not_zero e = omega arith

pub nine_times : (n : ℕ) → record_bytes * n / record_bytes ≡ n
nine_times n = omega arith

module _ (file journal : List ℕ) (used limit : ℕ) (answers : List ℕ) (accepted : (run file journal used limit answers).report.code ≡ 0) where
  outcome_is : run file journal used limit answers
      ≡ success (hypotheses_in file) (list_in file) (queries_in file) (kept_part file journal used) (added_part file journal used limit) journal
      answers
  outcome_is = none_refused file journal used limit answers (accepted_none file journal used limit answers accepted)

  -- "At most 4,096 formulas can come up in deciding it."
  pub list_short : length (list_in file) ≤ 4096
  list_short = code5_passed (entries_of file) (accepted_passes file (lets_pass file journal used limit answers accepted).accepted).listed

  finished_is : (run file journal used limit answers).report.finished
      ≡ is_finished (hypotheses_in file) (list_in file) (records_left file journal used limit)
  unfolding success
  finished_is = ap (λ (o : Outcome). o.report.finished) outcome_is

  answer_is : (i : ℕ) → i < length (queries_in file)
      → get_or (run file journal used limit answers).answers i 0
      ≡ answer_byte
      (answer_of (is_on_record (list_in file) (records_left file journal used limit) (query_at file i))
      (run file journal used limit answers).report.finished)
  unfolding success written answers_of
  answer_is i low =
      let hyps = hypotheses_in file in
      let fs = list_in file in
      let left = records_left file journal used limit in
      let asked : Formula → Answer = λ (x : Formula). answer_of (is_on_record fs left x) (is_finished hyps fs left) in
      let said = answers_of hyps fs left (queries_in file) in
      let inside : i < length (map answer_byte said) = rw (length-map said answer_byte, length-map (queries_in file) asked) low in
      ap (λ (o : Outcome). get_or o.answers i 0) outcome_is
      ∙ (get_or-append (map answer_byte said) (drop (0 + length (map answer_byte said)) answers) 0 i inside
      ∙ (get_or-map answer_byte said i Open 0 (rw (length-map (queries_in file) asked) low)
      ∙ (ap answer_byte (get_or-map asked (queries_in file) i True Open low)
      ∙ ap (λ (b : Bool). answer_byte (answer_of (is_on_record fs left (query_at file i)) b)) (sym finished_is))))

  query_listed : (i : ℕ) → i < length (queries_in file) → is_listed (query_at file i) (list_in file) ≡ true
  unfolding numbered
  query_listed i low = mem_listed (queries_listed (entries_of file) (query_at file i) (numbered_mem (queries_in file) i low))

  -- ---- Demand 2

  -- "Once the journal is finished, a query is yes exactly if some derivation in the published calculus of primal infon logic
  -- reaches it from the hypotheses, through formulas of any kind, .."
  pub yes_exactly : (run file journal used limit answers).report.finished ≡ true → (i : ℕ) → i < length (queries_in file)
      → (get_or (run file journal used limit answers).answers i 0 ≡ 1) ↔ Derives (hypotheses_in file) (query_at file i)
  yes_exactly finished i low = (
    λ answer.
        answered_derivable (hypotheses_in file) (list_in file) (list_of_lem file) (records_left file journal used limit) (query_at file i)
        (sound_of file journal used limit)
        (yes_recorded (is_on_record (list_in file) (records_left file journal used limit) (query_at file i))
        (run file journal used limit answers).report.finished (sym (answer_is i low) ∙ answer)),
    λ d.
        answer_is i low
        ∙ recorded_yes (run file journal used limit answers).report.finished
        (derivable_answered (hypotheses_in file) (list_in file) (list_of_lem file) (records_left file journal used limit) (query_at file i)
        (sound_of file journal used limit) (sym finished_is ∙ finished) (query_listed i low) d),
  )

  -- ".. and no exactly if none does."
  pub no_exactly : (run file journal used limit answers).report.finished ≡ true → (i : ℕ) → i < length (queries_in file)
      → (get_or (run file journal used limit answers).answers i 0 ≡ 0) ↔ (Derives (hypotheses_in file) (query_at file i) → ⊥)
  no_exactly finished i low = (
    λ answer d. one_not_zero (sym ((yes_exactly finished i low).1 d) ∙ answer),
    λ underived.
        ⊎_elim
        (λ (on : is_on_record (list_in file) (records_left file journal used limit) (query_at file i) ≡ true).
        absurd
        (underived
        ((yes_exactly finished i low).0
        (answer_is i low ∙ recorded_yes (run file journal used limit answers).report.finished on))))
        (λ (off : is_on_record (list_in file) (records_left file journal used limit) (query_at file i) ≡ false).
        answer_is i low ∙ finished_no off finished)
        (cases_Bool (is_on_record (list_in file) (records_left file journal used limit) (query_at file i))),
  )

  -- "Before that, yes is said only where the journal already holds the record; .."
  pub yes_recorded_only : (i : ℕ) → i < length (queries_in file) → get_or (run file journal used limit answers).answers i 0 ≡ 1
      → is_on_record (list_in file) (records_left file journal used limit) (query_at file i) ≡ true
  yes_recorded_only i low answer =
      yes_recorded (is_on_record (list_in file) (records_left file journal used limit) (query_at file i))
      (run file journal used limit answers).report.finished (sym (answer_is i low) ∙ answer)

  -- .. and there it is said, ..
  pub recorded_answered : (i : ℕ) → i < length (queries_in file) → is_on_record (list_in file) (records_left file journal used limit) (query_at file i) ≡ true
      → get_or (run file journal used limit answers).answers i 0 ≡ 1
  recorded_answered i low on = answer_is i low ∙ recorded_yes (run file journal used limit answers).report.finished on

  -- ".. the rest is open."
  pub rest_open : (run file journal used limit answers).report.finished ≡ false → (i : ℕ) → i < length (queries_in file)
      → is_on_record (list_in file) (records_left file journal used limit) (query_at file i) ≡ false
      → get_or (run file journal used limit answers).answers i 0 ≡ 2
  rest_open unfinished i low off = answer_is i low ∙ unfinished_open off unfinished

  -- ---- Demand 3

  -- "Each run adds as many records as its limit allows or as are missing, the smaller, and reports that number."
  pub adds : (m : ℕ) → Missing (hypotheses_in file) (kept_part file journal used) 0 (list_in file) m
      → (run file journal used limit answers).report.added ≡ min limit m
  unfolding success
  adds m h =
      ap (λ (o : Outcome). o.report.added) outcome_is
      ∙ adds_smaller (hypotheses_in file) (list_in file) (list_of_lem file) (kept_part file journal used) limit m
      (kept_is_such_a_row file journal used).0 h

  -- "whether the journal is finished": it is exactly if the limit allows as many records as are missing, ..
  pub finished_exactly : (m : ℕ) → Missing (hypotheses_in file) (kept_part file journal used) 0 (list_in file) m
      → ((run file journal used limit answers).report.finished ≡ true) ↔ (m ≤ limit)
  finished_exactly m h =
      rw finished_is
      (finishes_exactly (hypotheses_in file) (list_in file) (list_of_lem file) (kept_part file journal used) limit m
      (kept_is_such_a_row file journal used).0 h)

  -- .. and a limit of L always does.
  pub finished_by_the_list : length (list_in file) ≤ limit → (run file journal used limit answers).report.finished ≡ true
  finished_by_the_list enough =
      finished_is
      ∙ grown_all (hypotheses_in file) (list_in file) (kept_part file journal used) limit (kept_is_such_a_row file journal used).0 enough

  has_room : record_bytes * (length (kept_part file journal used) + length (added_part file journal used limit)) ≤ length journal
  has_room = (lets_pass file journal used limit answers accepted).room

  -- "The longest beginning in which every record is good, its formula new and following from the file and earlier records, is
  -- kept" (which row that is, `kept_is_such_a_row` and `kept_is_longest` say): the report says how many, ..
  pub keeps : (run file journal used limit answers).report.kept ≡ length (kept_part file journal used)
  unfolding success
  keeps = ap (λ (o : Outcome). o.report.kept) outcome_is

  -- .. and their bytes stay.
  pub kept_stay : take (record_bytes * length (kept_part file journal used)) (run file journal used limit answers).journal
      ≡ take (record_bytes * length (kept_part file journal used)) journal
  unfolding success
  kept_stay =
      let added = added_part file journal used limit in
      let start = record_bytes * length (kept_part file journal used) in
      let size = length_spelled_all added in
      let fits = has_room in
      ap (λ (o : Outcome). take start o.journal) outcome_is ∙ take_before_written journal start (spelled_all added) (omega arith)

  -- "the new used length, nine times the sum of kept and added": the bytes in use ..
  pub uses : (run file journal used limit answers).report.used ≡ record_bytes * length (records_left file journal used limit)
  unfolding success
  uses =
      ap (λ (o : Outcome). o.report.used) outcome_is
      ∙ ap (λ (n : ℕ). record_bytes * n) (sym (length-append (kept_part file journal used) (added_part file journal used limit)))

  -- .. spell the kept records and then the added ones, ..
  pub leaves : AreBytes journal
      → take (run file journal used limit answers).report.used (run file journal used limit answers).journal
      ≡ spelled_all (records_left file journal used limit)
  unfolding kept_of
  leaves bytes =
      let hyps = hypotheses_in file in
      let fs = list_in file in
      let kept = kept_part file journal used in
      let added = added_part file journal used limit in
      ap (λ (o : Outcome). take o.report.used o.journal) outcome_is
      ∙ success_spells hyps fs (queries_in file) kept added journal answers
      (kept_spelled hyps fs [] (used / record_bytes) journal bytes (whole_within used (length journal) (lets_pass file journal used limit answers accepted).used_inside)) has_room

  -- .. and whoever reads them back keeps exactly these records, whatever stands behind those bytes.
  pub read_back : AreBytes journal → (after : List ℕ)
      → take (run file journal used limit answers).report.used after
      ≡ take (run file journal used limit answers).report.used (run file journal used limit answers).journal
      → kept_part file after (run file journal used limit answers).report.used ≡ records_left file journal used limit
  unfolding kept_of
  read_back bytes after same =
      let hyps = hypotheses_in file in
      let fs = list_in file in
      let left = records_left file journal used limit in
      let begins : take (record_bytes * length left) after ≡ take (record_bytes * length left) (spelled_all left ++ []) =
      ap (λ (n : ℕ). take n after) (sym uses)
      ∙ (same ∙ (leaves bytes ∙ sym (take_at (spelled_all left) [] (record_bytes * length left) (length_spelled_all left)))) in
      ap (λ (n : ℕ). kept_after hyps fs [] (whole_records (n / record_bytes) after)) uses
      ∙ (ap (λ (n : ℕ). kept_after hyps fs [] (whole_records n after)) (nine_times (length left))
      ∙ (ap (kept_after hyps fs []) (whole_records_cong (length left) after (spelled_all left ++ []) begins)
      ∙ (kept_of_spelled hyps fs list_short left [] (length left) (row_of file journal used limit) (le_refl (length left)) ∙ take-length left)))

  -- ".. the finished journal then records exactly the derivable formulas of the file's list, .."
  pub records_exactly : (run file journal used limit answers).report.finished ≡ true → (n : ℕ) → n < length (list_in file)
      → (is_recorded n (records_left file journal used limit) ≡ true) ↔ Derives (hypotheses_in file) (numbered (list_in file) n)
  records_exactly finished n low = (
    λ recorded.
        premise_derived (hypotheses_in file) (list_in file) (records_left file journal used limit) n (sound_of file journal used limit) recorded,
    λ d.
        derivable_recorded_number (hypotheses_in file) (list_in file) (list_of_lem file) (records_left file journal used limit) n
        (sound_of file journal used limit) (sym finished_is ∙ finished) low d,
  )

-- ".. each once": no record is for a formula that an earlier one is for.
pub each_once : (file journal : List ℕ) (used limit : ℕ) (before after : List Record) (r : Record)
    → records_left file journal used limit ≡ before ++ (r ∷ after) → is_recorded r.formula before ≡ false
each_once file journal used limit before after r row =
    good_fresh (hypotheses_in file) (list_in file) [] before after r
    (subst (GoodRow (hypotheses_in file) (list_in file) []) row (row_of file journal used limit))

-- "Missing is the number of derivable formulas on the list that the kept part does not record": there is one such number, ..
pub some_number_is_missing : (file journal : List ℕ) (used : ℕ)
    → (m : ℕ) × Missing (hypotheses_in file) (kept_part file journal used) 0 (list_in file) m
some_number_is_missing file journal used =
    missing_exists (hypotheses_in file) (list_in file) (list_of_lem file) (kept_part file journal used)

-- .. and no other.
pub no_other_is_missing : (file journal : List ℕ) (used m n : ℕ)
    → Missing (hypotheses_in file) (kept_part file journal used) 0 (list_in file) m
    → Missing (hypotheses_in file) (kept_part file journal used) 0 (list_in file) n → m ≡ n
no_other_is_missing file journal used m n one other =
    missing_once (hypotheses_in file) (list_in file) (list_of_lem file) (kept_part file journal used) m n one other

-- "The next record, if any: among all good records choose the least formula number, then the least rule, first premise and
-- second premise."
pub next_is_least : (file : List ℕ) (done : List Record) (r : Record) → GoodRow (hypotheses_in file) (list_in file) [] done
    → next (hypotheses_in file) (list_in file) done ≡ Some r
    → (is_good (hypotheses_in file) (list_in file) done r ≡ true)
    × ((s : Record) → is_good (hypotheses_in file) (list_in file) done s ≡ true → (s ≡ r) ⊎ Before r s)
unfolding next
next_is_least file done r row h =
    let hyps = hypotheses_in file in
    let fs = list_in file in
    let sound = sound_row hyps fs [] done (sound_empty hyps fs) row in
    let least = first_least Before (is_good hyps fs done) (all_records (length fs)) r (all_ascend (length fs)) h in (
      least.0,
      λ s good.
          least.1 s
          (all_has (length fs) s (good_is hyps fs done s good).below
          (premises_below hyps fs done s.way sound (good_is hyps fs done s good).premises))
          good,
    )

-- A row of good records never has more than L records, so 9 × L bytes always hold them.
pub never_more_than_the_list : (file : List ℕ) (row : List Record) → GoodRow (hypotheses_in file) (list_in file) [] row
    → length row ≤ length (list_in file)
never_more_than_the_list file row good = row_short (hypotheses_in file) (list_in file) row good

-- "If that content is what cuts at any bytes left of a run begun on an empty journal for the same file, each cut leaving the
-- first so many bytes, the finished journal equals the uncut one, run until it too is finished, byte for byte." For every two
-- histories of runs with any limits and of cuts, in any order and number, also none; the uncut one is a history of runs alone.
pub cut_as_uncut : (file journal : List ℕ) (used limit : ℕ) (answers journal₀ : List ℕ) (used₀ limit₀ : ℕ) (answers₀ : List ℕ)
    → Reached file journal used → Reached file journal₀ used₀
    → (run file journal used limit answers).report.code ≡ 0 → (run file journal used limit answers).report.finished ≡ true
    → (run file journal₀ used₀ limit₀ answers₀).report.code ≡ 0 → (run file journal₀ used₀ limit₀ answers₀).report.finished ≡ true
    → ((run file journal used limit answers).report.used ≡ (run file journal₀ used₀ limit₀ answers₀).report.used)
    × (take (run file journal used limit answers).report.used (run file journal used limit answers).journal
    ≡ take (run file journal₀ used₀ limit₀ answers₀).report.used (run file journal₀ used₀ limit₀ answers₀).journal)
cut_as_uncut file journal used limit answers journal₀ used₀ limit₀ answers₀ reached reached₀ code finished code₀ finished₀ =
    let short = list_short file journal used limit answers code in
    ended_same (hypotheses_in file) (list_in file) (run file journal used limit answers) (run file journal₀ used₀ limit₀ answers₀)
    (run_ended file short journal used limit answers (reached_standing file short journal used reached) code)
    (run_ended file short journal₀ used₀ limit₀ answers₀ (reached_standing file short journal₀ used₀ reached₀) code₀) finished finished₀

-- "through formulas of any kind": it does not matter whether derivations may pass through formulas whose names no file can spell.
pub any_kind : (file : List ℕ) (i : ℕ) → i < length (queries_in file)
    → Derives (hypotheses_in file) (query_at file i)
    ↔ ((d : Derives (hypotheses_in file) (query_at file i)) × (every is_named (through d) ≡ true))
unfolding numbered
any_kind file i low =
    derives_plainly file (query_at file i)
    (listed_named file (query_at file i) (queries_listed (entries_of file) (query_at file i) (numbered_mem (queries_in file) i low)))

-- "Two formulas are equal exactly when they are spelled alike."
pub equal_exactly : (x y : Formula) → is_named x ≡ true → is_named y ≡ true → (x ≡ y) ↔ (spelling x ≡ spelling y)
equal_exactly x y named-x named-y = (λ e. ap spelling e, λ e. spelled_alike x y named-x named-y e)

-- A line is read as a sentence exactly when it is that sentence's line and the sentence is of the language.
pub read_exactly : (line : List ℕ) (s : Sentence) → (sentence_of line ≡ Some s) ↔ ((line ≡ line_of s) × (is_named (formula_in s) ≡ true))
read_exactly line s = (line_read line s, λ spelled. ap sentence_of spelled.0 ∙ read_line s spelled.1)
