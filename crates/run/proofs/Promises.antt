-- The demands of the person who asked, for the function `run` itself: whatever report and buffers it leaves, given only its
-- contract. Each stands under its plain sentence; the theorems about the definitions are in `infon`.
-- Assumes nothing.
use Prim.Native.Nat.{ℕ, ◌*◌, ◌/◌, ◌≤◌, ◌<◌, min}
use mathlib.Core.Path.{◌≡◌, sym, ◌∙◌, ap, subst}
use mathlib.Core.Logic.{◌↔◌}
use mathlib.Core.Bool.{true, false}
use Rattle.std.specs.Prelude.{Some}
use mathlib.Core.List.{List, [], ◌∷◌, ◌++◌, map}
use lib.ListN.{length, take, get_or}
use Rattle.infon.specs.declared.Record.{Record}
use Rattle.infon.specs.declared.Report.{Report}
use Rattle.infon.specs.Calculus.{Derives}
use Rattle.infon.specs.Rules.{numbered}
use Rattle.infon.specs.Journal.{is_recorded, record_bytes, spelled_all, decoded, whole_records}
use Rattle.infon.specs.Codes.{First, None}
use Rattle.infon.specs.Run.{is_on_record, Missing, Outcome, refusal, run}
use Rattle.infon.specs.Board.{run_row}
use Rattle.infon.proofs.Codec.{AreBytes}
use Rattle.infon.proofs.Grown.{GoodRow}
use Rattle.infon.proofs.Cuts.{Reached, ran as goes_on}
use Rattle.infon.proofs.Refusals.{refusal_given, refusal_only, accepted_none, none_accepted}
use Rattle.infon.proofs.Demands as Demands
use Rattle.infon.proofs.Demands.{hypotheses_in, queries_in, query_at, list_in, kept_part, records_left}
use Rattle.working.specs.Working.{left}

-- the contract of `run`
abbrev pub Ran : List ℕ → List ℕ → ℕ → ℕ → List ℕ → Report → List ℕ → List ℕ → Type 0
Ran file journal used limit answers report journalAfter answersAfter =
    left report journalAfter answersAfter ≡ run file journal used limit answers

-- It leaves one answer, and one content of both buffers.
pub one_answer : (file journal : List ℕ) (used limit : ℕ) (answers : List ℕ) {report other : Report}
    {journalAfter answersAfter journalOther answersOther : List ℕ}
    → Ran file journal used limit answers report journalAfter answersAfter
    → Ran file journal used limit answers other journalOther answersOther
    → (report ≡ other) × ((journalAfter ≡ journalOther) × (answersAfter ≡ answersOther))
one_answer file journal used limit answers first second =
    let same = first ∙ sym second in
    (ap (λ (o : Outcome). o.report) same, (ap (λ (o : Outcome). o.journal) same, ap (λ (o : Outcome). o.answers) same))

module _ (file journal : List ℕ) (used limit : ℕ) (answers : List ℕ) (report : Report) (journalAfter answersAfter : List ℕ)
    (ran : Ran file journal used limit answers report journalAfter answersAfter) where
  -- what holds of the paper's outcome holds of what `run` leaves
  of_outcome : (P : Outcome → Type 0) → P (run file journal used limit answers) → P (left report journalAfter answersAfter)
  of_outcome P h = subst P (sym ran) h

  to_outcome : (P : Outcome → Type 0) → P (left report journalAfter answersAfter) → P (run file journal used limit answers)
  to_outcome P h = subst P ran h

  accepted : report.code ≡ 0 → (run file journal used limit answers).report.code ≡ 0
  accepted h = to_outcome (λ (o : Outcome). o.report.code ≡ 0) h

  finished : report.finished ≡ true → (run file journal used limit answers).report.finished ≡ true
  finished h = to_outcome (λ (o : Outcome). o.report.finished ≡ true) h

  -- ---- Demand 1

  -- "Each refusal is given exactly when its rule says, and then journal and answers stay byte for byte as they were": the first of
  -- the row whose rule holds is given, ..
  pub refused_where_its_rule_says : (code place : ℕ) → First (run_row file journal used limit answers) code place
      → left report journalAfter answersAfter ≡ refusal code place used journal answers
  refused_where_its_rule_says code place first = ran ∙ refusal_given file journal used limit answers first

  -- .. no other is, ..
  pub refused_only_there : 1 ≤ report.code → First (run_row file journal used limit answers) report.code report.place
  refused_only_there h =
      subst (λ (o : Outcome). First (run_row file journal used limit answers) o.report.code o.report.place) (sym ran)
      (refusal_only file journal used limit answers (to_outcome (λ (o : Outcome). 1 ≤ o.report.code) h))

  -- .. and none is exactly where no rule of the row holds.
  pub accepted_where_none_does : (report.code ≡ 0 → None (run_row file journal used limit answers))
      × (None (run_row file journal used limit answers) → report.code ≡ 0)
  accepted_where_none_does = (
    λ h. accepted_none file journal used limit answers (accepted h),
    λ none. of_outcome (λ (o : Outcome). o.report.code ≡ 0) (none_accepted file journal used limit answers none),
  )

  -- ---- Demand 2

  -- "Once the journal is finished, a query is yes exactly if some derivation .. reaches it from the hypotheses .."
  pub yes_exactly_if_derivable : report.code ≡ 0 → report.finished ≡ true → (i : ℕ) → i < length (queries_in file)
      → (get_or answersAfter i 0 ≡ 1) ↔ Derives (hypotheses_in file) (query_at file i)
  yes_exactly_if_derivable code ended i low =
      of_outcome (λ (o : Outcome). (get_or o.answers i 0 ≡ 1) ↔ Derives (hypotheses_in file) (query_at file i))
      (Demands.yes_exactly file journal used limit answers (accepted code) (finished ended) i low)

  -- ".. and no exactly if none does."
  pub no_exactly_if_not : report.code ≡ 0 → report.finished ≡ true → (i : ℕ) → i < length (queries_in file)
      → (get_or answersAfter i 0 ≡ 0) ↔ (Derives (hypotheses_in file) (query_at file i) → ⊥)
  no_exactly_if_not code ended i low =
      of_outcome (λ (o : Outcome). (get_or o.answers i 0 ≡ 0) ↔ (Derives (hypotheses_in file) (query_at file i) → ⊥))
      (Demands.no_exactly file journal used limit answers (accepted code) (finished ended) i low)

  -- "Before that, yes is said only where the journal already holds the record; .."
  pub yes_only_where_recorded : report.code ≡ 0 → (i : ℕ) → i < length (queries_in file) → get_or answersAfter i 0 ≡ 1
      → is_on_record (list_in file) (records_left file journal used limit) (query_at file i) ≡ true
  yes_only_where_recorded code i low answer =
      Demands.yes_recorded_only file journal used limit answers (accepted code) i low
      (to_outcome (λ (o : Outcome). get_or o.answers i 0 ≡ 1) answer)

  -- .. and the bytes that the journal now holds are those records.
  pub journal_holds_them : AreBytes journal → report.code ≡ 0
      → take report.used journalAfter ≡ spelled_all (records_left file journal used limit)
  journal_holds_them bytes code =
      of_outcome (λ (o : Outcome). take o.report.used o.journal ≡ spelled_all (records_left file journal used limit))
      (Demands.leaves file journal used limit answers (accepted code) bytes)

  -- Whoever reads these bytes back keeps exactly those records, whatever stands behind them.
  pub reads_back : AreBytes journal → report.code ≡ 0 → (after : List ℕ) → take report.used after ≡ take report.used journalAfter
      → kept_part file after report.used ≡ records_left file journal used limit
  reads_back bytes code =
      of_outcome
      (λ (o : Outcome).
      (after : List ℕ) → take o.report.used after ≡ take o.report.used o.journal
      → kept_part file after o.report.used ≡ records_left file journal used limit)
      (Demands.read_back file journal used limit answers (accepted code) bytes)

  -- ".. the rest is open."
  pub rest_is_open : report.code ≡ 0 → report.finished ≡ false → (i : ℕ) → i < length (queries_in file)
      → is_on_record (list_in file) (records_left file journal used limit) (query_at file i) ≡ false → get_or answersAfter i 0 ≡ 2
  rest_is_open code going i low off =
      of_outcome (λ (o : Outcome). get_or o.answers i 0 ≡ 2)
      (Demands.rest_open file journal used limit answers (accepted code) (to_outcome (λ (o : Outcome). o.report.finished ≡ false) going) i low
      off)

  -- ---- Demand 3

  -- "Each run adds as many records as its limit allows or as are missing, the smaller, and reports that number."
  pub adds_the_smaller : report.code ≡ 0 → (m : ℕ) → Missing (hypotheses_in file) (kept_part file journal used) 0 (list_in file) m
      → report.added ≡ min limit m
  adds_the_smaller code m h =
      of_outcome (λ (o : Outcome). o.report.added ≡ min limit m) (Demands.adds file journal used limit answers (accepted code) m h)

  -- "whether the journal is finished": it is exactly if the limit allows as many records as are missing.
  pub finished_exactly_if_enough : report.code ≡ 0 → (m : ℕ)
      → Missing (hypotheses_in file) (kept_part file journal used) 0 (list_in file) m → (report.finished ≡ true) ↔ (m ≤ limit)
  finished_exactly_if_enough code m h =
      of_outcome (λ (o : Outcome). (o.report.finished ≡ true) ↔ (m ≤ limit))
      (Demands.finished_exactly file journal used limit answers (accepted code) m h)

  -- "The longest beginning in which every record is good, its formula new and following from the file and earlier records, is
  -- kept": the report counts these records, and their bytes stay; they are what whole records at the journal's start, inside the
  -- used length, spell; each is good after those before it; and they begin with every other such row.
  pub keeps_the_longest : report.code ≡ 0
      → (report.kept ≡ length (kept_part file journal used))
      × ((take (record_bytes * report.kept) journalAfter ≡ take (record_bytes * report.kept) journal)
      × ((map decoded (take report.kept (whole_records (used / record_bytes) journal)) ≡ map Some (kept_part file journal used))
      × (GoodRow (hypotheses_in file) (list_in file) [] (kept_part file journal used)
      × ((row : List Record) → GoodRow (hypotheses_in file) (list_in file) [] row
      → map decoded (take (length row) (whole_records (used / record_bytes) journal)) ≡ map Some row
      → take (length row) (kept_part file journal used) ≡ row))))
  keeps_the_longest code =
      let such_a_row = Demands.kept_is_such_a_row file journal used in
      let count : report.kept ≡ length (kept_part file journal used) =
      of_outcome (λ (o : Outcome). o.report.kept ≡ length (kept_part file journal used)) (Demands.keeps file journal used limit answers (accepted code)) in
      let stay =
      of_outcome
      (λ (o : Outcome).
      take (record_bytes * length (kept_part file journal used)) o.journal ≡ take (record_bytes * length (kept_part file journal used)) journal)
      (Demands.kept_stay file journal used limit answers (accepted code)) in
      (count, (rw count stay, (rw count such_a_row.1, (such_a_row.0, Demands.kept_is_longest file journal used))))

  -- "the finished journal then records exactly the derivable formulas of the file's list, .."
  pub records_exactly_the_derivable : report.code ≡ 0 → report.finished ≡ true → (n : ℕ) → n < length (list_in file)
      → (is_recorded n (records_left file journal used limit) ≡ true) ↔ Derives (hypotheses_in file) (numbered (list_in file) n)
  records_exactly_the_derivable code ended n low =
      Demands.records_exactly file journal used limit answers (accepted code) (finished ended) n low

  -- ".. each once": none of the records that the journal holds is for a formula that an earlier one is for.
  pub records_each_once : (before after : List Record) (r : Record) → records_left file journal used limit ≡ before ++ (r ∷ after)
      → is_recorded r.formula before ≡ false
  records_each_once = Demands.each_once file journal used limit

  -- A history of runs and of cuts, in any order and number, begun on an empty journal: a call of `run` goes on with it.
  pub reached_by_running : Reached file journal used → Reached file journalAfter report.used
  reached_by_running reached =
      of_outcome (λ (o : Outcome). Reached file o.journal o.report.used) (goes_on journal used limit answers reached)

  -- "If that content is what cuts at any bytes left of a run begun on an empty journal for the same file .., the finished journal
  -- equals the uncut one, run until it too is finished, byte for byte", whatever runs with whatever limits led to either.
  pub ends_as_the_uncut : (journal₀ : List ℕ) (used₀ limit₀ : ℕ) (answers₀ : List ℕ) (report₀ : Report) (after₀ answersAfter₀ : List ℕ)
      → Ran file journal₀ used₀ limit₀ answers₀ report₀ after₀ answersAfter₀ → Reached file journal used → Reached file journal₀ used₀
      → report.code ≡ 0 → report.finished ≡ true → report₀.code ≡ 0 → report₀.finished ≡ true
      → (report.used ≡ report₀.used) × (take report.used journalAfter ≡ take report₀.used after₀)
  ends_as_the_uncut journal₀ used₀ limit₀ answers₀ report₀ after₀ answersAfter₀ ran₀ reached reached₀ code ended code₀ ended₀ =
      let same =
      Demands.cut_as_uncut file journal used limit answers journal₀ used₀ limit₀ answers₀ reached reached₀ (accepted code) (finished ended)
      (subst (λ (o : Outcome). o.report.code ≡ 0) ran₀ code₀) (subst (λ (o : Outcome). o.report.finished ≡ true) ran₀ ended₀) in (
        ap (λ (o : Outcome). o.report.used) ran ∙ (same.0 ∙ sym (ap (λ (o : Outcome). o.report.used) ran₀)),
        ap (λ (o : Outcome). take o.report.used o.journal) ran
            ∙ (same.1 ∙ sym (ap (λ (o : Outcome). take o.report.used o.journal) ran₀)),
      )
