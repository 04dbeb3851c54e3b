-- Demand 1, the codes: a run gives the first of its row whose rule holds, with the place that the table names, and none where none
-- holds.
-- Assumes nothing.
use Prim.Native.Nat.{ℕ, ◌+◌, ◌*◌, ◌≤◌, ◌<◌}
use native.Mathlib.Omega.{arith}
use mathlib.Core.Path.{◌≡◌, refl, sym, ◌∙◌, ap, subst}
use mathlib.Core.Logic.{◌⊎◌, inl, inr, ⊎_elim}
use mathlib.Core.Bool.{Bool, true, false, not, not-not}
use mathlib.Core.List.{List, [], ◌∷◌, ◌++◌}
use lib.ListN.{length, length-append}
use lib.Dec.{ltb}
use borrow.Author.Tests.{ltb-true, ltb-false, lt-ltb, le-ltb}
use Rattle.infon.specs.declared.Record.{Record}
use Rattle.infon.specs.Formula.{Formula, nodes, depth}
use Rattle.infon.specs.Codes.{and_then, when, tried, Code, First, None, Verdict, passed, refused}
use Rattle.infon.specs.Policy.{Line, lines_of, is_well_formed, Entry, entries_of, formula_in, hypotheses_of, queries_of, most_bytes, code1, code2_from, code2, most_nodes, code3_from, code3, most_depth, code4}
use Rattle.infon.specs.Listing.{weakened_bases, enlist, list_from, list_of, most_listed, code5_from, code5}
use Rattle.infon.specs.Journal.{record_bytes, kept_of, grown}
use Rattle.infon.specs.Run.{file_codes, file_verdict, code6, code7, code8, code9, Outcome, refusal, success, run}
use Rattle.infon.specs.Board.{nodes_in, is_shallow, FileTooLong, file_too_long, LineNotWellFormed, line_not_well_formed, TooManyNodes, too_many_nodes, TooDeep, too_deep, TooManyListed, too_many_listed, JournalTooShort, journal_too_short, UsedTooLong, used_too_long, AnswersTooShort, answers_too_short, NoRoom, no_room, file_row, run_row}
use Rattle.std.proofs.lemmas.Bool.{cases_Bool}
use Rattle.infon.proofs.Listed.{enlist_begins, list_from_append}
use Rattle.infon.proofs.Tried.{when_true, when_false, pass_on, when_passed, and_then_passed, tried_append, scanned, FirstBad, scanned_says, gone, counted, FirstOver, counted_says, Says, Speaks, silent, speaks, speaks_append, given_or_none, none_given, given_none, first_numbered, refuses, passes}

-- ---- The verdicts of the codes, as searches through a row

code2_scanned : (lines : List Line) → code2_from lines ≡ scanned is_well_formed 2 (λ (l : Line). l.start) lines
unfolding code2_from scanned
code2_scanned [] = refl
code2_scanned (line ∷ rest) = ap (and_then (when (not (is_well_formed line)) 2 line.start)) (code2_scanned rest)

code4_scanned : (entries : List Entry) → code4 entries ≡ scanned is_shallow 4 (λ (e : Entry). e.start) entries
unfolding code4 scanned is_shallow
code4_scanned [] = refl
code4_scanned (e ∷ rest) =
    let deep = ltb most_depth (depth (formula_in e.sentence)) in
    ap (and_then (when deep 4 e.start)) (code4_scanned rest)
    ∙ ap (λ (b : Bool). and_then (when b 4 e.start) (scanned is_shallow 4 (λ (f : Entry). f.start) rest)) (sym (not-not deep))

add_nodes : ℕ → Entry → ℕ
add_nodes count e = count + nodes (formula_in e.sentence)

add_nodes_grows : (count : ℕ) (e : Entry) → count ≤ add_nodes count e
unfolding add_nodes
add_nodes_grows count e = omega arith

code3_counted : (count : ℕ) (entries : List Entry)
    → code3_from count entries ≡ counted add_nodes (λ (n : ℕ). n) add_nodes_grows most_nodes 3 (λ (e : Entry). e.start) count entries
unfolding code3_from counted add_nodes
code3_counted count [] = refl
code3_counted count (e ∷ rest) =
    let now = count + nodes (formula_in e.sentence) in
    ap (and_then (when (ltb most_nodes now) 3 e.start)) (code3_counted now rest)

add_bases : List Formula → Entry → List Formula
add_bases fs e = enlist fs (weakened_bases [] (formula_in e.sentence))

add_bases_grows : (fs : List Formula) (e : Entry) → length fs ≤ length (add_bases fs e)
unfolding add_bases
add_bases_grows fs e =
    let begins = enlist_begins fs (weakened_bases [] (formula_in e.sentence)) in
    let sum = ap length begins.row ∙ length-append fs begins.rest in
    omega arith

code5_counted : (fs : List Formula) (entries : List Entry)
    → code5_from fs entries ≡ counted add_bases length add_bases_grows most_listed 5 (λ (e : Entry). e.start) fs entries
unfolding code5_from counted add_bases
code5_counted fs [] = refl
code5_counted fs (e ∷ rest) =
    let now = enlist fs (weakened_bases [] (formula_in e.sentence)) in
    ap (and_then (when (ltb most_listed (length now)) 5 e.start)) (code5_counted now rest)

-- what the searches have gone through, in the rules' own words
gone_nodes : (count : ℕ) (entries : List Entry)
    → gone add_nodes (λ (n : ℕ). n) add_nodes_grows most_nodes 3 (λ (e : Entry). e.start) count entries ≡ count + nodes_in entries
unfolding gone add_nodes nodes_in
gone_nodes count [] = omega arith
gone_nodes count (e ∷ rest) = gone_nodes (count + nodes (formula_in e.sentence)) rest ∙ omega arith

gone_bases : (fs : List Formula) (entries : List Entry)
    → gone add_bases length add_bases_grows most_listed 5 (λ (e : Entry). e.start) fs entries ≡ list_from fs entries
unfolding gone add_bases list_from
gone_bases fs [] = refl
gone_bases fs (e ∷ rest) = gone_bases (enlist fs (weakened_bases [] (formula_in e.sentence))) rest

nodes_more : (before : List Entry) (e : Entry) → nodes_in (before ++ (e ∷ [])) ≡ nodes_in before + nodes (formula_in e.sentence)
unfolding nodes_in
nodes_more [] e = omega arith
nodes_more (x ∷ before) e = let later = nodes_more before e in omega arith

list_more : (before : List Entry) (e : Entry) → list_of (before ++ (e ∷ [])) ≡ enlist (list_of before) (weakened_bases [] (formula_in e.sentence))
unfolding list_of list_from
list_more before e = list_from_append [] before (e ∷ [])

-- ---- The rules, by what the searches find first

module _ (file : List ℕ) where
  abbrev FirstDeformed : ℕ → Type 0
  FirstDeformed = FirstBad is_well_formed 2 (λ (l : Line). l.start) (lines_of file)

  deformed_rule : (at : ℕ) → FirstDeformed at → LineNotWellFormed file at
  deformed_rule at f =
      subst (LineNotWellFormed file) (sym f.here) (line_not_well_formed f.before f.behind f.bad f.row f.all_good f.is_bad)

  rule_deformed : (at : ℕ) → LineNotWellFormed file at → FirstDeformed at
  rule_deformed at (line_not_well_formed before after line row calm bad) =
      record { before = before; bad = line; behind = after; row = row; all_good = calm; is_bad = bad; here = refl }

  abbrev FirstFull : ℕ → Type 0
  FirstFull = FirstOver add_nodes (λ (n : ℕ). n) add_nodes_grows most_nodes 3 (λ (e : Entry). e.start) 0 (entries_of file)

  full_rule : (at : ℕ) → FirstFull at → TooManyNodes file at
  unfolding add_nodes
  full_rule at f =
      let passed_by = gone_nodes 0 f.before in
      let sum = nodes_more f.before f.last in
      let within = f.within in
      let over = f.over in
      subst (TooManyNodes file) (sym f.here) (too_many_nodes f.before f.behind f.last f.row (omega arith) (omega arith))

  rule_full : (at : ℕ) → TooManyNodes file at → FirstFull at
  unfolding add_nodes
  rule_full at (too_many_nodes before after e row within over) =
      let passed_by = gone_nodes 0 before in
      let sum = nodes_more before e in
      record { before = before; last = e; behind = after; row = row; within = omega arith; over = omega arith; here = refl }

  abbrev FirstDeep : ℕ → Type 0
  FirstDeep = FirstBad is_shallow 4 (λ (e : Entry). e.start) (entries_of file)

  deep_rule : (at : ℕ) → FirstDeep at → TooDeep file at
  deep_rule at f = subst (TooDeep file) (sym f.here) (too_deep f.before f.behind f.bad f.row f.all_good f.is_bad)

  rule_deep : (at : ℕ) → TooDeep file at → FirstDeep at
  rule_deep at (too_deep before after e row calm bad) =
      record { before = before; bad = e; behind = after; row = row; all_good = calm; is_bad = bad; here = refl }

  abbrev FirstLong : ℕ → Type 0
  FirstLong = FirstOver add_bases length add_bases_grows most_listed 5 (λ (e : Entry). e.start) [] (entries_of file)

  long_rule : (at : ℕ) → FirstLong at → TooManyListed file at
  unfolding list_of add_bases
  long_rule at f =
      let passed_by = ap length (gone_bases [] f.before) in
      let more = ap length (list_more f.before f.last) in
      let within = f.within in
      let over =
      subst (λ (fs : List Formula). most_listed < length (enlist fs (weakened_bases [] (formula_in f.last.sentence))))
      (gone_bases [] f.before) f.over in
      subst (TooManyListed file) (sym f.here) (too_many_listed f.before f.behind f.last f.row (omega arith) (omega arith))

  rule_long : (at : ℕ) → TooManyListed file at → FirstLong at
  unfolding list_of add_bases
  rule_long at (too_many_listed before after e row within over) =
      let passed_by = ap length (gone_bases [] before) in
      let more = ap length (list_more before e) in
      record {
        before = before;
        last = e;
        behind = after;
        row = row;
        within = omega arith;
        over =
            subst (λ (fs : List Formula). most_listed < length (enlist fs (weakened_bases [] (formula_in e.sentence))))
            (sym (gone_bases [] before)) (omega arith);
        here = refl;
      }

-- ---- The codes of a call

pub not_less : (a b code : ℕ) → when (ltb a b) code 0 ≡ passed → b ≤ a
not_less a b code h = ltb-false a b (when_passed (ltb a b) code 0 h)

-- a code by its test, at place 0
not_tried : (a b code : ℕ) → b ≤ a → when (ltb a b) code 0 ≡ passed
not_tried a b code h = when_false (ltb a b) code 0 (le-ltb a b h)

pub tests : (c : Code) (b : Bool) → ((place : ℕ) → c.rule place → (place ≡ 0) × (b ≡ true)) → (b ≡ true → c.rule 0) → Says c (when b c.number 0)
tests c b holds rule =
    record {
      given = λ place h. when_true b c.number 0 (holds place h).1 ∙ ap (refused c.number) (sym (holds place h).0);
      either =
          ⊎_elim (λ (h : b ≡ true). inr (0, (when_true b c.number 0 h, rule h))) (λ (h : b ≡ false). inl (when_false b c.number 0 h))
          (cases_Bool b);
    }

-- a code whose test is that one number is below another
pub compares : (c : Code) (a b : ℕ) → ((place : ℕ) → c.rule place → (place ≡ 0) × (a < b)) → (a < b → c.rule 0) → Says c (when (ltb a b) c.number 0)
compares c a b less rule =
    tests c (ltb a b) (λ place h. ((less place h).0, lt-ltb a b (less place h).1)) (λ h. rule (ltb-true a b h))

pub says7 : (journal : List ℕ) (used : ℕ) → Says (record { number = 7; rule = UsedTooLong journal used }) (code7 journal used)
unfolding code7
says7 journal used = compares _ (length journal) used (λ place h. inside h) (λ h. used_too_long h)
  where
    inside : {place : ℕ} → UsedTooLong journal used place → (place ≡ 0) × (length journal < used)
    inside (used_too_long h) = (refl, h)

module _ (file : List ℕ) where
  says1 : Says (record { number = 1; rule = FileTooLong file }) (code1 file)
  unfolding code1
  says1 = compares _ most_bytes (length file) (λ place h. inside h) (λ h. file_too_long h)
    where
      inside : {place : ℕ} → FileTooLong file place → (place ≡ 0) × (most_bytes < length file)
      inside (file_too_long h) = (refl, h)

  says2 : Says (record { number = 2; rule = LineNotWellFormed file }) (code2 file)
  unfolding code2
  says2 =
      subst (Says (record { number = 2; rule = LineNotWellFormed file })) (sym (code2_scanned (lines_of file)))
      (scanned_says is_well_formed 2 (λ (l : Line). l.start) (lines_of file) (LineNotWellFormed file) (deformed_rule file) (rule_deformed file))

  says3 : Says (record { number = 3; rule = TooManyNodes file }) (code3 (entries_of file))
  unfolding code3
  says3 =
      subst (Says (record { number = 3; rule = TooManyNodes file })) (sym (code3_counted 0 (entries_of file)))
      (counted_says add_nodes (λ (n : ℕ). n) add_nodes_grows most_nodes 3 (λ (e : Entry). e.start) 0 (entries_of file) (omega arith) (TooManyNodes file)
      (full_rule file) (rule_full file))

  says4 : Says (record { number = 4; rule = TooDeep file }) (code4 (entries_of file))
  says4 =
      subst (Says (record { number = 4; rule = TooDeep file })) (sym (code4_scanned (entries_of file)))
      (scanned_says is_shallow 4 (λ (e : Entry). e.start) (entries_of file) (TooDeep file) (deep_rule file) (rule_deep file))

  says5 : Says (record { number = 5; rule = TooManyListed file }) (code5 (entries_of file))
  unfolding code5
  says5 =
      subst (Says (record { number = 5; rule = TooManyListed file })) (sym (code5_counted [] (entries_of file)))
      (counted_says add_bases length add_bases_grows most_listed 5 (λ (e : Entry). e.start) [] (entries_of file) (omega arith) (TooManyListed file)
      (long_rule file) (rule_long file))

  -- the codes about the file alone
  pub file_speaks : Speaks (file_row file) (file_codes file)
  unfolding file_row file_codes
  file_speaks =
      speaks _ _ _ _ says1 (omega arith)
      (speaks _ _ _ _ says2 (omega arith)
      (speaks _ _ _ _ says3 (omega arith) (speaks _ _ _ _ says4 (omega arith) (speaks _ _ _ _ says5 (omega arith) silent))))

  -- each of them passes where the file is accepted
  pub record FilePasses : Type 0 where
    pub short : length file ≤ most_bytes
    pub formed : code2 file ≡ passed
    pub few : code3 (entries_of file) ≡ passed
    pub shallow : code4 (entries_of file) ≡ passed
    pub listed : code5 (entries_of file) ≡ passed

  pub accepted_passes : file_verdict file ≡ passed → FilePasses
  unfolding file_verdict file_codes tried code1
  accepted_passes e =
      let entries = entries_of file in
      let from5 = and_then (code5 entries) passed in
      let from4 = and_then (code4 entries) from5 in
      let from3 = and_then (code3 entries) from4 in
      let behind1 = and_then_passed (code1 file) (and_then (code2 file) from3) e in
      let behind2 = and_then_passed (code2 file) from3 behind1.1 in
      let behind3 = and_then_passed (code3 entries) from4 behind2.1 in
      let behind4 = and_then_passed (code4 entries) from5 behind3.1 in
      record {
        short = not_less most_bytes (length file) 1 behind1.0;
        formed = behind2.0;
        few = behind3.0;
        shallow = behind4.0;
        listed = (and_then_passed (code5 entries) passed behind4.1).0;
      }

module _ (file journal : List ℕ) (used limit : ℕ) (answers : List ℕ) where
  abbrev kept : List Record
  kept = kept_of (hypotheses_of (entries_of file)) (list_of (entries_of file)) journal used

  abbrev added : List Record
  added = grown (hypotheses_of (entries_of file)) (list_of (entries_of file)) kept limit

  says6 : Says (record { number = 6; rule = JournalTooShort file journal }) (code6 (list_of (entries_of file)) journal)
  unfolding code6
  says6 = compares _ (length journal) (record_bytes * length (list_of (entries_of file))) (λ place h. inside h) (λ h. journal_too_short h)
    where
      inside : {place : ℕ} → JournalTooShort file journal place → (place ≡ 0) × (length journal < record_bytes * length (list_of (entries_of file)))
      inside (journal_too_short h) = (refl, h)

  says8 : Says (record { number = 8; rule = AnswersTooShort file answers }) (code8 (queries_of (entries_of file)) answers)
  unfolding code8
  says8 = compares _ (length answers) (length (queries_of (entries_of file))) (λ place h. inside h) (λ h. answers_too_short h)
    where
      inside : {place : ℕ} → AnswersTooShort file answers place → (place ≡ 0) × (length answers < length (queries_of (entries_of file)))
      inside (answers_too_short h) = (refl, h)

  says9 : Says (record { number = 9; rule = NoRoom kept added journal }) (code9 kept added journal)
  unfolding code9
  says9 = compares _ (length journal) (record_bytes * (length kept + length added)) (λ place h. inside h) (λ h. no_room h)
    where
      inside : {place : ℕ} → NoRoom kept added journal place → (place ≡ 0) × (length journal < record_bytes * (length kept + length added))
      inside (no_room h) = (refl, h)

  abbrev run_codes : List Verdict
  run_codes =
      file_codes file
      ++ (code6 (list_of (entries_of file)) journal
      ∷ (code7 journal used ∷ (code8 (queries_of (entries_of file)) answers ∷ (code9 kept added journal ∷ []))))

  run_speaks : Speaks (run_row file journal used limit answers) run_codes
  unfolding run_row
  run_speaks =
      speaks_append (file_speaks file)
      (speaks _ _ _ _ says6 (omega arith)
      (speaks _ _ _ _ (says7 journal used) (omega arith) (speaks _ _ _ _ says8 (omega arith) (speaks _ _ _ _ says9 (omega arith) silent))))

  -- what a run does where no code is given
  abbrev outcome : Outcome
  outcome = success (hypotheses_of (entries_of file)) (list_of (entries_of file)) (queries_of (entries_of file)) kept added journal answers

  -- The first of the row whose rule holds is given; then report and both buffers are those of a refusal.
  pub refusal_given : {code place : ℕ} → First (run_row file journal used limit answers) code place
      → run file journal used limit answers ≡ refusal code place used journal answers
  unfolding run
  refusal_given first = refuses run_speaks (λ (code place : ℕ). refusal code place used journal answers) outcome first

  -- Where no rule of the row holds, none is given.
  pub none_refused : None (run_row file journal used limit answers) → run file journal used limit answers ≡ outcome
  unfolding run
  none_refused none = passes run_speaks (λ (code place : ℕ). refusal code place used journal answers) outcome none

  -- One of the two is so.
  pub given_or_not : None (run_row file journal used limit answers)
      ⊎ ((code : ℕ) × ((place : ℕ) × First (run_row file journal used limit answers) code place))
  given_or_not = given_or_none run_speaks

  pub given_numbered : {code place : ℕ} → First (run_row file journal used limit answers) code place → 1 ≤ code
  given_numbered first = first_numbered run_speaks first

  -- A code in the report is the first of the row whose rule holds, ..
  pub refusal_only : 1 ≤ (run file journal used limit answers).report.code
      → First (run_row file journal used limit answers) (run file journal used limit answers).report.code (run file journal used limit answers).report.place
  unfolding refusal success
  refusal_only told =
      ⊎_elim (λ none. absurd (let e = ap (λ (o : Outcome). o.report.code) (none_refused none) in omega arith))
      (λ found.
      subst (λ (o : Outcome). First (run_row file journal used limit answers) o.report.code o.report.place)
      (sym (refusal_given found.1.1)) found.1.1)
      given_or_not

  -- .. and there is none exactly where no rule of the row holds.
  pub accepted_none : (run file journal used limit answers).report.code ≡ 0 → None (run_row file journal used limit answers)
  unfolding refusal
  accepted_none zero_code =
      ⊎_elim (λ none. none)
      (λ found.
      absurd
      (let e = ap (λ (o : Outcome). o.report.code) (refusal_given found.1.1) in let low = given_numbered found.1.1 in omega arith))
      given_or_not

  pub none_accepted : None (run_row file journal used limit answers) → (run file journal used limit answers).report.code ≡ 0
  unfolding success
  none_accepted none = ap (λ (o : Outcome). o.report.code) (none_refused none)

  -- What is so where no rule of the row holds.
  pub record LetsPass : Type 0 where
    pub accepted : file_verdict file ≡ passed
    pub journal_long : record_bytes * length (list_of (entries_of file)) ≤ length journal
    pub used_inside : used ≤ length journal
    pub answers_long : length (queries_of (entries_of file)) ≤ length answers
    pub room : record_bytes * (length kept + length added) ≤ length journal

  pub none_lets_pass : None (run_row file journal used limit answers) → LetsPass
  unfolding file_verdict tried code6 code7 code8 code9
  none_lets_pass none =
      let entries = entries_of file in
      let from9 = tried (code9 kept added journal ∷ []) in
      let from8 = and_then (code8 (queries_of entries) answers) from9 in
      let from7 = and_then (code7 journal used) from8 in
      let from6 = and_then (code6 (list_of entries) journal) from7 in
      let all = and_then_passed (tried (file_codes file)) from6 (sym (tried_append (file_codes file) _) ∙ none_given run_speaks none) in
      let behind6 = and_then_passed (code6 (list_of entries) journal) from7 all.1 in
      let behind7 = and_then_passed (code7 journal used) from8 behind6.1 in
      let behind8 = and_then_passed (code8 (queries_of entries) answers) from9 behind7.1 in
      let last = and_then_passed (code9 kept added journal) passed behind8.1 in
      record {
        accepted = all.0;
        journal_long = not_less (length journal) (record_bytes * length (list_of entries)) 6 behind6.0;
        used_inside = not_less (length journal) used 7 behind7.0;
        answers_long = not_less (length answers) (length (queries_of entries)) 8 behind8.0;
        room = not_less (length journal) (record_bytes * (length kept + length added)) 9 last.0;
      }

  pub lets_pass_none : LetsPass → None (run_row file journal used limit answers)
  unfolding file_verdict tried code6 code7 code8 code9
  lets_pass_none lets =
      let entries = entries_of file in
      given_none run_speaks
      (tried_append (file_codes file) _
      ∙ (pass_on lets.accepted _
      ∙ (pass_on (not_tried (length journal) (record_bytes * length (list_of entries)) 6 lets.journal_long) _
      ∙ (pass_on (not_tried (length journal) used 7 lets.used_inside) _
      ∙ (pass_on (not_tried (length answers) (length (queries_of entries)) 8 lets.answers_long) _
      ∙ pass_on (not_tried (length journal) (record_bytes * (length kept + length added)) 9 lets.room) _)))))

  pub lets_pass : (run file journal used limit answers).report.code ≡ 0 → LetsPass
  lets_pass zero_code = none_lets_pass (accepted_none zero_code)
