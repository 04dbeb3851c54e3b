-- 02, M-100: a call for a chain gives the first code of its row whose rule holds, and changes nothing then; where none holds it lends
-- the query's chain, the one row of which all that 02 says holds, and a journal of its own.
-- Assumes nothing.
use Prim.Native.Nat.{ℕ, suc, ◌+◌, ◌*◌, ◌≤◌, ◌<◌}
use native.Mathlib.Nat.{le_refl, pos_of_ne-zero}
use native.Mathlib.Omega.{arith}
use mathlib.Core.Path.{◌≡◌, refl, sym, ◌∙◌, ap, subst}
use mathlib.Core.Logic.{◌⊎◌, ⊎_elim}
use mathlib.Core.Bool.{true, ◌||◌, not}
use mathlib.Core.List.Memᴰ
use mathlib.Core.List.{List, [], ◌∷◌, ◌++◌}
use lib.ListN.{length, take, drop, get_or}
use lib.Seq.{take_at, take-length, drop_at}
use lib.Dec.{ltb, eqb}
use borrow.Author.Tests.{ltb-true, ltb-false, lt-ltb, eq-eqb, eqb-true, eqb-false, not-true, not-false}
use Rattle.infon.specs.declared.Record.{Record}
use Rattle.infon.specs.Formula.{Formula}
use Rattle.infon.specs.Codes.{and_then, tried, First, None, Verdict, passed}
use Rattle.infon.specs.Policy.{entries_of, queries_of, hypotheses_of}
use Rattle.infon.specs.Listing.{list_of}
use Rattle.infon.specs.Journal.{record_bytes, spelled_all, whole_records, kept_after, kept_of}
use Rattle.infon.specs.Reasons.{reasons, IsChain}
use Rattle.infon.specs.Run.{file_codes, file_verdict, is_on_record, written, code7, run}
use Rattle.infon.specs.Chain.{query_of, code31, code32, code33, ChainOutcome, chain_refusal, lent, chain}
use Rattle.infon.specs.Board.{CountOutside, count_none, count_beyond, NotRecorded, not_recorded, ChainTooLong, chain_too_long, chain_row}
use Rattle.std.proofs.lemmas.Bool.{or_right, or_cases, or_parts}
use Rattle.infon.proofs.Rows.{some_of_witness, witness_some_of}
use Rattle.infon.proofs.Same.{same_eq}
use Rattle.infon.proofs.Listed.{numbered_injective, code5_passed}
use Rattle.infon.proofs.Codec.{length_spelled_all, whole_records_cong}
use Rattle.infon.proofs.Grown.{kept_of_spelled}
use Rattle.infon.proofs.Reasons.{Once, reasons_chain, chain_reasons, chain_good, own_stands}
use Rattle.infon.proofs.Tried.{when_passed, and_then_passed, tried_append, Says, Speaks, silent, speaks, speaks_append, given_or_none, none_given, first_numbered, refuses, passes}
use Rattle.infon.proofs.Refusals.{tests, compares, not_less, says7, file_speaks, accepted_passes, none_accepted, LetsPass, lets_pass_none}
use Rattle.infon.proofs.Demands.{hypotheses_in, kept_part, added_part, nine_times, kept_is_such_a_row, keeps, recorded_answered, never_more_than_the_list}
use Rattle.infon.proofs.Missing.{grown_short}

on_record_more : (fs : List Formula) (rs more : List Record) (x : Formula) → is_on_record fs rs x ≡ true → is_on_record fs (rs ++ more) x ≡ true
unfolding is_on_record
on_record_more fs rs more x on =
    let found = some_of_witness _ rs on in
    witness_some_of _ (Memᴰ.append_left more found.1.0) found.1.1

module _ (file journal : List ℕ) (used count : ℕ) (out : List ℕ) where
  abbrev queries : List Formula
  queries = queries_of (entries_of file)

  abbrev fs : List Formula
  fs = list_of (entries_of file)

  abbrev kept : List Record
  kept = kept_of (hypotheses_of (entries_of file)) fs journal used

  abbrev asked : Formula
  asked = query_of queries count

  abbrev row : List Record
  row = reasons fs asked kept

  says31 : Says (record { number = 31; rule = CountOutside file count }) (code31 queries count)
  unfolding code31
  says31 =
      tests _ (eqb count 0 || ltb (length queries) count) (λ place h. inside h)
      (λ h.
      ⊎_elim (λ (none : eqb count 0 ≡ true). count_none (eqb-true count 0 none))
      (λ (over : ltb (length queries) count ≡ true). count_beyond (ltb-true (length queries) count over))
      (or_cases (eqb count 0) (ltb (length queries) count) h))
    where
      inside : {place : ℕ} → CountOutside file count place → (place ≡ 0) × (eqb count 0 || ltb (length queries) count ≡ true)
      inside (count_none e) = (refl, rw (eq-eqb count 0 e))
      inside (count_beyond h) = (refl, or_right (eqb count 0) _ (lt-ltb (length queries) count h))

  says32 : Says (record { number = 32; rule = NotRecorded fs kept asked }) (code32 fs kept asked)
  unfolding code32
  says32 = tests _ (not (is_on_record fs kept asked)) (λ place h. inside h) (λ h. not_recorded (not-true (is_on_record fs kept asked) h))
    where
      inside : {place : ℕ} → NotRecorded fs kept asked place → (place ≡ 0) × (not (is_on_record fs kept asked) ≡ true)
      inside (not_recorded h) = (refl, ap not h)

  says33 : Says (record { number = 33; rule = ChainTooLong row out }) (code33 row out)
  unfolding code33
  says33 = compares _ (length out) (record_bytes * length row) (λ place h. inside h) (λ h. chain_too_long h)
    where
      inside : {place : ℕ} → ChainTooLong row out place → (place ≡ 0) × (length out < record_bytes * length row)
      inside (chain_too_long h) = (refl, h)

  abbrev chain_codes : List Verdict
  chain_codes = file_codes file ++ (code7 journal used ∷ (code31 queries count ∷ (code32 fs kept asked ∷ (code33 row out ∷ []))))

  chain_speaks : Speaks (chain_row file journal used count out) chain_codes
  unfolding chain_row
  chain_speaks =
      speaks_append (file_speaks file)
      (speaks _ _ _ _ (says7 journal used) (omega arith)
      (speaks _ _ _ _ says31 (omega arith) (speaks _ _ _ _ says32 (omega arith) (speaks _ _ _ _ says33 (omega arith) silent))))

  -- The first of the row whose rule holds is given; no record is then told of, and the buffer is as it was.
  pub chain_refused : {code place : ℕ} → First (chain_row file journal used count out) code place → chain file journal used count out ≡ chain_refusal code place out
  unfolding chain
  chain_refused first = refuses chain_speaks (λ (code place : ℕ). chain_refusal code place out) (lent row out) first

  -- Where no rule of the row holds, the reasons are lent.
  pub chain_lent : None (chain_row file journal used count out) → chain file journal used count out ≡ lent row out
  unfolding chain
  chain_lent none = passes chain_speaks (λ (code place : ℕ). chain_refusal code place out) (lent row out) none

  -- One of the two is so.
  pub chain_given_or_not : None (chain_row file journal used count out)
      ⊎ ((code : ℕ) × ((place : ℕ) × First (chain_row file journal used count out) code place))
  chain_given_or_not = given_or_none chain_speaks

  -- A code that is told is the first of the row whose rule holds, ..
  pub chain_refused_only : 1 ≤ (chain file journal used count out).told.code
      → First (chain_row file journal used count out) (chain file journal used count out).told.code (chain file journal used count out).told.place
  unfolding chain_refusal lent
  chain_refused_only told =
      ⊎_elim (λ none. absurd (let e = ap (λ (o : ChainOutcome). o.told.code) (chain_lent none) in omega arith))
      (λ found.
      subst (λ (o : ChainOutcome). First (chain_row file journal used count out) o.told.code o.told.place) (sym (chain_refused found.1.1))
      found.1.1)
      chain_given_or_not

  -- .. and none is told exactly where no rule of the row holds.
  pub chain_none : (chain file journal used count out).told.code ≡ 0 → None (chain_row file journal used count out)
  unfolding chain_refusal
  chain_none zero_code =
      ⊎_elim (λ none. none)
      (λ found.
      absurd
      (let e = ap (λ (o : ChainOutcome). o.told.code) (chain_refused found.1.1) in let low = first_numbered chain_speaks found.1.1 in omega arith))
      chain_given_or_not

  pub none_chain : None (chain_row file journal used count out) → (chain file journal used count out).told.code ≡ 0
  unfolding lent
  none_chain none = ap (λ (o : ChainOutcome). o.told.code) (chain_lent none)

  -- What is so where no rule of the row holds.
  pub record LetsLend : Type 0 where
    pub accepted : file_verdict file ≡ passed
    pub used_inside : used ≤ length journal
    pub counted : (1 ≤ count) × (count ≤ length queries)
    pub recorded : is_on_record fs kept asked ≡ true
    pub room : record_bytes * length row ≤ length out

  pub none_lets_lend : None (chain_row file journal used count out) → LetsLend
  unfolding file_verdict tried code7 code31 code32 code33
  none_lets_lend none =
      let from33 = tried (code33 row out ∷ []) in
      let from32 = and_then (code32 fs kept asked) from33 in
      let from31 = and_then (code31 queries count) from32 in
      let from7 = and_then (code7 journal used) from31 in
      let all = and_then_passed (tried (file_codes file)) from7 (sym (tried_append (file_codes file) _) ∙ none_given chain_speaks none) in
      let behind7 = and_then_passed (code7 journal used) from31 all.1 in
      let behind31 = and_then_passed (code31 queries count) from32 behind7.1 in
      let behind32 = and_then_passed (code32 fs kept asked) from33 behind31.1 in
      let last = and_then_passed (code33 row out) passed behind32.1 in
      let outside = or_parts (eqb count 0) (ltb (length queries) count) (when_passed (eqb count 0 || ltb (length queries) count) 31 0 behind31.0) in
      record {
        accepted = all.0;
        used_inside = not_less (length journal) used 7 behind7.0;
        counted = (pos_of_ne-zero (eqb-false count 0 outside.0), ltb-false (length queries) count outside.1);
        recorded = not-false (is_on_record fs kept asked) (when_passed (not (is_on_record fs kept asked)) 32 0 behind32.0);
        room = not_less (length out) (record_bytes * length row) 33 last.0;
      }

  -- no two numbers of the list stand for the query
  asked_once : Once (hypotheses_in file) fs asked
  asked_once r s low other first second =
      numbered_injective (entries_of file) r.formula s.formula low other (sym (same_eq asked _ first) ∙ same_eq asked _ second)

  -- "in journal order, the query's own last. Every premise of a listed record is listed before it, and every record but the last is a
  -- premise of a later listed one": so it is with what is lent, ..
  pub lent_chain : LetsLend → IsChain fs asked kept row
  unfolding is_on_record
  lent_chain lends = reasons_chain (hypotheses_in file) fs asked asked_once kept (kept_is_such_a_row file journal used).0 lends.recorded

  -- .. and with no other row of records.
  pub no_other_chain : (other : List Record) → IsChain fs asked kept other → other ≡ row
  no_other_chain other other-chain = chain_reasons (hypotheses_in file) fs asked asked_once kept other (kept_is_such_a_row file journal used).0 other-chain

  -- "The records go together to the front of a lent buffer, whose later bytes stay", and "their number is returned": so many bytes of
  -- the buffer spell the chain, and those behind them are as they were.
  pub lent_front : None (chain_row file journal used count out)
      → ((chain file journal used count out).told.records ≡ length row)
      × ((take (record_bytes * length row) (chain file journal used count out).out ≡ spelled_all row)
      × (drop (record_bytes * length row) (chain file journal used count out).out ≡ drop (record_bytes * length row) out))
  unfolding lent written
  lent_front none =
      let bytes = length_spelled_all row in
      let ends : 0 + length (spelled_all row) ≡ record_bytes * length row = omega arith in
      rw (chain_lent none) (
        refl,
        (
          take_at (spelled_all row) (drop (0 + length (spelled_all row)) out) (record_bytes * length row) bytes,
          drop_at (spelled_all row) (drop (0 + length (spelled_all row)) out) (record_bytes * length row) bytes ∙ ap (λ (n : ℕ). drop n out) ends,
        ),
      )

  -- A journal that begins with the chain is kept as far as the chain goes, ..
  pub chain_kept : LetsLend → (again : List ℕ) → take (record_bytes * length row) again ≡ spelled_all row → kept_part file again (record_bytes * length row) ≡ row
  unfolding kept_of
  chain_kept lends again begins =
      let hyps = hypotheses_in file in
      let short = code5_passed (entries_of file) (accepted_passes file lends.accepted).listed in
      let good = chain_good hyps fs asked kept row (kept_is_such_a_row file journal used).0 (lent_chain lends) in
      let alike = begins ∙ sym (take_at (spelled_all row) [] (record_bytes * length row) (length_spelled_all row)) in
      ap (λ (n : ℕ). kept_after hyps fs [] (whole_records n again)) (nine_times (length row))
      ∙ (ap (kept_after hyps fs []) (whole_records_cong (length row) again (spelled_all row ++ []) alike)
      ∙ (kept_of_spelled hyps fs short row [] (length row) good (le_refl (length row)) ∙ take-length row))

  own_in_row : LetsLend → is_on_record fs row asked ≡ true
  unfolding is_on_record
  own_in_row lends = own_stands (hypotheses_in file) fs asked kept row (lent_chain lends)

  -- .. and a run on it, in buffers that are long enough for one, passes, keeps it whole and answers the query with yes, whatever its
  -- limit.
  pub chain_answered : LetsLend → (again : List ℕ) (limit : ℕ) (answers : List ℕ) → take (record_bytes * length row) again ≡ spelled_all row
      → record_bytes * length fs ≤ length again → length queries ≤ length answers
      → ((run file again (record_bytes * length row) limit answers).report.code ≡ 0)
      × (((run file again (record_bytes * length row) limit answers).report.kept ≡ length row)
      × ((i : ℕ) → count ≡ suc i → get_or (run file again (record_bytes * length row) limit answers).answers i 0 ≡ 1))
  unfolding query_of
  chain_answered lends again limit answers begins journal_long answers_long =
      let bytes = record_bytes * length row in
      let back = chain_kept lends again begins in
      let on = subst (λ (rs : List Record). is_on_record fs rs asked ≡ true) (sym back) (own_in_row lends) in
      let passed = none_accepted file again bytes limit answers (lets_pass_none file again bytes limit answers (lets_pass_again)) in (
        passed,
        (
          keeps file again bytes limit answers passed ∙ ap length back,
          λ i e.
              let low : i < length queries = let within = lends.counted.1 in omega arith in
              recorded_answered file again bytes limit answers passed i low
              (on_record_more fs (kept_part file again bytes) (added_part file again bytes limit) _
              (subst (λ (n : ℕ). is_on_record fs (kept_part file again bytes) (query_of queries n) ≡ true) e on)),
        ),
      )
    where
      lets_pass_again : LetsPass file again (record_bytes * length row) limit answers
      lets_pass_again =
          let good = chain_good (hypotheses_in file) fs asked kept row (kept_is_such_a_row file journal used).0 (lent_chain lends) in
          let short = never_more_than_the_list file row good in
          let grown_room = grown_short (hypotheses_in file) fs (kept_part file again (record_bytes * length row))
          (kept_is_such_a_row file again (record_bytes * length row)).0 limit in
          record {
            accepted = lends.accepted;
            journal_long = journal_long;
            used_inside = omega arith;
            answers_long = answers_long;
            room = omega arith;
          }
