-- A line that says yes is on record in the journal's used bytes, which a program writes before it prints: whoever reads them back,
-- whatever stands behind them, keeps the record that the yes was given from.
-- Assumes nothing.
use Prim.Native.Nat.{ℕ, suc, ◌+◌, ◌≤◌, ◌<◌}
use native.Mathlib.Omega.{arith}
use mathlib.Core.Path.{◌≡◌, refl, sym, ◌∙◌, ap}
use mathlib.Core.Logic.{⊎_elim}
use mathlib.Core.Bool.{Bool, true, false}
use mathlib.Core.List.{List, [], ◌∷◌, ◌++◌, map}
use lib.ListN.{length, take, drop, get_or, length-map}
use lib.Dec.{ltb}
use Rattle.infon.specs.declared.Answer.{Answer}
use Rattle.infon.specs.declared.Answer.TheVariants.{Open}
use Rattle.infon.specs.Bytes.{bytes}
use Rattle.infon.specs.Formula.{Formula, True}
use Rattle.infon.specs.Journal.{is_finished}
use Rattle.infon.specs.Run.{answer_byte, answer_of, answers_of, is_on_record}
use Rattle.std.proofs.lemmas.Bool.{cases_Bool}
use Rattle.std.proofs.lemmas.List.{get_or-map}
use Rattle.infon.proofs.Codec.{AreBytes}
use Rattle.infon.proofs.Demands.{hypotheses_in, queries_in, query_at, list_in, kept_part, records_left, read_back}
use Rattle.infon.proofs.Refusals.{lets_pass}
use Rattle.writing.specs.Texts.{word_of, line_of}
use Rattle.printing.specs.Printed.{behind_of, printed_from, printed_answers, printed_of}
use Rattle.printing.proofs.Shown.{none_printed, line_of_query, answers_printed}
use Rattle.settling.specs.declared.Settlement.{Settlement}
use Rattle.settling.specs.Settled.{text_bytes, answer_room, settled_run, text_of, settled_text, Settles}
use Rattle.settling.proofs.Settling.{row_for, accepted_run}

-- the answers to the file's queries, by the records that a call leaves: a byte for each
abbrev pub said_in : List ℕ → List ℕ → ℕ → ℕ → List ℕ
said_in file journal used limit = map answer_byte (answers_of (hypotheses_in file) (list_in file) (records_left file journal used limit) (queries_in file))

-- yes is the word for what is on record alone
said_yes : (on finished : Bool) → word_of (answer_byte (answer_of on finished)) ≡ bytes "yes" → on ≡ true
unfolding word_of bytes answer_byte answer_of
said_yes true finished word = refl
said_yes false true word = absurd (let n = ap length word in omega arith)
said_yes false false word = absurd (let n = ap length word in omega arith)

-- no query, no line
none_asked : (asked : Bool) (queries : List Formula) (answers : List ℕ) → length queries ≤ 0 → [] ≡ printed_answers asked queries answers
none_asked asked [] answers h = sym (none_printed asked answers)
none_asked asked (x ∷ queries) answers h = absurd (omega arith)

module _ (file journal : List ℕ) (used limit : ℕ) (asked : Bool) (text : List ℕ) (settled : Settlement) (after printed : List ℕ)
    (settles : Settles file journal used limit asked text settled after printed) (accepted : settled.report.code ≡ 0) where
  -- where the text is too short for answers, the file asks for none
  none_in_short : ltb (length text) text_bytes ≡ true → length (queries_in file) ≤ 0
  unfolding answer_room
  none_in_short e =
      let enough = (lets_pass file journal used limit (row_for text) (accepted_run settles accepted)).answers_long in
      let none_there : length (row_for text) ≡ 0 = rw e in
      omega arith

  -- the text has a line for each query, with the word for its answer
  pub a_line_for_each : settled_text file journal used limit asked text ≡ printed_answers asked (queries_in file) (said_in file journal used limit)
  unfolding settled_text settled_run text_of printed_of
  a_line_for_each =
      ⊎_elim
      (λ (e : ltb (length text) text_bytes ≡ true). rw e (none_asked asked (queries_in file) _ (none_in_short e)))
      (λ (e : ltb (length text) text_bytes ≡ false). rw e (answers_printed asked file journal used limit (row_for text) (accepted_run settles accepted)))
      (cases_Bool (ltb (length text) text_bytes))

  as_many : length (said_in file journal used limit) ≡ length (queries_in file)
  unfolding answers_of
  as_many =
      length-map (answers_of (hypotheses_in file) (list_in file) (records_left file journal used limit) (queries_in file)) answer_byte ∙ length-map (queries_in file) _

  -- the line of query i stands between the lines of the queries before it and those of the queries behind it
  pub line_at : (i : ℕ) → i < length (queries_in file)
      → settled_text file journal used limit asked text
      ≡ printed_answers asked (take i (queries_in file)) (take i (said_in file journal used limit))
      ++ (line_of (i + 1) (get_or (said_in file journal used limit) i 0) (behind_of asked (query_at file i))
      ++ printed_from (i + 2) (drop (suc i) (said_in file journal used limit)) (map (behind_of asked) (drop (suc i) (queries_in file))))
  line_at i low = a_line_for_each ∙ line_of_query asked (queries_in file) (said_in file journal used limit) i low (omega (arith, as_many))

  said_at : (i : ℕ) → i < length (queries_in file)
      → get_or (said_in file journal used limit) i 0
      ≡ answer_byte
      (answer_of (is_on_record (list_in file) (records_left file journal used limit) (query_at file i))
      (is_finished (hypotheses_in file) (list_in file) (records_left file journal used limit)))
  unfolding answers_of
  said_at i low =
      let left = records_left file journal used limit in
      let answer : Formula → Answer = λ (x : Formula). answer_of (is_on_record (list_in file) left x) (is_finished (hypotheses_in file) (list_in file) left) in
      get_or-map answer_byte (map answer (queries_in file)) i Open 0 (rw (length-map (queries_in file) answer) low)
      ∙ ap answer_byte (get_or-map answer (queries_in file) i True Open low)

  -- A query whose line, which `line_at` shows, has the word yes is on record for whoever reads back bytes that begin as the journal's
  -- used bytes do. The numbers in the journal's buffer are bytes, below 256 each (`AreBytes`), as in every slice that a program lends.
  pub yes_is_written : AreBytes journal → (i : ℕ) → i < length (queries_in file)
      → word_of (get_or (said_in file journal used limit) i 0) ≡ bytes "yes"
      → (found : List ℕ) → take settled.report.used found ≡ take settled.report.used after
      → is_on_record (list_in file) (kept_part file found settled.report.used) (query_at file i) ≡ true
  unfolding settled_run
  yes_is_written plain i low word found same =
      let begins = rw (settles.report_now, settles.journal_now) at same in
      rw (settles.report_now, read_back file journal used limit (row_for text) (accepted_run settles accepted) plain found begins)
      (said_yes (is_on_record (list_in file) (records_left file journal used limit) (query_at file i))
      (is_finished (hypotheses_in file) (list_in file) (records_left file journal used limit)) (rw (said_at i low) at word))
