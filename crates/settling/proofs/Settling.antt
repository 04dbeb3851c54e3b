-- What the run leaves, what is printed of it and what is told of the journal settle a call.
-- Assumes nothing.
use Prim.Native.Nat.{ℕ, ◌≤◌, ◌<◌}
use native.Mathlib.Omega.{arith}
use mathlib.Core.Path.{◌≡◌, refl, sym, ◌∙◌, ap}
use mathlib.Core.Bool.{Bool}
use mathlib.Core.List.{List}
use lib.ListN.{length, take, replicate}
use Rattle.std.proofs.lemmas.List.{take-replicate}
use borrow.Author.Tests.{lt-ltb, le-ltb}
use Rattle.infon.specs.declared.Report.{Report}
use Rattle.infon.specs.Run.{Outcome, run}
use Rattle.infon.proofs.Refusals.{accepted_passes, lets_pass}
use Rattle.writing.specs.Placed.{Prints}
use Rattle.writing.proofs.Placing.{put_nothing, put_prints}
use Rattle.printing.specs.Printed.{printed_run}
use Rattle.printing.specs.Turned.{Printable}
use Rattle.working.specs.Working.{left}
use Rattle.settling.specs.declared.Settlement.{Settlement}
use Rattle.remains.specs.Dropped.{rest_of, is_begun, dropped_of}
use Rattle.settling.specs.Settled.{text_bytes, answer_room, settled_run, text_of, settled_text, Settles}
use Rattle.settling.specs.Telling.{settlement_of, Shows}
use Rattle.settling.proofs.Telling.{room_few}

-- the text is shown where it is long enough
module _ (asked : Bool) (file : List ℕ) (code place : ℕ) (answers text : List ℕ) where
  pub shown_nothing : length text < text_bytes → Prints (text_of asked file code place answers text) text 0 text
  unfolding text_of
  shown_nothing h = rw (lt-ltb (length text) text_bytes h) (put_prints (put_nothing 0 text) (omega arith))

  pub shown : text_bytes ≤ length text → (n : ℕ) (printed : List ℕ) → Prints (printed_run asked file code place answers) text n printed
      → Prints (text_of asked file code place answers text) text n printed
  unfolding text_of
  shown h n printed p = rw (le-ltb (length text) text_bytes h) p

pub printable : (file : List ℕ) (code : ℕ) (answers text : List ℕ) → Shows file code answers → text_bytes ≤ length text → code ≡ 0 → Printable file answers text
printable file code answers text known long accepted =
    let within = known.within accepted in
    record { lines = within.0; room = omega (arith, known.few, within.1) }

-- the answer row before a run
abbrev pub zeros : ℕ → List ℕ
zeros n = replicate n 0

-- the same for a text
abbrev pub row_for : List ℕ → List ℕ
row_for text = zeros (answer_room text)

module _ (file journal : List ℕ) (used limit : ℕ) (asked : Bool) (text : List ℕ) (room : ℕ) (told-room : room ≡ answer_room text)
    (report : Report) (after answers : List ℕ) (ran : left report after answers ≡ run file journal used limit (take room (zeros 1024))) where
  room_inside : room ≤ 1024
  room_inside = omega (arith, room_few text)

  ran_so : left report after answers ≡ settled_run file journal used limit text
  unfolding settled_run
  ran_so = ran ∙ ap (run file journal used limit) (take-replicate room 1024 0 room_inside ∙ ap zeros told-room)

  code_now : report.code ≡ (run file journal used limit (take room (zeros 1024))).report.code
  code_now = ap (λ (o : Outcome). o.report.code) ran

  pub shows : length answers ≤ 1024 → Shows file report.code answers
  shows few =
      record {
        few = few;
        within = λ accepted.
            let zero_code = sym code_now ∙ accepted in
            let passes = accepted_passes file (lets_pass file journal used limit (take room (zeros 1024)) zero_code).accepted in
            (passes.formed, passes.short);
      }

  told_text : text_of asked file report.code report.place answers text ≡ settled_text file journal used limit asked text
  unfolding settled_text
  told_text = ap (λ (o : Outcome). text_of asked file o.report.code o.report.place o.answers text) ran_so

  pub settled_so : (begun : Bool) → begun ≡ is_begun (rest_of journal used) → (n : ℕ) (printed : List ℕ)
      → Prints (text_of asked file report.code report.place answers text) text n printed → (settled : Settlement) → settled ≡ settlement_of report used begun n
      → Settles file journal used limit asked text settled after printed
  unfolding settlement_of dropped_of
  settled_so begun told-begun n printed p settled e =
      rw (e, told-begun)
      record {
        report_now = ap (λ (o : Outcome). o.report) ran_so;
        journal_now = ap (λ (o : Outcome). o.journal) ran_so;
        records_had = refl;
        dropped_now = refl;
        prints = rw (sym told_text) p;
      }

-- where a settled call was not refused, its run was not either
pub accepted_run : {file journal : List ℕ} {used limit : ℕ} {asked : Bool} {text : List ℕ} {settled : Settlement} {after printed : List ℕ}
    → Settles file journal used limit asked text settled after printed → settled.report.code ≡ 0
    → (run file journal used limit (row_for text)).report.code ≡ 0
unfolding settled_run
accepted_run settles accepted = ap (λ (r : Report). r.code) (sym settles.report_now) ∙ accepted
