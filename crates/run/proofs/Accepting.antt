-- A run on a file that is refused.
-- Assumes nothing.
use Prim.Native.Nat.{ℕ}
use mathlib.Core.Path.{◌≡◌, sym, ◌∙◌}
use mathlib.Core.List.{List, []}
use Rattle.infon.specs.declared.Report.{Report}
use Rattle.std.specs.Prelude.{Err}
use Rattle.infon.specs.declared.Refusal.{Refusal}
use Rattle.infon.specs.Run.{refusal, run}
use Rattle.accept.specs.Accepted.{Accepts}
use Rattle.accept.proofs.Accepting.{refused_is}
use Rattle.working.specs.Working.{left}
use Rattle.working.proofs.Outcomes.{left_refused, file_refused}

pub file_refuses : {file nodes table queries nodes' table' queries' : List ℕ} {by : Refusal}
    → Accepts file nodes table queries (Err by) nodes' table' queries'
    → (journal : List ℕ) (used limit : ℕ) (answers : List ℕ) (report : Report) → report ≡ (refusal by.code by.place used [] []).report
    → left report journal answers ≡ run file journal used limit answers
file_refuses {by = by} accepts journal used limit answers report e =
    left_refused by.code by.place used journal answers report e
    ∙ sym (file_refused _ journal used limit answers by.code by.place (refused_is accepts))
