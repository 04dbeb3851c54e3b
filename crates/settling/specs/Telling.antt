-- What the parts of a settlement are told from: the numbers at hand before and after the run.
use Rattle.std.specs.Prelude.{ℕ, ◌≤◌, ◌/◌, ◌≡◌, Bool, cond, List, length, eqb}
use Rattle.infon.specs.declared.Report.{Report}
use Rattle.infon.specs.Codes.{passed}
use Rattle.infon.specs.Policy.{most_bytes, code2}
use Rattle.infon.specs.Journal.{record_bytes}
use Rattle.settling.specs.declared.Settlement.{Settlement}
use Rattle.remains.specs.Dropped.{dropped_by}

-- what a call came to, by the report, the used length before it, whether the bytes behind the last whole record began as a record
-- does, and the length of the text
unfoldable pub settlement_of : Report → ℕ → Bool → ℕ → Settlement
settlement_of report used begun count =
    let accepted = eqb report.code 0 in
    record {
      report = report;
      records = cond accepted (used / record_bytes) 0;
      dropped = cond accepted (dropped_by used report.kept begun) 0;
      length = count;
    }

-- what is known of a run whose answers are shown: at most 1,024 there are, and only a file within its limits is not refused
pub record Shows (file : List ℕ) (code : ℕ) (answers : List ℕ) : Type 0 where
  pub few : length answers ≤ 1024
  pub within : code ≡ 0 → (code2 file ≡ passed) × (length file ≤ most_bytes)
