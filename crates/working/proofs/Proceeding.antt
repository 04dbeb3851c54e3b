-- Codes 6 to 8, and then the work.
-- Assumes nothing.
use Prim.Native.Nat.{ℕ}
use mathlib.Core.Path.{◌≡◌, sym, ◌∙◌, ap₂}
use mathlib.Core.List.{List, []}
use lib.ListN.{length}
use Rattle.infon.specs.declared.Report.{Report}
use Rattle.infon.specs.Codes.{tried, Verdict, passed, refused}
use Rattle.infon.specs.Policy.{entries_of, hypotheses_of, queries_of}
use Rattle.infon.specs.Listing.{list_of}
use Rattle.infon.specs.Run.{refusal}
use Rattle.formulas.specs.Prepared.{PreparedFor}
use Rattle.sizes.specs.Sizes.{size_codes}
use Rattle.sizes.proofs.Sizes.{sizes_pass}
use Rattle.working.specs.Working.{Workable, Works, Acceptable, Proceeds}
use Rattle.working.proofs.Outcomes.{left_refused, sizes_refused, succeeded}

module _ (t : List ℕ) (n : ℕ) (numbers journal : List ℕ) (used limit : ℕ) (answers : List ℕ) {sizes : Verdict}
    (is : sizes ≡ tried (size_codes (length journal) n used (length answers) (length numbers))) where
  -- the sizes of a file that is prepared so
  of_file : (file : List ℕ) → PreparedFor file t n numbers (length numbers)
      → sizes ≡ tried (size_codes (length journal) (length (list_of (entries_of file))) used (length answers) (length (queries_of (entries_of file))))
  of_file file for =
      is
      ∙ ap₂ (λ (l q : ℕ). tried (size_codes (length journal) l used (length answers) q)) (sym for.prepared.count) (sym for.prepared.asked_are)

  pub refused_by_size : {code place : ℕ} → sizes ≡ refused code place → (report : Report) → report ≡ (refusal code place used [] []).report
      → Proceeds t n numbers journal used limit answers report journal answers
  refused_by_size {code} {place} h report e file for =
      left_refused code place used journal answers report e
      ∙ sym (sizes_refused file journal used limit answers code place for.accepted (sym (of_file file for) ∙ h))

  module _ (pass : sizes ≡ passed) where
    pub workable : Acceptable t n numbers → Workable t n numbers journal used answers
    workable some =
        let fits = sizes_pass (length journal) n used (length answers) (length numbers) (sym is ∙ pass) in
        record {
          hyps = hypotheses_of (entries_of some.file);
          fs = list_of (entries_of some.file);
          queries = queries_of (entries_of some.file);
          prepared = some.for_file.prepared;
          room = fits.0;
          inside = fits.1.0;
          enough = fits.1.1;
        }

    pub done : (report : Report) (journalAfter answersAfter : List ℕ)
        → Works t n numbers journal used limit answers report journalAfter answersAfter
        → Proceeds t n numbers journal used limit answers report journalAfter answersAfter
    done report journalAfter answersAfter works file for =
        works (hypotheses_of (entries_of file)) (list_of (entries_of file)) (queries_of (entries_of file)) for.prepared
        ∙ sym (succeeded file journal used limit answers for.accepted (sym (of_file file for) ∙ pass))
