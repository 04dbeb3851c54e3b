-- What a call for a chain comes to on an accepted file, by the first code that applies.
-- Assumes nothing.
use Prim.Native.Nat.{ℕ, zero, suc, ◌-◌, ◌≤◌, ◌<◌}
use native.Mathlib.Omega.{arith}
use mathlib.Core.Path.{◌≡◌, sym, ◌∙◌, ap}
use mathlib.Core.Bool.{true, false}
use mathlib.Core.List.{List, [], ◌∷◌}
use lib.ListN.{length, get_or, replicate}
use lib.Dec.{eqb}
use borrow.Author.Tests.{lt-ltb, le-ltb, eq-eqb, ne_eqb}
use Rattle.infon.specs.declared.Record.{Record}
use Rattle.infon.specs.declared.Chained.{Chained}
use Rattle.infon.specs.Formula.{Formula, True}
use Rattle.infon.specs.Codes.{and_then, when, tried, settled, Verdict, passed}
use Rattle.infon.specs.Listing.{is_listed}
use Rattle.infon.specs.Reasons.{reasons}
use Rattle.infon.specs.Run.{file_codes, file_verdict, is_on_record, code7}
use Rattle.infon.specs.Chain.{query_of, code31, code32, code33, chain_refusal, lent, chain}
use Rattle.infon.proofs.Demands.{hypotheses_in, queries_in, list_in, kept_part}
use Rattle.infon.proofs.Tried.{pass_on, tried_append, and_then_end}
use Rattle.formulas.specs.Table.{number_in, table_rows}
use Rattle.formulas.specs.Prepared.{PreparedFor}
use Rattle.formulas.proofs.Numbers.{number_in_below}
use Rattle.formulas.proofs.OnRecord.{marked_on_record}
use Rattle.journal.specs.Kept.{Keeps}
use Rattle.journal.proofs.Prepared as P
use Rattle.lending.specs.Lending.{lent_as, Rests}

module _ (file journal : List ℕ) (used count : ℕ) (out : List ℕ) (accepted : file_verdict file ≡ passed) where
  abbrev row : List Record
  row = reasons (list_in file) (query_of (queries_in file) count) (kept_part file journal used)

  -- the codes about the file pass, and the others are left
  abbrev others : Verdict
  others = and_then (code7 journal used) (and_then (code31 (queries_in file) count) (and_then (code32 (list_in file) (kept_part file journal used) (query_of (queries_in file) count)) (code33 row out)))

  chain_on : chain file journal used count out ≡ settled others (λ (code place : ℕ). chain_refusal code place out) (lent row out)
  unfolding chain file_verdict tried
  chain_on =
      let last = code33 row out in
      ap (λ (v : Verdict). settled v (λ (code place : ℕ). chain_refusal code place out) (lent row out))
      (tried_append (file_codes file) (code7 journal used ∷ (code31 (queries_in file) count ∷ (code32 (list_in file) (kept_part file journal used) (query_of (queries_in file) count) ∷ (last ∷ []))))
      ∙ (pass_on accepted _
      ∙ ap (λ (v : Verdict). and_then (code7 journal used) (and_then (code31 (queries_in file) count) (and_then (code32 (list_in file) (kept_part file journal used) (query_of (queries_in file) count)) v)))
      (and_then_end last)))

  pub at_7 : length journal < used → {told : Chained} → told ≡ (chain_refusal 7 0 []).told → lent_as told out ≡ chain file journal used count out
  unfolding settled and_then when code7 chain_refusal
  at_7 h e = rw (chain_on, lt-ltb (length journal) used h, e)

  module _ (inside : used ≤ length journal) where
    pub none_asked : count ≡ 0 → {told : Chained} → told ≡ (chain_refusal 31 0 []).told → lent_as told out ≡ chain file journal used count out
    unfolding settled and_then when code7 code31 chain_refusal
    none_asked h e = rw (chain_on, le-ltb (length journal) used inside, eq-eqb count 0 h, e)

    pub beyond_asked : length (queries_in file) < count → {told : Chained} → told ≡ (chain_refusal 31 0 []).told → lent_as told out ≡ chain file journal used count out
    unfolding settled and_then when code7 code31 chain_refusal
    beyond_asked h e =
        let some : eqb count 0 ≡ false = ne_eqb count 0 (λ z. omega arith) in
        rw (chain_on, le-ltb (length journal) used inside, some, lt-ltb (length (queries_in file)) count h, e)

    module _ (low : 1 ≤ count) (high : count ≤ length (queries_in file)) where
      off_record : is_on_record (list_in file) (kept_part file journal used) (query_of (queries_in file) count) ≡ false → {told : Chained} → told ≡ (chain_refusal 32 0 []).told
          → lent_as told out ≡ chain file journal used count out
      unfolding settled and_then when code7 code31 code32 chain_refusal
      off_record h e =
          let some : eqb count 0 ≡ false = ne_eqb count 0 (λ z. omega arith) in
          rw (chain_on, le-ltb (length journal) used inside, some, le-ltb (length (queries_in file)) count high, h, e)

      on_record : is_on_record (list_in file) (kept_part file journal used) (query_of (queries_in file) count) ≡ true → {told : Chained} {after : List ℕ}
          → lent_as told after ≡ settled (code33 row out) (λ (code place : ℕ). chain_refusal code place out) (lent row out)
          → lent_as told after ≡ chain file journal used count out
      unfolding and_then when code7 code31 code32
      on_record h e =
          let some : eqb count 0 ≡ false = ne_eqb count 0 (λ z. omega arith) in
          rw (chain_on, le-ltb (length journal) used inside, some, le-ltb (length (queries_in file)) count high, h) e

-- the query with a count from 1 is the one with a count from 0 that is one less
query_is : (queries : List Formula) (count : ℕ) → 1 ≤ count → query_of queries count ≡ get_or queries (count - 1) True
unfolding query_of
query_is queries zero low = absurd (omega arith)
query_is queries (suc i) low = let back : suc i - 1 ≡ i = omega arith in rw back

module _ (file t : List ℕ) (n : ℕ) (numbers : List ℕ) (asked : ℕ) (for_file : PreparedFor file t n numbers asked) (journal : List ℕ) (used count : ℕ)
    (inside : used ≤ length journal) (low : 1 ≤ count) (high : count ≤ asked) {number : ℕ} (reads : number ≡ get_or numbers (count - 1) 0) where
  abbrev asks : Formula
  asks = query_of (queries_in file) count

  number_of : number ≡ number_in (list_in file) asks
  number_of = reads ∙ P.number_is for_file.prepared (count - 1) (omega arith) ∙ ap (number_in (list_in file)) (sym (query_is (queries_in file) count low))

  asks_listed : is_listed asks (list_in file) ≡ true
  asks_listed = rw (query_is (queries_in file) count low) (P.query_listed for_file.prepared (count - 1) (omega arith))

  pub number_below : number < table_rows
  number_below =
      let is = number_of in
      let below = number_in_below (list_in file) asks asks_listed in
      let few = for_file.prepared.table.few in
      omega arith

  module _ {kept : ℕ} {marks : List ℕ} (keeps : Keeps t n journal used (replicate table_rows 0) kept marks) where
    pub rests_for : Rests (hypotheses_in file) (list_in file) asks journal used kept number
    rests_for =
        record {
          once = for_file.prepared.table.once;
          few = for_file.prepared.table.few;
          listed = asks_listed;
          number_is = number_of;
          inside = inside;
          counts = P.kept_is for_file.prepared keeps;
        }

    marked_is : eqb (get_or marks number 0) 1 ≡ is_on_record (list_in file) (kept_part file journal used) asks
    marked_is =
        ap (λ (k : ℕ). eqb (get_or marks k 0) 1) number_of
        ∙ marked_on_record (hypotheses_in file) (list_in file) (kept_part file journal used) t n marks (P.holds_kept for_file.prepared keeps)
        asks asks_listed

    pub at_32 : (out : List ℕ) → (get_or marks number 0 ≡ 1 → ⊥) → {told : Chained} → told ≡ (chain_refusal 32 0 []).told
        → lent_as told out ≡ chain file journal used count out
    at_32 out unmarked e =
        off_record file journal used count out for_file.accepted inside low (let are = for_file.prepared.asked_are in omega arith)
        (sym marked_is ∙ ne_eqb (get_or marks number 0) 1 unmarked) e

    pub at_end : (out : List ℕ) → get_or marks number 0 ≡ 1 → {told : Chained} {after : List ℕ}
        → lent_as told after
        ≡ settled (code33 (reasons (list_in file) asks (kept_part file journal used)) out) (λ (code place : ℕ). chain_refusal code place out)
        (lent (reasons (list_in file) asks (kept_part file journal used)) out)
        → lent_as told after ≡ chain file journal used count out
    at_end out marked e =
        on_record file journal used count out for_file.accepted inside low (let are = for_file.prepared.asked_are in omega arith)
        (sym marked_is ∙ eq-eqb (get_or marks number 0) 1 marked) e
