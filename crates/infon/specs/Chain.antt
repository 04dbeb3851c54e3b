-- 02, M-100, "Show the desk its chain": what a call for the chain of a query leaves.
use Rattle.std.specs.Prelude.{ℕ, zero, suc, ◌*◌, ◌||◌, not, List, [], ◌∷◌, ◌++◌, length, get_or, ltb, eqb}
use Rattle.infon.specs.declared.Record.{Record}
use Rattle.infon.specs.declared.Chained.{Chained}
use Rattle.infon.specs.Formula.{Formula, True}
use Rattle.infon.specs.Codes.{when, tried, settled, Verdict}
use Rattle.infon.specs.Policy.{entries_of, hypotheses_of, queries_of}
use Rattle.infon.specs.Listing.{list_of}
use Rattle.infon.specs.Journal.{record_bytes, spelled_all, kept_of}
use Rattle.infon.specs.Reasons.{reasons}
use Rattle.infon.specs.Run.{is_on_record, written, file_codes, code7}

-- "Queries count from 1."; `True` stands for a count outside the file, which 31 refuses
unfoldable pub query_of : List Formula → ℕ → Formula
query_of queries zero = True
query_of queries (suc i) = get_or queries i True

-- 31: "query count outside the file"
unfoldable pub code31 : List Formula → ℕ → Verdict
code31 queries count = when (eqb count 0 || ltb (length queries) count) 31 0

-- 32: "that query is not recorded in the kept part"
unfoldable pub code32 : List Formula → List Record → Formula → Verdict
code32 fs kept x = when (not (is_on_record fs kept x)) 32 0

-- 33: "the chain does not fit the lent buffer"
unfoldable pub code33 : List Record → List ℕ → Verdict
code33 row out = when (ltb (length out) (record_bytes * length row)) 33 0

-- what a call leaves: what it returns, and the lent buffer; "the journal itself is untouched", since it is only read
pub record ChainOutcome : Type 0 where
  pub told : Chained
  pub out : List ℕ

-- "Their number is returned, 0 on a refusal"; "the buffer unchanged"
unfoldable pub chain_refusal : ℕ → ℕ → List ℕ → ChainOutcome
chain_refusal code place out = record { told = record { code = code; place = place; records = 0 }; out = out }

-- "The records go together to the front of a lent buffer, whose later bytes stay"
unfoldable pub lent : List Record → List ℕ → ChainOutcome
lent row out = record { told = record { code = 0; place = 0; records = length row }; out = written out 0 (spelled_all row) }

-- "For a recorded query, give the records that it rests on"; 31, 32 and 33 are tried "in this order after 01's codes 1 to 5 and 7"
unfoldable pub chain : List ℕ → List ℕ → ℕ → ℕ → List ℕ → ChainOutcome
chain file journal used count out =
    let entries = entries_of file in
    let queries = queries_of entries in
    let fs = list_of entries in
    let kept = kept_of (hypotheses_of entries) fs journal used in
    let x = query_of queries count in
    let row = reasons fs x kept in
    settled
    (tried (file_codes file ++ (code7 journal used ∷ (code31 queries count ∷ (code32 fs kept x ∷ (code33 row out ∷ []))))))
    (λ (code place : ℕ). chain_refusal code place out)
    (lent row out)
