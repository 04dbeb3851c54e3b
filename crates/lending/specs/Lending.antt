-- What a call for a chain works on, and what it leaves.
use Rattle.std.specs.Prelude.{ℕ, ◌≤◌, ◌<◌, ◌≡◌, true, List, length}
use Rattle.infon.specs.declared.Chained.{Chained}
use Rattle.infon.specs.Formula.{Formula}
use Rattle.infon.specs.Codes.{settled}
use Rattle.infon.specs.Listing.{is_listed}
use Rattle.infon.specs.Rules.{numbered}
use Rattle.infon.specs.Journal.{kept_of}
use Rattle.infon.specs.Reasons.{reasons}
use Rattle.infon.specs.Chain.{code33, ChainOutcome, chain_refusal, lent, chain}
use Rattle.formulas.specs.Table.{number_in, table_rows}
use Rattle.formulas.specs.Prepared.{PreparedFor}

-- what a call leaves, as one value
abbrev pub lent_as : Chained → List ℕ → ChainOutcome
lent_as told out = record { told = told; out = out }

-- The first records of a journal are kept on a list, and the number is that of a formula on it.
pub record Rests (hyps fs : List Formula) (x : Formula) (journal : List ℕ) (used kept number : ℕ) : Type 0 where
  pub once : (i j : ℕ) → i < length fs → j < length fs → numbered fs i ≡ numbered fs j → i ≡ j
  pub few : length fs ≤ table_rows
  pub listed : is_listed x fs ≡ true
  pub number_is : number ≡ number_in fs x
  pub inside : used ≤ length journal
  pub counts : kept ≡ length (kept_of hyps fs journal used)

-- There is such a list.
pub record Restable (journal : List ℕ) (kept number : ℕ) : Type 0 where
  pub hyps : List Formula
  pub fs : List Formula
  pub x : Formula
  pub used : ℕ
  pub rests : Rests hyps fs x journal used kept number

-- The reasons are lent where they fit, for whatever list it is.
abbrev pub LendsReasons : List ℕ → ℕ → ℕ → List ℕ → Chained → List ℕ → Type 0
LendsReasons journal kept number out told after =
    (hyps fs : List Formula) (x : Formula) (used : ℕ) → Rests hyps fs x journal used kept number
    → lent_as told after
    ≡ settled (code33 (reasons fs x (kept_of hyps fs journal used)) out) (λ (code place : ℕ). chain_refusal code place out)
    (lent (reasons fs x (kept_of hyps fs journal used)) out)

-- Some file is accepted and prepared so.
pub record Lendable (t : List ℕ) (n : ℕ) (numbers : List ℕ) : Type 0 where
  pub file : List ℕ
  pub for_file : PreparedFor file t n numbers (length numbers)

-- What is left is what 02 says, for whatever file is prepared so.
abbrev pub Lends : List ℕ → ℕ → List ℕ → List ℕ → ℕ → ℕ → List ℕ → Chained → List ℕ → Type 0
Lends t n numbers journal used count out told after =
    (file : List ℕ) → PreparedFor file t n numbers (length numbers) → lent_as told after ≡ chain file journal used count out
