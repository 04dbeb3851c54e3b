-- A call for a chain in a file that is refused, and that the promise leaves one answer.
-- Assumes nothing.
use Prim.Native.Nat.{ℕ}
use mathlib.Core.Path.{◌≡◌, sym, ◌∙◌, ap}
use mathlib.Core.List.{List, []}
use Rattle.std.specs.Prelude.{Err}
use Rattle.infon.specs.declared.Chained.{Chained}
use Rattle.infon.specs.declared.Refusal.{Refusal}
use Rattle.infon.specs.Codes.{settled, refused}
use Rattle.infon.specs.Run.{file_codes, file_verdict}
use Rattle.infon.specs.Chain.{ChainOutcome, chain_refusal, chain}
use Rattle.infon.proofs.Tried.{stop_at, tried_append}
use Rattle.accept.specs.Accepted.{Accepts}
use Rattle.accept.proofs.Accepting.{refused_is}
use Rattle.lending.specs.Lending.{lent_as}

file_refused : (file journal : List ℕ) (used count : ℕ) (out : List ℕ) {code place : ℕ} → file_verdict file ≡ refused code place
    → chain file journal used count out ≡ chain_refusal code place out
unfolding chain settled file_verdict
file_refused file journal used count out h = rw (tried_append (file_codes file) _, stop_at h _)

pub file_refuses : {file nodes table queries nodes' table' queries' : List ℕ} {by : Refusal}
    → Accepts file nodes table queries (Err by) nodes' table' queries'
    → (journal : List ℕ) (used count : ℕ) (out : List ℕ) {told : Chained} → told ≡ (chain_refusal by.code by.place []).told
    → lent_as told out ≡ chain file journal used count out
unfolding chain_refusal
file_refuses accepts journal used count out e =
    ap (λ (t : Chained). lent_as t out) e ∙ sym (file_refused _ journal used count out (refused_is accepts))

-- of `chain`, here and for C
pub chain_once : (file journal : List ℕ) (used count : ℕ) (out : List ℕ) {one two : Chained} {out₁ out₂ : List ℕ}
    → lent_as one out₁ ≡ chain file journal used count out → lent_as two out₂ ≡ chain file journal used count out → (one ≡ two) × (out₁ ≡ out₂)
chain_once file journal used count out first second =
    let same = first ∙ sym second in
    (ap (λ (l : ChainOutcome). l.told) same, ap (λ (l : ChainOutcome). l.out) same)
