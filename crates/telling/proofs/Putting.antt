-- Where a record comes from, put piece by piece.
-- Assumes nothing.
use Prim.Native.Nat.{ℕ, ◌≤◌}
use mathlib.Core.List.{List, ◌++◌, append_assoc}
use lib.ListN.{length}
use Rattle.writing.specs.Placed.{PutSome}
use Rattle.writing.proofs.Placing.{some_as, some_ends, some_on}

-- a text of two parts, and another behind it
pub some_then : (one two three : List ℕ) {at : ℕ} {b₀ b₁ b₂ : List ℕ} {r₁ r₂ : ℕ} → PutSome (one ++ two) at b₀ r₁ b₁ → PutSome three r₁ b₁ r₂ b₂
    → at ≤ length b₀ → PutSome (one ++ (two ++ three)) at b₀ r₂ b₂
some_then one two three first second inside = some_as (append_assoc one two three) (some_on first second inside)

-- four texts in front of two, each put behind the one before
pub six_put : {a b c d e f : List ℕ} {at r₁ r₂ r₃ r₄ r₅ r₆ : ℕ} {o₀ o₁ o₂ o₃ o₄ o₅ o₆ : List ℕ} → at ≤ length o₀ → PutSome a at o₀ r₁ o₁ → PutSome b r₁ o₁ r₂ o₂
    → PutSome c r₂ o₂ r₃ o₃ → PutSome d r₃ o₃ r₄ o₄ → PutSome e r₄ o₄ r₅ o₅ → PutSome f r₅ o₅ r₆ o₆
    → PutSome (a ++ (b ++ (c ++ (d ++ (e ++ f))))) at o₀ r₆ o₆
six_put inside p q r s t u =
    let in₁ = (some_ends p inside).0 in
    let in₂ = (some_ends q in₁).0 in
    let in₃ = (some_ends r in₂).0 in
    let in₄ = (some_ends s in₃).0 in
    some_on p (some_on q (some_on r (some_on s (some_on t u in₄) in₃) in₂) in₁) inside
