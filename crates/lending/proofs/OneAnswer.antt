-- What the call for a chain on an accepted file promises leaves one answer, and one content of the lent buffer.
-- Assumes nothing.
use Prim.Native.Nat.{ℕ}
use mathlib.Core.Path.{◌≡◌, sym, ◌∙◌}
use mathlib.Core.List.{List}
use Rattle.infon.specs.declared.Chained.{Chained}
use Rattle.lending.specs.Lending.{lent_as, Lendable, Lends}

pub lends_once : {t : List ℕ} {n : ℕ} {numbers : List ℕ} (journal : List ℕ) (used count : ℕ) (out : List ℕ) {one two : Chained} {out₁ out₂ : List ℕ}
    → Lendable t n numbers → Lends t n numbers journal used count out one out₁ → Lends t n numbers journal used count out two out₂
    → lent_as one out₁ ≡ lent_as two out₂
lends_once journal used count out some first second = first some.file some.for_file ∙ sym (second some.file some.for_file)
