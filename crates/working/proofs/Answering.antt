-- The answers by marks are the answers of the definitions.
-- Assumes nothing.
use Prim.Native.Nat.{ℕ}
use mathlib.Core.Path.{◌≡◌, refl, sym, ◌∙◌, ap, ap₂}
use mathlib.Core.Bool.{Bool, true}
use mathlib.Core.List.{List, [], ◌∷◌, map, map-map, Memᴰ}
use Rattle.infon.specs.declared.Record.{Record}
use Rattle.infon.specs.Formula.{Formula}
use Rattle.infon.specs.Listing.{is_listed}
use Rattle.infon.specs.Journal.{is_finished}
use Rattle.infon.specs.Run.{answer_of, answer_byte, is_on_record, answers_of}
use Rattle.formulas.specs.Table.{number_in}
use Rattle.formulas.specs.Tests.{Held}
use Rattle.formulas.proofs.OnRecord.{marked_on_record}
use Rattle.answers.specs.Answered.{answer_at, answered_bytes}

map_same : {A B : Type 0} (f g : A → B) (xs : List A) → ((x : A) → Memᴰ x xs → f x ≡ g x) → map f xs ≡ map g xs
map_same f g [] each = refl
map_same f g (x ∷ xs) each = ap₂ (λ y ys. y ∷ ys) (each x (Memᴰ.head refl)) (map_same f g xs (λ y m. each y (Memᴰ.tail m)))

module _ (hyps fs : List Formula) (done : List Record) (t : List ℕ) (n : ℕ) (marks : List ℕ) (held : Held hyps fs done t n marks) where
  -- the answers by marks, for queries given by their numbers
  pub answered : (queries : List Formula) (numbers : List ℕ) (finished : Bool)
      → ((x : Formula) → Memᴰ x queries → is_listed x fs ≡ true) → numbers ≡ map (number_in fs) queries
      → finished ≡ is_finished hyps fs done
      → answered_bytes numbers marks finished ≡ map answer_byte (answers_of hyps fs done queries)
  unfolding answered_bytes answers_of answer_at
  answered queries numbers finished listed are ends =
      ap (map (answer_at marks finished)) are
      ∙ (map-map (answer_at marks finished) (number_in fs) queries
      ∙ (map_same (λ (x : Formula). answer_at marks finished (number_in fs x))
      (λ (x : Formula). answer_byte (answer_of (is_on_record fs done x) (is_finished hyps fs done))) queries
      (λ x m. ap₂ (λ (b : Bool) (e : Bool). answer_byte (answer_of b e)) (marked_on_record hyps fs done t n marks held x (listed x m)) ends)
      ∙ sym (map-map answer_byte (λ (x : Formula). answer_of (is_on_record fs done x) (is_finished hyps fs done)) queries)))
