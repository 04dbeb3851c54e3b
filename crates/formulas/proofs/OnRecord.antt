-- A listed formula is recorded exactly if its number is marked.
-- Assumes nothing.
use Prim.Native.Nat.{ℕ, ◌<◌}
use mathlib.Core.Path.{◌≡◌, refl, sym, ◌∙◌, ap, ap₂, subst}
use mathlib.Core.Bool.{Bool, true, false, ◌||◌}
use mathlib.Core.List.{List, [], ◌∷◌, Memᴰ}
use lib.ListN.{length, get_or}
use lib.Dec.{eqb}
use Rattle.infon.specs.declared.Record.{Record}
use Rattle.infon.specs.Bytes.{some_of}
use Rattle.infon.specs.Formula.{Formula, same}
use Rattle.infon.specs.Listing.{is_listed}
use Rattle.infon.specs.Rules.{numbered}
use Rattle.infon.specs.Journal.{is_recorded}
use Rattle.infon.specs.Run.{is_on_record}
use Rattle.infon.proofs.Sound.{by_recorded}
use Rattle.formulas.specs.Table.{number_in, flag}
use Rattle.formulas.specs.Tests.{Held}
use Rattle.formulas.proofs.Numbers.{number_in_below, number_in_numbered, numbered_listed, same_numbers}

some_of_same : {A : Type 0} (test other : A → Bool) (xs : List A) → ((x : A) → Memᴰ x xs → test x ≡ other x)
    → some_of test xs ≡ some_of other xs
unfolding some_of
some_of_same test other [] each = refl
some_of_same test other (x ∷ xs) each =
    ap₂ ◌||◌ (each x (Memᴰ.head refl)) (some_of_same test other xs (λ y m. each y (Memᴰ.tail m)))

flag_is : (b : Bool) → eqb (flag b) 1 ≡ b
unfolding flag
flag_is true = refl
flag_is false = refl

module _ (hyps fs : List Formula) (done : List Record) (t : List ℕ) (n : ℕ) (marks : List ℕ) (held : Held hyps fs done t n marks) where
  -- a listed formula is recorded exactly if its number is
  on_record : (x : Formula) → is_listed x fs ≡ true → is_recorded (number_in fs x) done ≡ is_on_record fs done x
  unfolding is_recorded is_on_record
  on_record x listed =
      some_of_same (λ (r : Record). eqb (number_in fs x) r.formula) (λ (r : Record). same x (numbered fs r.formula)) done
      (λ r m.
      let below : r.formula < length fs =
      subst (λ (k : ℕ). r.formula < k) (sym held.count) (held.below r.formula (by_recorded r done m)) in
      let number = number_in_numbered fs held.table.once r.formula below in
      sym
      (same_numbers fs x (numbered fs r.formula) listed (numbered_listed fs r.formula below)
      ∙ ap (eqb (number_in fs x)) number))

  pub marked_on_record : (x : Formula) → is_listed x fs ≡ true → eqb (get_or marks (number_in fs x) 0) 1 ≡ is_on_record fs done x
  marked_on_record x listed =
      ap (λ (k : ℕ). eqb k 1)
      (held.marks_are.marked (number_in fs x) (subst (λ (k : ℕ). number_in fs x < k) held.count (number_in_below fs x listed)))
      ∙ (flag_is (is_recorded (number_in fs x) done) ∙ on_record x listed)
