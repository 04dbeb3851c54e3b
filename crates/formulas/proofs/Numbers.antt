-- The number of a listed formula names that formula, and on a row that lists none twice equal formulas are equal numbers.
-- Assumes nothing.
use Prim.Native.Nat.{ℕ, suc, ◌<◌}
use mathlib.Core.Path.{◌≡◌, sym, ◌∙◌, ap, subst}
use mathlib.Core.Logic.{⊎_elim}
use mathlib.Core.Bool.{Bool, true, false, false≢true}
use mathlib.Core.List.{List, [], ◌∷◌}
use native.Mathlib.Omega.{arith}
use lib.ListN.{length}
use lib.Dec.{eqb}
use borrow.Author.Tests.{eqb-true, eq-eqb}
use Rattle.infon.specs.Bytes.{some_of}
use Rattle.infon.specs.Formula.{Formula, same}
use Rattle.infon.specs.Listing.{is_listed}
use Rattle.infon.specs.Rules.{numbered}
use Rattle.std.proofs.lemmas.Bool.{cases_Bool}
use Rattle.std.proofs.lemmas.Bool.Decides.{same_from_decides}
use Rattle.infon.proofs.Same.{same_refl, same_eq}
use Rattle.infon.proofs.Prefixes.{mem_listed}
use Rattle.infon.proofs.Listed.{numbered_mem}
use Rattle.formulas.specs.Table.{number_in}

-- two tests that pass together are one
pub same_test : (a b : Bool) → (a ≡ true → b ≡ true) → (b ≡ true → a ≡ true) → a ≡ b
same_test a b there back = same_from_decides a b (there, back) (λ h. h, λ h. h)

number_here : (y : Formula) (fs : List Formula) (x : Formula) → same x y ≡ true → number_in (y ∷ fs) x ≡ 0
unfolding number_in
number_here y fs x h = rw h

number_later : (y : Formula) (fs : List Formula) (x : Formula) → same x y ≡ false → number_in (y ∷ fs) x ≡ suc (number_in fs x)
unfolding number_in
number_later y fs x h = rw h

listed_later : (y : Formula) (fs : List Formula) (x : Formula) → same x y ≡ false → is_listed x (y ∷ fs) ≡ true → is_listed x fs ≡ true
unfolding is_listed some_of
listed_later y fs x h listed = rw h at listed

nothing_listed : (x : Formula) → is_listed x [] ≡ true → ⊥
unfolding is_listed some_of
nothing_listed x h = false≢true h

pub number_in_below : (fs : List Formula) (x : Formula) → is_listed x fs ≡ true → number_in fs x < length fs
number_in_below [] x h = absurd (nothing_listed x h)
number_in_below (y ∷ fs) x h =
    ⊎_elim (λ (e : same x y ≡ true). rw (number_here y fs x e) (omega arith))
    (λ (e : same x y ≡ false).
    let later = number_in_below fs x (listed_later y fs x e h) in
    rw (number_later y fs x e) (omega arith))
    (cases_Bool (same x y))

pub numbered_number_in : (fs : List Formula) (x : Formula) → is_listed x fs ≡ true → numbered fs (number_in fs x) ≡ x
unfolding numbered
numbered_number_in [] x h = absurd (nothing_listed x h)
numbered_number_in (y ∷ fs) x h =
    ⊎_elim (λ (e : same x y ≡ true). rw (number_here y fs x e) (sym (same_eq x y e)))
    (λ (e : same x y ≡ false). rw (number_later y fs x e) (numbered_number_in fs x (listed_later y fs x e h)))
    (cases_Bool (same x y))

pub numbered_listed : (fs : List Formula) (i : ℕ) → i < length fs → is_listed (numbered fs i) fs ≡ true
numbered_listed fs i h = mem_listed (numbered_mem fs i h)

-- a row on which no formula stands twice
module _ (fs : List Formula) (once : (i j : ℕ) → i < length fs → j < length fs → numbered fs i ≡ numbered fs j → i ≡ j) where
  pub number_in_numbered : (i : ℕ) → i < length fs → number_in fs (numbered fs i) ≡ i
  number_in_numbered i h =
      let listed = numbered_listed fs i h in
      once (number_in fs (numbered fs i)) i (number_in_below fs (numbered fs i) listed) h (numbered_number_in fs (numbered fs i) listed)

  -- equality with a listed formula is equality of numbers
  pub same_number : (i : ℕ) (x : Formula) → i < length fs → is_listed x fs ≡ true → same (numbered fs i) x ≡ eqb (number_in fs x) i
  same_number i x h listed =
      same_test (same (numbered fs i) x) (eqb (number_in fs x) i)
      (λ e.
      eq-eqb (number_in fs x) i (ap (number_in fs) (sym (same_eq (numbered fs i) x e)) ∙ number_in_numbered i h))
      (λ e.
      let back : numbered fs i ≡ x = ap (numbered fs) (sym (eqb-true (number_in fs x) i e)) ∙ numbered_number_in fs x listed in
      subst (λ (y : Formula). same (numbered fs i) y ≡ true) back (same_refl (numbered fs i)))

-- two listed formulas are the same exactly if their numbers are
pub same_numbers : (fs : List Formula) (x y : Formula) → is_listed x fs ≡ true → is_listed y fs ≡ true
    → same x y ≡ eqb (number_in fs x) (number_in fs y)
same_numbers fs x y listedX listedY =
    same_test (same x y) (eqb (number_in fs x) (number_in fs y))
    (λ e. eq-eqb (number_in fs x) (number_in fs y) (ap (number_in fs) (same_eq x y e)))
    (λ e.
    let back : x ≡ y =
    sym (numbered_number_in fs x listedX)
    ∙ (ap (numbered fs) (eqb-true (number_in fs x) (number_in fs y) e) ∙ numbered_number_in fs y listedY) in
    subst (λ (z : Formula). same x z ≡ true) back (same_refl x))
