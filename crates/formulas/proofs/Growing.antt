-- Numbers while a list grows at its end: what is listed keeps its number, and what is new gets the next one.
-- Assumes nothing.
use Prim.Native.Nat.{suc}
use mathlib.Core.Path.{◌≡◌, refl, ap}
use mathlib.Core.Logic.{⊎_elim}
use mathlib.Core.Bool.{true, false, true≢false, false≢true}
use mathlib.Core.List.{List, [], ◌∷◌, ◌++◌}
use lib.ListN.{length}
use Rattle.infon.specs.Bytes.{some_of}
use Rattle.infon.specs.Formula.{Formula, same}
use Rattle.infon.specs.Listing.{is_listed}
use Rattle.std.proofs.lemmas.Bool.{cases_Bool}
use Rattle.infon.proofs.Same.{same_refl}
use Rattle.formulas.specs.Table.{number_in}

pub number_in_unlisted : (fs : List Formula) (x : Formula) → is_listed x fs ≡ false → number_in fs x ≡ length fs
unfolding number_in is_listed some_of
number_in_unlisted [] x h = refl
number_in_unlisted (y ∷ fs) x h =
    ⊎_elim (λ (e : same x y ≡ true). absurd (true≢false (rw e at h)))
    (λ (e : same x y ≡ false). rw e (ap suc (number_in_unlisted fs x (rw e at h))))
    (cases_Bool (same x y))

pub number_in_append : (fs more : List Formula) (x : Formula) → is_listed x fs ≡ true → number_in (fs ++ more) x ≡ number_in fs x
unfolding number_in is_listed some_of
number_in_append [] more x h = absurd (false≢true h)
number_in_append (y ∷ fs) more x h =
    ⊎_elim (λ (e : same x y ≡ true). rw e) (λ (e : same x y ≡ false). rw e (ap suc (number_in_append fs more x (rw e at h))))
    (cases_Bool (same x y))

pub number_in_last : (fs : List Formula) (x : Formula) → is_listed x fs ≡ false → number_in (fs ++ (x ∷ [])) x ≡ length fs
unfolding number_in is_listed some_of
number_in_last [] x h = rw (same_refl x)
number_in_last (y ∷ fs) x h =
    ⊎_elim (λ (e : same x y ≡ true). absurd (true≢false (rw e at h)))
    (λ (e : same x y ≡ false). rw e (ap suc (number_in_last fs x (rw e at h))))
    (cases_Bool (same x y))

pub listed_append : (fs more : List Formula) (x : Formula) → is_listed x fs ≡ true → is_listed x (fs ++ more) ≡ true
unfolding is_listed some_of
listed_append [] more x h = absurd (false≢true h)
listed_append (y ∷ fs) more x h =
    ⊎_elim (λ (e : same x y ≡ true). rw e) (λ (e : same x y ≡ false). rw e (listed_append fs more x (rw e at h)))
    (cases_Bool (same x y))

pub listed_last : (fs : List Formula) (x : Formula) → is_listed x (fs ++ (x ∷ [])) ≡ true
unfolding is_listed some_of
listed_last [] x = rw (same_refl x)
listed_last (y ∷ fs) x =
    ⊎_elim (λ (e : same x y ≡ true). rw e) (λ (e : same x y ≡ false). rw e (listed_last fs x))
    (cases_Bool (same x y))
