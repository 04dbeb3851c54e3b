-- Rows in ascending order, and the first element of such a row that passes a test.
-- Assumes nothing.
use mathlib.Core.Path.{◌≡◌, refl, sym, ◌∙◌, ap, subst}
use mathlib.Core.Logic.{◌⊎◌, inl, inr, ⊎_elim}
use mathlib.Core.Bool.{Bool, true, false, false≢true}
use Rattle.std.specs.Prelude.{None, Some}
use Rattle.std.proofs.lemmas.Option.{none-some, same_Some}
use mathlib.Core.List.Memᴰ
use mathlib.Core.List.{List, [], ◌∷◌, ◌++◌, map, Memᴰ}
use Rattle.infon.specs.Bytes.{first_of}
use Rattle.std.proofs.lemmas.Bool.{cases_Bool}

-- each element comes before all later ones
abbrev pub Ascending : {A : Type 0} (R : A → A → Type 0) → List A → Type 0
Ascending {A = A} R [] = Unit {0}
Ascending {A = A} R (x ∷ xs) = ((y : A) → Memᴰ y xs → R x y) × Ascending R xs

module _ {A : Type 0} where
  pub first_passed : (test : A → Bool) (x : A) (xs : List A) → test x ≡ true → first_of test (x ∷ xs) ≡ Some x
  unfolding first_of
  first_passed test x xs p = rw p

  pub first_failed : (test : A → Bool) (x : A) (xs : List A) → test x ≡ false → first_of test (x ∷ xs) ≡ first_of test xs
  unfolding first_of
  first_failed test x xs p = rw p

  none_passed : (test : A → Bool) (r : A) → first_of test [] ≡ Some r → ⊥
  unfolding first_of
  none_passed test r e = none-some r e

module _ {A : Type 0} (R : A → A → Type 0) where
  pub ascending_append : (xs ys : List A) → Ascending R xs → Ascending R ys
      → ((x y : A) → Memᴰ x xs → Memᴰ y ys → R x y) → Ascending R (xs ++ ys)
  ascending_append [] ys hx hy between = hy
  ascending_append (x ∷ xs) ys hx hy between = (
    λ y m.
        ⊎_elim (λ (i : Memᴰ y xs). hx.0 y i) (λ (i : Memᴰ y ys). between x y (Memᴰ.head refl) i)
        (Memᴰ.append_cases xs m),
    ascending_append xs ys hx.1 hy (λ a b i j. between a b (Memᴰ.tail i) j),
  )

  -- the first that passes is one that passes, and comes before every other that does
  pub first_least : (test : A → Bool) (xs : List A) (r : A) → Ascending R xs → first_of test xs ≡ Some r
      → (test r ≡ true) × ((s : A) → Memᴰ s xs → test s ≡ true → (s ≡ r) ⊎ R r s)
  first_least test [] r up h = absurd (none_passed test r h)
  first_least test (x ∷ xs) r up h =
      ⊎_elim
      (λ (p : test x ≡ true).
      let e : x ≡ r = same_Some x r (sym (first_passed test x xs p) ∙ h) in (
        subst (λ (a : A). test a ≡ true) e p,
        λ s m t.
            ⊎_elim (λ (same : s ≡ x). inl (same ∙ e)) (λ (i : Memᴰ s xs). inr (subst (λ (a : A). R a s) e (up.0 s i)))
            (Memᴰ.cases_cons m),
      ))
      (λ (p : test x ≡ false).
      let later = first_least test xs r up.1 (sym (first_failed test x xs p) ∙ h) in (
        later.0,
        λ s m t.
            ⊎_elim
            (λ (same : s ≡ x). absurd (false≢true (sym p ∙ (ap test (sym same) ∙ t))))
            (λ (i : Memᴰ s xs). later.1 s i t)
            (Memᴰ.cases_cons m),
      ))
      (cases_Bool (test x))

module _ {A : Type 0} where
  pub first_none : (test : A → Bool) (xs : List A) → first_of test xs ≡ None → (x : A) → Memᴰ x xs → test x ≡ false
  first_none test [] h x m = absurd (Memᴰ.not-nil m)
  first_none test (y ∷ ys) h x m =
      ⊎_elim
      (λ (p : test y ≡ true). absurd (none-some y (sym h ∙ first_passed test y ys p)))
      (λ (p : test y ≡ false).
      ⊎_elim
      (λ (e : x ≡ y). ap test e ∙ p)
      (λ (i : Memᴰ x ys). first_none test ys (sym (first_failed test y ys p) ∙ h) x i)
      (Memᴰ.cases_cons m))
      (cases_Bool (test y))

module _ {A B : Type 0} (f : A → B) where
  pub ascending_map : (R : A → A → Type 0) (S : B → B → Type 0) → ((x y : A) → R x y → S (f x) (f y)) → (xs : List A)
      → Ascending R xs → Ascending S (map f xs)
  ascending_map R S keeps [] up = tt
  ascending_map R S keeps (x ∷ xs) up = (
    λ y m.
        let there = Memᴰ.of_map f xs m in
        subst (λ (b : B). S (f x) b) there.2 (keeps x there.0 (up.0 there.0 there.1)),
    ascending_map R S keeps xs up.1,
  )
