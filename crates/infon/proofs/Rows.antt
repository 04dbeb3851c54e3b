-- Rows and tests: `every`, `some_of` and `first_of` against membership, and tests that hold together.
-- Assumes nothing.
use Prim.Native.Nat.{ℕ}
use mathlib.Core.Path.{◌≡◌, refl}
use mathlib.Core.Logic.{⊎_elim}
use mathlib.Core.Bool.{Bool, true, false≢true}
use mathlib.Core.List.Memᴰ
use mathlib.Core.List.{List, [], ◌∷◌, ◌++◌, Memᴰ}
use Rattle.std.proofs.lemmas.Slice.Eq.{bytes_eq-Decides}
use Rattle.std.proofs.lemmas.Bool.{or_right, or_cases}
use Rattle.infon.specs.Bytes.{alike, some_of}

pub alike_refl : (s : List ℕ) → alike s s ≡ true
unfolding alike
alike_refl s = (bytes_eq-Decides s s).1 refl

pub alike_eq : (s t : List ℕ) → alike s t ≡ true → s ≡ t
unfolding alike
alike_eq s t = (bytes_eq-Decides s t).0

-- what is found in a row is found in it behind one more element
pub found_later : {A : Type 0} {P : A → Type 0} {first : A} {xs : List A} → (x : A) × (Memᴰ x xs × P x)
    → (x : A) × (Memᴰ x (first ∷ xs) × P x)
found_later found = (found.0, (Memᴰ.tail found.1.0, found.1.1))

-- what stands in three rows, one behind the other, stands in one of them
pub in_three : {A P : Type 0} {x : A} (xs ys : List A) {zs : List A} → (Memᴰ x xs → P) → (Memᴰ x ys → P)
    → (Memᴰ x zs → P) → Memᴰ x (xs ++ (ys ++ zs)) → P
in_three xs ys first second third m =
    ⊎_elim first (λ late. ⊎_elim second third (Memᴰ.append_cases ys late)) (Memᴰ.append_cases xs m)

module _ {A : Type 0} (test : A → Bool) where
  pub some_of_witness : (xs : List A) → some_of test xs ≡ true → (x : A) × (Memᴰ x xs × (test x ≡ true))
  unfolding some_of
  some_of_witness [] h = absurd (false≢true h)
  some_of_witness (x ∷ xs) h =
      ⊎_elim (λ here. (x, (Memᴰ.head refl, here)))
      (λ later. found_later (some_of_witness xs later))
      (or_cases (test x) (some_of test xs) h)

  pub witness_some_of : {x : A} {xs : List A} → Memᴰ x xs → test x ≡ true → some_of test xs ≡ true
  unfolding some_of
  witness_some_of (Memᴰ.head e) h = rw (← e, h)
  witness_some_of (Memᴰ.tail {x = first} {xs = xs} m) h =
      or_right (test first) _ (witness_some_of m h)
