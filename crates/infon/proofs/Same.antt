-- `same` is equality of formulas.
-- Assumes nothing.
use mathlib.Core.Path.{◌≡◌, refl}
use mathlib.Core.Bool.{true, false≢true}
use Rattle.infon.specs.Bytes.{alike}
use Rattle.infon.specs.Formula.{Told, said, put, Quotation, Formula, True, name, and, implies, quoted, same_told, same_quotation, same}
use Rattle.std.proofs.lemmas.Bool.{and_parts, and_from}
use Rattle.infon.proofs.Rows.{alike_refl, alike_eq}

same_told_refl : (t : Told) → same_told t t ≡ true
unfolding same_told
same_told_refl said = refl
same_told_refl put = refl

same_told_eq : (t u : Told) → same_told t u ≡ true → t ≡ u
unfolding same_told
same_told_eq said said h = refl
same_told_eq said put h = absurd (false≢true h)
same_told_eq put said h = absurd (false≢true h)
same_told_eq put put h = refl

pub same_quotation_refl : (q : Quotation) → same_quotation q q ≡ true
unfolding same_quotation
same_quotation_refl q = and_from _ _ (same_told_refl q.told) (alike_refl q.principal)

pub same_quotation_eq : (p q : Quotation) → same_quotation p q ≡ true → p ≡ q
unfolding same_quotation
same_quotation_eq p q h =
    let parts = and_parts (same_told p.told q.told) (alike p.principal q.principal) h in
    λ i. record { told = same_told_eq p.told q.told parts.0 i; principal = alike_eq p.principal q.principal parts.1 i }

pub same_refl : (x : Formula) → same x x ≡ true
unfolding same
same_refl True = refl
same_refl (name a) = alike_refl a
same_refl (and x y) = and_from _ _ (same_refl x) (same_refl y)
same_refl (implies x y) = and_from _ _ (same_refl x) (same_refl y)
same_refl (quoted q x) = and_from _ _ (same_quotation_refl q) (same_refl x)

pub same_eq : (x y : Formula) → same x y ≡ true → x ≡ y
unfolding same
same_eq True True h = refl
same_eq True (name b) h = absurd (false≢true h)
same_eq True (and z w) h = absurd (false≢true h)
same_eq True (implies z w) h = absurd (false≢true h)
same_eq True (quoted r z) h = absurd (false≢true h)
same_eq (name a) True h = absurd (false≢true h)
same_eq (name a) (name b) h = λ i. name (alike_eq a b h i)
same_eq (name a) (and z w) h = absurd (false≢true h)
same_eq (name a) (implies z w) h = absurd (false≢true h)
same_eq (name a) (quoted r z) h = absurd (false≢true h)
same_eq (and x y) True h = absurd (false≢true h)
same_eq (and x y) (name b) h = absurd (false≢true h)
same_eq (and x y) (and z w) h =
    let both = and_parts (same x z) (same y w) h in
    λ i. and (same_eq x z both.0 i) (same_eq y w both.1 i)
same_eq (and x y) (implies z w) h = absurd (false≢true h)
same_eq (and x y) (quoted r z) h = absurd (false≢true h)
same_eq (implies x y) True h = absurd (false≢true h)
same_eq (implies x y) (name b) h = absurd (false≢true h)
same_eq (implies x y) (and z w) h = absurd (false≢true h)
same_eq (implies x y) (implies z w) h =
    let both = and_parts (same x z) (same y w) h in
    λ i. implies (same_eq x z both.0 i) (same_eq y w both.1 i)
same_eq (implies x y) (quoted r z) h = absurd (false≢true h)
same_eq (quoted q x) True h = absurd (false≢true h)
same_eq (quoted q x) (name b) h = absurd (false≢true h)
same_eq (quoted q x) (and z w) h = absurd (false≢true h)
same_eq (quoted q x) (implies z w) h = absurd (false≢true h)
same_eq (quoted q x) (quoted r z) h =
    let both = and_parts (same_quotation q r) (same x z) h in
    λ i. quoted (same_quotation_eq q r both.0 i) (same_eq x z both.1 i)
