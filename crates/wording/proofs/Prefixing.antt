-- The words of a prefix and of what stands behind it are the formula's.
-- Assumes nothing.
use Prim.Native.Nat.{ℕ, zero, suc, ◌+◌, ◌*◌, ◌-◌, ◌/◌, ◌%◌, ◌^◌, ◌<◌}
use native.Mathlib.Nat.{pow-suc, mul_assoc, mul_comm, add-mul, one-mul}
use native.Mathlib.Omega.{arith}
use mathlib.Core.Path.{◌≡◌, refl, sym, ◌∙◌, ap}
use mathlib.Core.Bool.{Bool, true, false}
use mathlib.Core.List.{List, [], ◌∷◌, ◌++◌, append_assoc}
use lib.ListN.{length}
use lib.Dec.{ltb, eqb}
use borrow.Author.Tests.{ltb-true, ltb-false}
use Rattle.infon.specs.Formula.{Told, said, put, Quotation, Formula, quoted}
use Rattle.infon.specs.Listing.{Prefix, wrap}
use Rattle.formulas.specs.Table.{put_bit, put_mask}
use Rattle.formulas.proofs.Weakened.{mask_below}
use Rattle.prefix.specs.declared.Place.{Place}
use Rattle.twins.specs.Twins.{principal_text}
use Rattle.wording.specs.Words.{has_parts, bracketed, said_word, told_word, in_words}
use Rattle.wording.specs.Prefixed.{bits_behind, place_words}

doubled : (b p : ℕ) → b * (p * 2) ≡ 2 * b * p
doubled b p = sym (mul_assoc b p 2) ∙ (mul_comm (b * p) 2 ∙ sym (mul_assoc 2 b p))

doubled_more : (b p : ℕ) → (2 * b + 1) * p ≡ 2 * b * p + p
doubled_more b p = add-mul (2 * b) 1 p ∙ ap (λ (n : ℕ). 2 * b * p + n) (one-mul p)

-- the bits behind k places are what a number has from 2^k on
behind_half : (k m b : ℕ) → m < 2 ^ k → bits_behind k (m + b * 2 ^ k) ≡ b
unfolding bits_behind
behind_half zero m b low = omega arith
behind_half (suc k) m b low = by (behind_half k) (ltb m (2 ^ k)) refl
  where
    by : ((n c : ℕ) → n < 2 ^ k → bits_behind k (n + c * 2 ^ k) ≡ c) → (c : Bool) → ltb m (2 ^ k) ≡ c → bits_behind k (m + b * 2 ^ suc k) / 2 ≡ b
    by less true e =
        let same : m + b * 2 ^ suc k ≡ m + 2 * b * 2 ^ k = ap (λ (n : ℕ). m + n) (ap (λ (p : ℕ). b * p) (pow-suc 2 k) ∙ doubled b (2 ^ k)) in
        let half = less m (2 * b) (ltb-true m (2 ^ k) e) in
        rw (same, half) (omega arith)
    by less false e =
        let high = ltb-false m (2 ^ k) e in
        let power = pow-suc 2 k in
        let same : m + b * 2 ^ suc k ≡ m - 2 ^ k + (2 * b + 1) * 2 ^ k =
        ap (λ (n : ℕ). m + n) (ap (λ (p : ℕ). b * p) power ∙ doubled b (2 ^ k)) ∙ omega (arith, high, doubled_more b (2 ^ k)) in
        let half = less (m - 2 ^ k) (2 * b + 1) (omega (arith, power)) in
        rw (same, half) (omega arith)

-- a prefix in words, the outermost quotation first
unfoldable pub prefix_words : Prefix → List ℕ
prefix_words [] = []
prefix_words (q ∷ outer) = prefix_words outer ++ (q.principal ++ told_word q.told)

no_parts : (q : Quotation) (x : Formula) → has_parts (quoted q x) ≡ false
unfolding has_parts
no_parts q x = refl

quoted_words : (q : Quotation) (x : Formula) → in_words (quoted q x) ≡ (q.principal ++ told_word q.told) ++ bracketed (has_parts x) (in_words x)
unfolding in_words
quoted_words q x = sym (append_assoc q.principal (told_word q.told) (bracketed (has_parts x) (in_words x)))

quoted_bare : (q : Quotation) (x : Formula) → has_parts x ≡ false → in_words (quoted q x) ≡ (q.principal ++ told_word q.told) ++ in_words x
unfolding bracketed
quoted_bare q x e = quoted_words q x ∙ ap (λ (b : Bool). (q.principal ++ told_word q.told) ++ bracketed b (in_words x)) e

-- what a formula with a prefix is in words
wrapped_words : (w : Prefix) (x : Formula) → has_parts x ≡ false → in_words (wrap w x) ≡ prefix_words w ++ in_words x
unfolding wrap prefix_words
wrapped_words [] x bare = refl
wrapped_words (q ∷ outer) x bare =
    wrapped_words outer (quoted q x) (no_parts q x)
    ∙ (ap (λ (l : List ℕ). prefix_words outer ++ l) (quoted_bare q x bare)
    ∙ sym (append_assoc (prefix_words outer) (q.principal ++ told_word q.told) (in_words x)))

-- what stands right behind a prefix gets brackets where it has parts
pub behind_words : (q : Quotation) (outer : Prefix) (x : Formula)
    → in_words (wrap (q ∷ outer) x) ≡ prefix_words (q ∷ outer) ++ bracketed (has_parts x) (in_words x)
unfolding wrap prefix_words
behind_words q outer x =
    wrapped_words outer (quoted q x) (no_parts q x)
    ∙ (ap (λ (l : List ℕ). prefix_words outer ++ l) (quoted_words q x)
    ∙ sym (append_assoc (prefix_words outer) (q.principal ++ told_word q.told) (bracketed (has_parts x) (in_words x))))

-- The words of places are those of the prefix that they show, with the put places that the bits have.
module _ (file t : List ℕ) where
  -- the principals of a prefix are those of the places, one by one
  abbrev pub SameWho : List Place → Prefix → Type 0
  SameWho [] [] = Unit {0}
  SameWho [] (q ∷ w) = ⊥
  SameWho (p ∷ ps) [] = ⊥
  SameWho (p ∷ ps) (q ∷ w) = (principal_text file t p.node ≡ q.principal) × SameWho ps w

  same_length : (ps : List Place) (w : Prefix) → SameWho ps w → length ps ≡ length w
  same_length [] [] same = refl
  same_length [] (q ∷ w) same = absurd same
  same_length (p ∷ ps) [] same = absurd same
  same_length (p ∷ ps) (q ∷ w) same = ap suc (same_length ps w same.1)

  told_bit : (told : Told) (r : ℕ) → said_word (eqb ((put_bit told + 2 * r) % 2) 0) ≡ told_word told
  unfolding put_bit told_word
  told_bit said r = let even : (0 + 2 * r) % 2 ≡ 0 = omega arith in rw even
  told_bit put r = let odd : (1 + 2 * r) % 2 ≡ 1 = omega arith in rw odd

  pub places_words : (ps : List Place) (w : Prefix) (r : ℕ) → SameWho ps w → place_words file t ps (put_mask w + r * 2 ^ length w) ≡ prefix_words w
  unfolding place_words prefix_words put_mask
  places_words [] [] r same = refl
  places_words [] (q ∷ w) r same = absurd same
  places_words (p ∷ ps) [] r same = absurd same
  places_words (p ∷ ps) (q ∷ w) r same =
      let bit = put_bit q.told in
      let power = 2 ^ length w in
      let more : r * 2 ^ suc (length w) ≡ 2 * r * power = ap (λ (n : ℕ). r * n) (pow-suc 2 (length w)) ∙ doubled r power in
      let all : put_mask w + bit * power + r * 2 ^ suc (length w) ≡ put_mask w + (bit + 2 * r) * power = omega (arith, more, add-mul bit (2 * r) power) in
      let bits : bits_behind (length ps) (put_mask w + (bit + 2 * r) * power) ≡ bit + 2 * r =
      ap (λ (n : ℕ). bits_behind n (put_mask w + (bit + 2 * r) * power)) (same_length ps w same.1) ∙ behind_half (length w) (put_mask w) (bit + 2 * r) (mask_below w) in
      rw (all, bits, same.0, told_bit q.told r, places_words ps w (bit + 2 * r) same.1)
