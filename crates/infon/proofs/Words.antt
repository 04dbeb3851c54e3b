-- A text split at its spaces: the tokens joined are the text, and words without a space, joined, fall into the same words again.
-- Assumes nothing.
use Prim.Native.Nat.{ℕ}
use mathlib.Core.Path.{◌≡◌, refl, sym, ◌∙◌, ap}
use mathlib.Core.Logic.{◌⊎◌, inl, inr, ◌≢◌}
use mathlib.Core.Bool.{Bool, true, false, cond, ◌&&◌, not, false≢true}
use Rattle.std.proofs.lemmas.List.Folds.{list_all-append}
use Rattle.std.specs.Prelude.{Option, None, Some}
use Rattle.std.proofs.lemmas.Option.{none-some}
use mathlib.Core.List.{List, [], ◌∷◌, ◌++◌, cons≢nil}
use lib.Dec.{eqb}
use borrow.Author.Tests.{eqb-true, not-true, ne_eqb}
use Rattle.infon.specs.Bytes.{space, alike, every}
use Rattle.infon.specs.Formula.{joined, onto, tokens}
use Rattle.std.proofs.lemmas.Bool.{and_parts, and_from, cases_Bool}
use Rattle.infon.proofs.Rows.{alike_eq}

-- what a test picks is the one or the other
pub picked : {A P : Type 0} (test : Bool) {x y z : A} → cond test x y ≡ z → (test ≡ true → x ≡ z → P) → (y ≡ z → P) → P
picked true h first second = first refl h
picked false h first second = second h

pub picked_alike : {A : Type 0} (P : List ℕ → Type 0) (word letters : List ℕ) {x y z : A} → cond (alike word letters) x y ≡ z
    → (x ≡ z → P letters) → (y ≡ z → P word) → P word
picked_alike P word letters h first second = picked (alike word letters) h (λ t e. rw (alike_eq word letters t) (first e)) second

-- where a function that keeps `none` gives something, it was given something
pub from_some : {A B : Type 0} (f : Option A → Option B) → f None ≡ None → (o : Option A) (y : B) → f o ≡ Some y
    → (x : A) × (o ≡ Some x) × (f (Some x) ≡ Some y)
from_some f keeps None y h = absurd (none-some y (sym keeps ∙ h))
from_some f keeps (Some x) y h = (x, refl, h)

pub every_append : {A : Type 0} (test : A → Bool) (xs ys : List A) → every test (xs ++ ys) ≡ every test xs && every test ys
unfolding every
every_append test xs ys = list_all-append test xs ys

-- no byte of the text is b
unfoldable pub lacks : ℕ → List ℕ → Bool
lacks b text = every (λ c. not (eqb c b)) text

pub lacks_cons : (b c : ℕ) (text : List ℕ) → lacks b (c ∷ text) ≡ true → (eqb c b ≡ false) × (lacks b text ≡ true)
unfolding lacks every
lacks_cons b c text h =
    let both = and_parts (not (eqb c b)) (lacks b text) h in
    (not-true (eqb c b) both.0, both.1)

pub cons_lacks : (b c : ℕ) (text : List ℕ) → eqb c b ≡ false → lacks b text ≡ true → lacks b (c ∷ text) ≡ true
unfolding lacks every
cons_lacks b c text apart h = and_from _ _ (ap not apart) h

pub append_lacks : (b : ℕ) (s t : List ℕ) → lacks b s ≡ true → lacks b t ≡ true → lacks b (s ++ t) ≡ true
unfolding lacks
append_lacks b s t h k = every_append (λ c. not (eqb c b)) s t ∙ and_from _ _ h k

-- a text whose bytes all pass a test lacks a byte that does not
pub passed_lacks : (test : ℕ → Bool) (b : ℕ) (text : List ℕ) → test b ≡ false → every test text ≡ true → lacks b text ≡ true
unfolding lacks every
passed_lacks test b [] fails h = refl
passed_lacks test b (c ∷ text) fails h =
    let both = and_parts (test c) (every test text) h in
    cons_lacks b c text (ne_eqb c b (λ e. false≢true (sym fails ∙ ap test (sym e) ∙ both.0))) (passed_lacks test b text fails both.1)

-- a byte that no word has and that is no space is not in the words joined
pub joined_lacks : (b : ℕ) (words : List (List ℕ)) → eqb space b ≡ false → every (lacks b) words ≡ true
    → lacks b (joined words) ≡ true
unfolding joined lacks every
joined_lacks b [] apart h = refl
joined_lacks b (word ∷ []) apart h = (and_parts (lacks b word) true h).0
joined_lacks b (word ∷ (next ∷ rest)) apart h =
    let both = and_parts (lacks b word) (every (lacks b) (next ∷ rest)) h in
    append_lacks b word (space ∷ joined (next ∷ rest)) both.0
    (cons_lacks b space (joined (next ∷ rest)) apart (joined_lacks b (next ∷ rest) apart both.1))

-- From words to tokens.
pub tokens_space : (s : List ℕ) → tokens (space ∷ s) ≡ [] ∷ tokens s
unfolding tokens space
tokens_space s = refl

pub tokens_byte : (b : ℕ) (s : List ℕ) → eqb b space ≡ false → tokens (b ∷ s) ≡ onto b (tokens s)
unfolding tokens
tokens_byte b s h = ap (λ t. cond t ([] ∷ tokens s) (onto b (tokens s))) h

pub tokens_word : (word rest : List ℕ) → lacks space word ≡ true → tokens (word ++ (space ∷ rest)) ≡ word ∷ tokens rest
unfolding onto
tokens_word [] rest h = tokens_space rest
tokens_word (b ∷ word) rest h =
    let both = lacks_cons space b word h in
    tokens_byte b (word ++ (space ∷ rest)) both.0 ∙ ap (onto b) (tokens_word word rest both.1)

pub tokens_last : (word : List ℕ) → lacks space word ≡ true → tokens word ≡ word ∷ []
unfolding tokens onto
tokens_last [] h = refl
tokens_last (b ∷ word) h =
    let both = lacks_cons space b word h in
    tokens_byte b word both.0 ∙ ap (onto b) (tokens_last word both.1)

pub tokens_joined : (words : List (List ℕ)) → words ≢ [] → every (lacks space) words ≡ true → tokens (joined words) ≡ words
unfolding joined every
tokens_joined [] nonempty h = absurd (nonempty refl)
tokens_joined (word ∷ []) nonempty h = tokens_last word (and_parts (lacks space word) true h).0
tokens_joined (word ∷ (next ∷ rest)) nonempty h =
    let both = and_parts (lacks space word) (every (lacks space) (next ∷ rest)) h in
    tokens_word word (joined (next ∷ rest)) both.0 ∙ ap (λ ws. word ∷ ws) (tokens_joined (next ∷ rest) cons≢nil both.1)

-- From tokens to the text.
onto_nonempty : (b : ℕ) (words : List (List ℕ)) → onto b words ≢ []
unfolding onto
onto_nonempty b [] = cons≢nil
onto_nonempty b (word ∷ rest) = cons≢nil

pub tokens_nonempty : (s : List ℕ) → tokens s ≢ []
unfolding tokens
tokens_nonempty [] = cons≢nil
tokens_nonempty (b ∷ s) =
    elim (eqb b space) as (λ t. cond t ([] ∷ tokens s) (onto b (tokens s)) ≢ [])
    [ true ↦ cons≢nil | false ↦ onto_nonempty b (tokens s) ]

joined_onto : (b : ℕ) (words : List (List ℕ)) → joined (onto b words) ≡ b ∷ joined words
unfolding joined onto
joined_onto b [] = refl
joined_onto b (word ∷ []) = refl
joined_onto b (word ∷ (next ∷ rest)) = refl

joined_gap : (words : List (List ℕ)) → words ≢ [] → joined ([] ∷ words) ≡ space ∷ joined words
unfolding joined
joined_gap [] nonempty = absurd (nonempty refl)
joined_gap (word ∷ rest) nonempty = refl

pub joined_tokens : (s : List ℕ) → joined (tokens s) ≡ s
unfolding joined lacks every
joined_tokens [] = ap joined (tokens_last [] refl)
joined_tokens (b ∷ s) = by_byte (joined_tokens s) (cases_Bool (eqb b space))
  where
    by_byte : joined (tokens s) ≡ s → (eqb b space ≡ true) ⊎ (eqb b space ≡ false) → joined (tokens (b ∷ s)) ≡ b ∷ s
    by_byte rest (inl h) = rw (eqb-true b space h, tokens_space s, joined_gap (tokens s) (tokens_nonempty s), rest)
    by_byte rest (inr h) = rw (tokens_byte b s h, joined_onto, rest)
