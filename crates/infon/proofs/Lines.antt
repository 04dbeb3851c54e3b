-- A file cut into lines, and the sentence on a line. The lines put together are the file; a line feed ends
-- its line; a named sentence is read from its line, and whatever is read is named and stands on such a line.
-- Assumes nothing.
use Prim.Native.Nat.{ℕ}
use mathlib.Core.Path.{◌≡◌, refl, sym, ◌∙◌, ap, subst₂}
use mathlib.Core.Bool.{true, false, cond}
use Rattle.std.specs.Prelude.{Some, option_map}
use Rattle.std.proofs.lemmas.Option.{none-some, same_Some}
use mathlib.Core.List.{List, [], ◌∷◌, ◌++◌, flatten}
use lib.Dec.{eqb}
use borrow.Author.Tests.{eqb-true}
use Rattle.infon.specs.Bytes.{bytes, line_feed, alike}
use Rattle.infon.specs.Formula.{Formula, is_named, spelling, onto, formula_of}
use Rattle.infon.specs.Policy.{cut, Sentence, hypothesis, query, before_feed, read, sentence_of, formula_in}
use Rattle.infon.proofs.Words.{picked, picked_alike, from_some}
use Rattle.infon.proofs.Readable.{read_spelling, spelling_read}

-- Lines.
flatten_onto : (b : ℕ) (lines : List (List ℕ)) → flatten (onto b lines) ≡ b ∷ flatten lines
unfolding flatten onto
flatten_onto b [] = refl
flatten_onto b (line ∷ rest) = refl

pub cut_concat : (s : List ℕ) → flatten (cut s) ≡ s
unfolding cut flatten
cut_concat [] = refl
cut_concat (b ∷ s) =
    elim (eqb b line_feed) as (λ t. flatten (cond t ((b ∷ []) ∷ cut s) (onto b (cut s))) ≡ b ∷ s)
    [ true ↦ rw (cut_concat s) | false ↦ rw (flatten_onto b (cut s), cut_concat s) ]

pub cut_line_feed : (s : List ℕ) → cut (line_feed ∷ s) ≡ (line_feed ∷ []) ∷ cut s
unfolding cut line_feed
cut_line_feed s = refl

pub cut_byte : (b : ℕ) (s : List ℕ) → eqb b line_feed ≡ false → cut (b ∷ s) ≡ onto b (cut s)
unfolding cut
cut_byte b s h = ap (λ t. cond t ((b ∷ []) ∷ cut s) (onto b (cut s))) h

-- The line feed that ends a line.
pub before_feed_ended : (text : List ℕ) → before_feed (text ++ (line_feed ∷ [])) ≡ Some text
unfolding before_feed line_feed
before_feed_ended [] = refl
before_feed_ended (b ∷ []) = refl
before_feed_ended (b ∷ (c ∷ text)) = ap (option_map (λ t. b ∷ t)) (before_feed_ended (c ∷ text))

pub ended_before_feed : (line text : List ℕ) → before_feed line ≡ Some text → line ≡ text ++ (line_feed ∷ [])
unfolding before_feed
ended_before_feed [] text h = absurd (none-some text h)
ended_before_feed (b ∷ []) text h =
    picked (eqb b line_feed) h (λ t e. rw (eqb-true b line_feed t, ← same_Some [] text e))
    λ e. absurd (none-some text e)
ended_before_feed (b ∷ (c ∷ line)) text h =
    let rest = from_some (option_map (λ t. b ∷ t)) refl (before_feed (c ∷ line)) text h in
    rw (← same_Some (b ∷ rest.0) text rest.2, ended_before_feed (c ∷ line) rest.0 rest.1)

-- Sentences. How the line of each kind begins, and the whole line:
abbrev pub opening : Sentence → List ℕ
opening (hypothesis x) = bytes "H "
opening (query x) = bytes "Q "

abbrev pub line_of : Sentence → List ℕ
line_of s = opening s ++ (spelling (formula_in s) ++ (line_feed ∷ []))

pub read_line : (s : Sentence) → is_named (formula_in s) ≡ true → sentence_of (line_of s) ≡ Some s
unfolding sentence_of formula_in bytes alike read
read_line (hypothesis x) h = rw (before_feed_ended (spelling x), read_spelling x h)
read_line (query x) h = rw (before_feed_ended (spelling x), read_spelling x h)

abbrev Spells : List ℕ → Sentence → Type 0
Spells line s = (line ≡ line_of s) × (is_named (formula_in s) ≡ true)

-- what stands behind the opening of a letter's lines is read as that letter's sentence
letter_read : (letter : Formula → Sentence) (start text : List ℕ) (s : Sentence)
    → ((x : Formula) → is_named x ≡ true → Spells (start ++ (spelling x ++ (line_feed ∷ []))) (letter x)) → read letter (before_feed text) ≡ Some s
    → Spells (start ++ text) s
unfolding read
letter_read letter start text s spells h =
    let inner = from_some (read letter) refl (before_feed text) s h in
    let formula = from_some (option_map letter) refl (formula_of inner.0) s inner.2 in
    let spelled = spelling_read inner.0 formula.0 formula.1 in
    subst₂ (λ t r. Spells (start ++ t) r) (sym (ended_before_feed text inner.0 inner.1 ∙ ap (λ t. t ++ (line_feed ∷ [])) spelled.0))
    (same_Some (letter formula.0) s formula.2) (spells formula.0 spelled.1)

pub line_read : (line : List ℕ) (s : Sentence) → sentence_of line ≡ Some s → (line ≡ line_of s) × (is_named (formula_in s) ≡ true)
unfolding sentence_of formula_in
line_read [] s h = absurd (none-some s h)
line_read (a ∷ []) s h = absurd (none-some s h)
line_read (a ∷ (b ∷ text)) s h =
    picked_alike (λ start. Spells (start ++ text) s) (a ∷ (b ∷ [])) (bytes "H ") h
    (letter_read hypothesis (bytes "H ") text s (λ x named. (refl, named)))
    λ h. picked_alike (λ start. Spells (start ++ text) s) (a ∷ (b ∷ [])) (bytes "Q ") h
    (letter_read query (bytes "Q ") text s (λ x named. (refl, named)))
    λ e. absurd (none-some s e)
