-- Unique readability: a named formula is read from its spelling, and whatever is read is named and spelled so.
-- Assumes nothing.
use Prim.Native.Nat.{ℕ, ◌<◌}
use mathlib.Core.Path.{◌≡◌, refl, sym, ◌∙◌, ap}
use mathlib.Core.Logic.{◌⊎◌, inl, inr, ◌≢◌}
use mathlib.Core.Bool.{Bool, true, false, ◌&&◌, ◌||◌, not, true≢false, and_assoc}
use Rattle.std.specs.Prelude.{Option, None, Some, option_and_then, flat_map}
use Rattle.std.proofs.lemmas.Option.{none-some, same_Some}
use mathlib.Core.List.{List, [], ◌∷◌, ◌++◌, append_assoc, append-nil, cons≢nil}
use lib.ListN.{length}
use lib.Dec.{leb}
use borrow.Author.Tests.{leb-true}
use Rattle.infon.specs.Bytes.{bytes, line_feed, space, alike, every}
use Rattle.infon.specs.Formula.{Told, said, put, Formula, True, name, and, implies, quoted, is_name_byte, is_name, is_named, letter_of, words, joined, spelling, tokens, join_two, quote, take_word, read_words, only_one, formula_of}
use Rattle.std.proofs.lemmas.Bool.{and_parts, and_from, or_parts, cases_Bool}
use Rattle.infon.proofs.Rows.{alike_eq}
use Rattle.infon.proofs.Words.{picked, picked_alike, from_some, every_append, lacks, passed_lacks, joined_lacks, tokens_joined, joined_tokens}

-- The words of a named formula, and the bytes of which they are made.
pub words_nonempty : (x : Formula) → words x ≢ []
unfolding words
words_nonempty True = cons≢nil
words_nonempty (name a) = cons≢nil
words_nonempty (and x y) = cons≢nil
words_nonempty (implies x y) = cons≢nil
words_nonempty (quoted q x) = cons≢nil

unfoldable pub is_word_byte : ℕ → Bool
is_word_byte b = is_name_byte b || not (lacks b (bytes "T+>SP"))

pub name_positive : (a : List ℕ) → is_name a ≡ true → 0 < length a
unfolding is_name
name_positive a h =
    leb-true 1 (length a)
    (and_parts (leb 1 (length a)) (leb (length a) 16) (and_parts (leb 1 (length a) && leb (length a) 16) (every is_name_byte a) h).0).0

pub name_lacks : (b : ℕ) (a : List ℕ) → is_word_byte b ≡ false → is_name a ≡ true → lacks b a ≡ true
unfolding is_word_byte is_name
name_lacks b a outside h =
    passed_lacks is_name_byte b a (or_parts (is_name_byte b) (not (lacks b (bytes "T+>SP"))) outside).0
    (and_parts (leb 1 (length a) && leb (length a) 16) (every is_name_byte a) h).1

letter_lacks : (b : ℕ) (told : Told) → is_word_byte b ≡ false → lacks b (letter_of told) ≡ true
unfolding letter_of is_word_byte is_name_byte bytes lacks every
letter_lacks b said outside = passed_lacks is_word_byte b (bytes "S") outside refl
letter_lacks b put outside = passed_lacks is_word_byte b (bytes "P") outside refl

pub letter_length : (told : Told) → length (letter_of told) ≡ 1
unfolding letter_of bytes
letter_length said = refl
letter_length put = refl

pub words_lack : (b : ℕ) (x : Formula) → is_word_byte b ≡ false → is_named x ≡ true → every (lacks b) (words x) ≡ true
unfolding words is_named is_word_byte is_name_byte bytes lacks every
words_lack b True outside h = and_from _ _ (passed_lacks is_word_byte b (bytes "T") outside refl) refl
words_lack b (name a) outside h = and_from _ _ (name_lacks b a outside h) refl
words_lack b (and x y) outside h =
    let both = and_parts (is_named x) (is_named y) h in
    and_from _ _ (passed_lacks is_word_byte b (bytes "+") outside refl)
    (every_append (lacks b) (words x) (words y) ∙ and_from _ _ (words_lack b x outside both.0) (words_lack b y outside both.1))
words_lack b (implies x y) outside h =
    let both = and_parts (is_named x) (is_named y) h in
    and_from _ _ (passed_lacks is_word_byte b (bytes ">") outside refl)
    (every_append (lacks b) (words x) (words y) ∙ and_from _ _ (words_lack b x outside both.0) (words_lack b y outside both.1))
words_lack b (quoted q x) outside h =
    let both = and_parts (is_name q.principal) (is_named x) h in
    and_from _ _ (letter_lacks b q.told outside)
    (and_from _ _ (name_lacks b q.principal outside both.0) (words_lack b x outside both.1))

pub spelling_lacks_line_feed : (x : Formula) → is_named x ≡ true → lacks line_feed (spelling x) ≡ true
unfolding spelling is_word_byte is_name_byte bytes lacks every line_feed space
spelling_lacks_line_feed x h = joined_lacks line_feed (words x) refl (words_lack line_feed x refl h)

-- From the formula to its words and back.
pub unlike_name : (a word : List ℕ) → is_name a ≡ true → is_name word ≡ false → alike a word ≡ false
unlike_name a word named unnamed = by_test (cases_Bool (alike a word))
  where
    by_test : (alike a word ≡ true) ⊎ (alike a word ≡ false) → alike a word ≡ false
    by_test (inl e) = absurd (true≢false (sym named ∙ ap is_name (alike_eq a word e) ∙ unnamed))
    by_test (inr e) = e

pub take_name : (a : List ℕ) (waiting : List Formula) → is_name a ≡ true → take_word a waiting ≡ Some (name a ∷ waiting)
unfolding take_word is_name is_name_byte every bytes
take_name a waiting h =
    rw (
      unlike_name a (bytes "T") h refl,
      unlike_name a (bytes "+") h refl,
      unlike_name a (bytes ">") h refl,
      unlike_name a (bytes "S") h refl,
      unlike_name a (bytes "P") h refl,
      h,
    )

pub take_letter : (told : Told) (waiting : List Formula) → take_word (letter_of told) waiting ≡ quote told waiting
unfolding take_word letter_of alike bytes
take_letter said waiting = refl
take_letter put waiting = refl

-- read before what already waits, a formula's words give that formula
pub read_words_lem : (x : Formula) (rest : List (List ℕ)) (waiting : List Formula) → is_named x ≡ true → read_words rest ≡ Some waiting
    → read_words (words x ++ rest) ≡ Some (x ∷ waiting)
unfolding words is_named read_words take_word join_two quote alike bytes
read_words_lem True rest waiting named h = rw h
read_words_lem (name a) rest waiting named h = rw h (take_name a waiting named)
read_words_lem (and x y) rest waiting named h =
    let both = and_parts (is_named x) (is_named y) named in
    rw (append_assoc (words x) (words y) rest, read_words_lem x (words y ++ rest) (y ∷ waiting) both.0 (read_words_lem y rest waiting both.1 h))
read_words_lem (implies x y) rest waiting named h =
    let both = and_parts (is_named x) (is_named y) named in
    rw (append_assoc (words x) (words y) rest, read_words_lem x (words y ++ rest) (y ∷ waiting) both.0 (read_words_lem y rest waiting both.1 h))
read_words_lem (quoted q x) rest waiting named h =
    let both = and_parts (is_name q.principal) (is_named x) named in
    rw (read_words_lem x rest waiting both.1 h, take_name q.principal (x ∷ waiting) both.0)
    (take_letter q.told (name q.principal ∷ (x ∷ waiting)))

pub read_spelling : (x : Formula) → is_named x ≡ true → formula_of (spelling x) ≡ Some x
unfolding formula_of spelling only_one read_words is_word_byte is_name_byte lacks every bytes space
read_spelling x h =
    rw (tokens_joined (words x) (words_nonempty x) (words_lack space x refl h), ← append-nil (words x), read_words_lem x [] [] h refl)

pub spelled_alike : (x y : Formula) → is_named x ≡ true → is_named y ≡ true → spelling x ≡ spelling y → x ≡ y
spelled_alike x y h k e = cc (read_spelling x h, read_spelling y k)

-- From the words to the formula. A word was taken: what waits after it has the word before the words of what waited, and is
-- named if that was.
abbrev Took : List ℕ → List Formula → List Formula → Type 0
Took word before after = (flat_map words after ≡ word ∷ flat_map words before) × (every is_named after ≡ every is_named before)

took_two : (operator : Formula → Formula → Formula) (word : List ℕ)
    → ((x y : Formula) → words (operator x y) ≡ word ∷ (words x ++ words y))
    → ((x y : Formula) → is_named (operator x y) ≡ is_named x && is_named y)
    → (before after : List Formula) → join_two operator before ≡ Some after → Took word before after
unfolding join_two every
took_two operator word spelled named [] after h = absurd (none-some after h)
took_two operator word spelled named (x ∷ []) after h = absurd (none-some after h)
took_two operator word spelled named (x ∷ (y ∷ before)) after h =
    rw (← same_Some (operator x y ∷ before) after h)
    (rw (spelled x y, append_assoc (words x) (words y) (flat_map words before)), rw (named x y) (and_assoc (is_named x) (is_named y) (every is_named before)))

took_quote : (told : Told) (before after : List Formula) → quote told before ≡ Some after → Took (letter_of told) before after
unfolding quote every words is_named
took_quote told [] after h = absurd (none-some after h)
took_quote told (name a ∷ []) after h = absurd (none-some after h)
took_quote told (name a ∷ (x ∷ before)) after h =
    rw (← same_Some _ after h) (refl, and_assoc (is_name a) (is_named x) (every is_named before))
took_quote told (True ∷ before) after h = absurd (none-some after h)
took_quote told (and x y ∷ before) after h = absurd (none-some after h)
took_quote told (implies x y ∷ before) after h = absurd (none-some after h)
took_quote told (quoted q x ∷ before) after h = absurd (none-some after h)

took_word : (word : List ℕ) (before after : List Formula) → take_word word before ≡ Some after → Took word before after
unfolding take_word every words is_named letter_of
took_word word before after h =
    picked_alike P word (bytes "T") h (λ e. rw (← same_Some _ after e) (refl, refl))
    λ h. picked_alike P word (bytes "+") h (took_two and (bytes "+") (λ x y. refl) (λ x y. refl) before after)
    λ h. picked_alike P word (bytes ">") h (took_two implies (bytes ">") (λ x y. refl) (λ x y. refl) before after)
    λ h. picked_alike P word (bytes "S") h (took_quote said before after)
    λ h. picked_alike P word (bytes "P") h (took_quote put before after)
    λ h. picked (is_name word) h (λ named e. rw (← same_Some _ after e) (refl, rw named))
    λ e. absurd (none-some after e)
  where
    P : List ℕ → Type 0
    P letters = Took letters before after

-- what waits when a row of words is read has those words, and is named
pub words_read : (row : List (List ℕ)) (waiting : List Formula) → read_words row ≡ Some waiting
    → (flat_map words waiting ≡ row) × (every is_named waiting ≡ true)
unfolding read_words every
words_read [] waiting h = rw (← same_Some [] waiting h) (refl, refl)
words_read (word ∷ rest) waiting h =
    let before = from_some (option_and_then (take_word word)) refl (read_words rest) waiting h in
    let took = took_word word before.0 waiting before.2 in
    let below = words_read rest before.0 before.1 in
    (took.0 ∙ ap (λ r. word ∷ r) below.0, took.1 ∙ below.1)

only_one_lem : (o : Option (List Formula)) (x : Formula) → only_one o ≡ Some x → o ≡ Some (x ∷ [])
unfolding only_one
only_one_lem None x h = absurd (none-some x h)
only_one_lem (Some []) x h = absurd (none-some x h)
only_one_lem (Some (y ∷ [])) x h = ap (λ z. Some (z ∷ [])) (same_Some y x h)
only_one_lem (Some (y ∷ (z ∷ waiting))) x h = absurd (none-some x h)

pub spelling_read : (text : List ℕ) (x : Formula) → formula_of text ≡ Some x → (text ≡ spelling x) × (is_named x ≡ true)
unfolding formula_of spelling every
spelling_read text x h =
    let read = words_read (tokens text) (x ∷ []) (only_one_lem (read_words (tokens text)) x h) in
    (sym (joined_tokens text) ∙ ap joined (sym read.0 ∙ append-nil (words x)), (and_parts (is_named x) true read.1).0)
