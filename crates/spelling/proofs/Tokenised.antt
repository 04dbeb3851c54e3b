-- The token at a place is the first of the tokens that stand from there on, unless a line feed ends it; and a text with a line
-- feed is no formula.
-- Assumes nothing.
use Prim.Native.Nat.{ℕ, suc, ◌+◌}
use native.Mathlib.Numerals.{one-add}
use mathlib.Core.Path.{◌≡◌, refl, sym, ◌∙◌, ap, subst}
use mathlib.Core.Logic.{◌⊎◌, inl, inr, ⊎_elim}
use mathlib.Core.Bool.{true, false, cond, not, true≢false, false≢true}
use Rattle.std.proofs.lemmas.Bool.{and_parts, or_cases, or_parts, cases_Bool}
use Rattle.std.specs.Prelude.{Option, None, Some}
use mathlib.Core.List.{List, [], ◌∷◌, ◌++◌, append-nil}
use lib.ListN.{length, take, drop, take-append-drop}
use lib.Seq.{drop-drop, take-append_seam}
use lib.Dec.{eqb}
use borrow.Author.Tests.{eqb-true}
use Rattle.infon.specs.Bytes.{bytes, space, line_feed, every}
use Rattle.infon.specs.Formula.{Formula, is_name_byte, is_name, tokens, formula_of}
use Rattle.std.specs.Prelude.{is_some}
use Rattle.infon.proofs.Words.{every_append, lacks, lacks_cons, cons_lacks, tokens_word, tokens_last}
use Rattle.infon.proofs.Readable.{is_word_byte, name_lacks, spelling_read, spelling_lacks_line_feed}
use Rattle.spelling.specs.Token.{is_break, word_length, word_at}
use Rattle.spelling.proofs.Breaks.{until_passes, word_at_length}

-- The bytes before a break.
word_lacks : (s : List ℕ) → lacks space (take (word_length s) s) ≡ true
unfolding is_break lacks every
word_lacks [] = refl
word_lacks (b ∷ s) = by_byte (word_lacks s) (cases_Bool (is_break b))
  where
    by_byte : lacks space (take (word_length s) s) ≡ true → (is_break b ≡ true) ⊎ (is_break b ≡ false)
        → lacks space (take (cond (not (is_break b)) (1 + word_length s) 0) (b ∷ s)) ≡ true
    by_byte rest (inl e) = rw e
    by_byte rest (inr e) = rw (e, one-add (word_length s)) (cons_lacks space b (take (word_length s) s) (or_parts (eqb b space) (eqb b line_feed) e).0 rest)

module _ (text : List ℕ) (at : ℕ) where
  pub token_lacks : lacks space (word_at text at) ≡ true
  unfolding word_at
  token_lacks = word_lacks (drop at text)

  pub token_stands : drop at text ≡ word_at text at ++ drop (at + length (word_at text at)) text
  unfolding word_at
  token_stands =
      sym (take-append-drop (word_length (drop at text)) (drop at text))
      ∙ ap (λ t. word_at text at ++ t) (drop-drop (word_length (drop at text)) at text ∙ ap (λ k. drop (at + k) text) (sym (word_at_length text at)))

  pub token_stops : (b : ℕ) (rest : List ℕ) → drop (at + length (word_at text at)) text ≡ b ∷ rest → is_break b ≡ true
  token_stops b rest h =
      until_passes is_break (drop at text) b rest
      (drop-drop (word_length (drop at text)) at text ∙ ap (λ k. drop (at + k) text) (sym (word_at_length text at)) ∙ h)

-- A text with a line feed in it is no formula.
formula_lacks : (text : List ℕ) (o : Option Formula) → formula_of text ≡ o → is_some o ≡ true → lacks line_feed text ≡ true
formula_lacks text None e h = absurd (false≢true h)
formula_lacks text (Some x) e h =
    let spelled = spelling_read text x e in
    subst (λ t. lacks line_feed t ≡ true) (sym spelled.0) (spelling_lacks_line_feed x spelled.1)

pub feed_no_formula : (text : List ℕ) (k : ℕ) (rest : List ℕ) → drop k text ≡ line_feed ∷ rest → is_some (formula_of text) ≡ false
unfolding lacks line_feed
feed_no_formula text k rest h =
    ⊎_elim
    (λ e.
    let all = formula_lacks text (formula_of text) refl e in
    let split : text ≡ take k text ++ (line_feed ∷ rest) = sym (take-append-drop k text) ∙ ap (λ t. take k text ++ t) h in
    let both =
    and_parts (lacks line_feed (take k text)) (lacks line_feed (line_feed ∷ rest))
    (sym (every_append (λ c. not (eqb c line_feed)) (take k text) (line_feed ∷ rest)) ∙ ap (lacks line_feed) (sym split) ∙ all) in
    absurd (true≢false (lacks_cons line_feed line_feed rest both.1).0))
    (λ e. e)
    (cases_Bool (is_some (formula_of text)))

-- what a break is
pub break_cases : (b : ℕ) → is_break b ≡ true → (b ≡ space) ⊎ (b ≡ line_feed)
unfolding is_break
break_cases b h = ⊎_elim (λ e. inl (eqb-true b space e)) (λ e. inr (eqb-true b line_feed e)) (or_cases (eqb b space) (eqb b line_feed) h)

-- The token at a place comes first among the tokens from there on, or the text is no formula.
pub first_token : (text : List ℕ) (at : ℕ)
    → ((ws : List (List ℕ)) × (tokens (drop at text) ≡ word_at text at ∷ ws)) ⊎ (is_some (formula_of text) ≡ false)
first_token text at = by_rest (drop (at + length (word_at text at)) text) refl
  where
    by_rest : (rest : List ℕ) → drop (at + length (word_at text at)) text ≡ rest
        → ((ws : List (List ℕ)) × (tokens (drop at text) ≡ word_at text at ∷ ws)) ⊎ (is_some (formula_of text) ≡ false)
    by_rest [] e =
        inl ([], ap tokens (token_stands text at ∙ ap (λ t. word_at text at ++ t) e ∙ append-nil (word_at text at)) ∙ tokens_last (word_at text at) (token_lacks text at))
    by_rest (b ∷ rest) e =
        ⊎_elim
        (λ gap.
        inl (
          tokens rest,
          ap tokens (token_stands text at ∙ ap (λ t. word_at text at ++ t) (e ∙ ap (λ c. c ∷ rest) gap)) ∙ tokens_word (word_at text at) rest (token_lacks text at),
        ))
        (λ feed. inr (feed_no_formula text (at + length (word_at text at)) rest (e ∙ ap (λ c. c ∷ rest) feed)))
        (break_cases b (token_stops text at b rest e))

-- a word without a break, with a break behind it, is the token that begins there
word_cut : (word : List ℕ) (b : ℕ) (rest : List ℕ) → lacks space word ≡ true → lacks line_feed word ≡ true → is_break b ≡ true
    → word_length (word ++ (b ∷ rest)) ≡ length word
unfolding is_break
word_cut [] b rest s f e = rw e
word_cut (a ∷ word) b rest s f e =
    let gap = lacks_cons space a word s in
    let feed = lacks_cons line_feed a word f in
    rw (gap.0, feed.0, one-add (word_length (word ++ (b ∷ rest)))) (ap suc (word_cut word b rest gap.1 feed.1 e))

pub token_cut : (text : List ℕ) (at : ℕ) (word : List ℕ) (b : ℕ) (rest : List ℕ) → drop at text ≡ word ++ (b ∷ rest)
    → lacks space word ≡ true → lacks line_feed word ≡ true → is_break b ≡ true → word_at text at ≡ word
unfolding word_at
token_cut text at word b rest h s f e =
    rw (h, word_cut word b rest s f e) (take-append_seam word (b ∷ rest))

pub name_token : (text : List ℕ) (at : ℕ) (a : List ℕ) (b : ℕ) (rest : List ℕ) → is_name a ≡ true → is_break b ≡ true
    → drop at text ≡ a ++ (b ∷ rest) → word_at text at ≡ a
unfolding is_word_byte is_name_byte bytes lacks every space line_feed
name_token text at a b rest named broken h =
    token_cut text at a b rest h (name_lacks space a refl named) (name_lacks line_feed a refl named) broken
