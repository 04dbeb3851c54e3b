-- Lines in a file, by the places of their line feeds: what stands before the first one is the first line, and its letter, its
-- space and its formula make it well formed.
-- Assumes nothing.
use Prim.Native.Nat.{ℕ, suc, ◌+◌, ◌-◌, ◌≤◌, ◌<◌}
use native.Mathlib.Omega.{arith}
use native.Mathlib.Numerals.{one-add}
use mathlib.Core.Path.{◌≡◌, refl, sym, ◌∙◌, ap, subst}
use mathlib.Core.Logic.{◌⊎◌, inl, inr}
use mathlib.Core.Bool.{Bool, true, false, cond, ◌||◌, not, false≢true}
use Rattle.std.proofs.lemmas.Bool.{and_parts, cases_Bool}
use Rattle.std.specs.Prelude.{Option, None, Some, option_map}
use mathlib.Core.List.{List, [], ◌∷◌, ◌++◌}
use lib.ListN.{length, get_or, take, drop, length-take, length-drop, drop_of_length-le}
use lib.Seq.{drop-cons, drop-drop, take-suc, take_all, get_or-drop}
use lib.Dec.{eqb}
use borrow.Author.Tests.{eqb-true}
use Rattle.infon.specs.Bytes.{bytes, line_feed, alike, every}
use Rattle.infon.specs.Formula.{Formula, onto, spelling, formula_of}
use Rattle.infon.specs.Codes.{when, and_then, passed, refused}
use Rattle.infon.specs.Policy.{cut, Line, placed, lines_of, Sentence, hypothesis, query, read, before_feed, sentence_of, is_well_formed, formula_in, code2_from, code2}
use Rattle.std.specs.Prelude.{is_some, take_while}
use Rattle.infon.proofs.Words.{lacks, cons_lacks, every_append}
use Rattle.infon.proofs.Lines.{cut_line_feed, cut_byte, before_feed_ended, opening, line_read}
use Rattle.spelling.proofs.Breaks.{until_fits, until_passes}
use Rattle.std.proofs.lemmas.List.Folds.{length-prefix_len}
use Rattle.lines.specs.Lining.{is_feed, until_feed, is_opening}

-- the place of the line feed that ends the line which starts at a place
pub line_ends : (file : List ℕ) (start n : ℕ) → start ≤ length file
    → n ≡ length (take_while (λ b. not (is_feed b)) (take (length file - start) (drop start file))) → start + n ≡ start + until_feed (drop start file)
line_ends file start n h e =
    let whole : take (length file - start) (drop start file) ≡ drop start file = take_all (length file - start) (drop start file) (omega (arith, length-drop start file)) in
    ap (λ k. start + k) (e ∙ ap (λ s. length (take_while (λ b. not (is_feed b)) s)) whole ∙ length-prefix_len (λ b. not (is_feed b)) (drop start file))

-- the byte there is a line feed, or there is none
feed_found : (s : List ℕ) → until_feed s < length s → get_or s (until_feed s) 0 ≡ line_feed
feed_found s h =
    eqb-true (get_or s (until_feed s) 0) line_feed
    (until_passes is_feed s (get_or s (until_feed s) 0) (drop (suc (until_feed s)) s) (drop-cons s (until_feed s) 0 h))

feed_none : (s : List ℕ) → length s ≤ until_feed s → lacks line_feed s ≡ true
unfolding lacks every
feed_none [] h = refl
feed_none (b ∷ s) h = by_byte (feed_none s) (cases_Bool (eqb b line_feed)) h
  where
    by_byte : (length s ≤ until_feed s → lacks line_feed s ≡ true) → (eqb b line_feed ≡ true) ⊎ (eqb b line_feed ≡ false)
        → suc (length s) ≤ cond (not (eqb b line_feed)) (1 + until_feed s) 0 → lacks line_feed (b ∷ s) ≡ true
    by_byte later (inl e) k = let none_left : suc (length s) ≤ 0 = rw e at k in absurd (omega arith)
    by_byte later (inr e) k = let shorter : suc (length s) ≤ 1 + until_feed s = rw e at k in cons_lacks line_feed b s e (later (omega arith))

cut_nil : cut [] ≡ []
unfolding cut
cut_nil = refl

-- the first line of a text
pub cut_first : (s : List ℕ) → 0 < length s → cut s ≡ take (suc (until_feed s)) s ∷ cut (drop (suc (until_feed s)) s)
unfolding onto
cut_first [] h = absurd (omega arith)
cut_first (b ∷ []) h = by_byte (cases_Bool (eqb b line_feed))
  where
    by_byte : (eqb b line_feed ≡ true) ⊎ (eqb b line_feed ≡ false)
        → cut (b ∷ []) ≡ take (suc (cond (not (eqb b line_feed)) 1 0)) (b ∷ []) ∷ cut (drop (suc (cond (not (eqb b line_feed)) 1 0)) (b ∷ []))
    by_byte (inl e) = rw (e, eqb-true b line_feed e) (cut_line_feed [])
    by_byte (inr e) = rw e (cut_byte b [] e ∙ ap (onto b) cut_nil ∙ ap (λ rest. (b ∷ []) ∷ rest) (sym cut_nil))
cut_first (b ∷ (c ∷ s)) h = by_byte (cut_first (c ∷ s) (omega arith)) (cases_Bool (eqb b line_feed))
  where
    by_byte : cut (c ∷ s) ≡ take (suc (until_feed (c ∷ s))) (c ∷ s) ∷ cut (drop (suc (until_feed (c ∷ s))) (c ∷ s))
        → (eqb b line_feed ≡ true) ⊎ (eqb b line_feed ≡ false)
        → cut (b ∷ (c ∷ s))
        ≡ take (suc (cond (not (eqb b line_feed)) (1 + until_feed (c ∷ s)) 0)) (b ∷ (c ∷ s)) ∷ cut (drop (suc (cond (not (eqb b line_feed)) (1 + until_feed (c ∷ s)) 0)) (b ∷ (c ∷ s)))
    by_byte later (inl e) = rw (e, eqb-true b line_feed e) (cut_line_feed (c ∷ s))
    by_byte later (inr e) = rw (e, one-add (until_feed (c ∷ s))) (cut_byte b (c ∷ s) e ∙ ap (onto b) later)

-- A line of a letter, a space, a text and a line feed says something exactly if the text is a formula.
opened : (t u : Bool) (o : Option Formula) → is_some (cond t (option_map hypothesis o) (cond u (option_map query o) None)) ≡ cond (t || u) (is_some o) false
opened true u None = refl
opened true u (Some x) = refl
opened false true None = refl
opened false true (Some x) = refl
opened false false None = refl
opened false false (Some x) = refl

sentence_part : (a b : ℕ) (text : List ℕ)
    → is_some (sentence_of (a ∷ (b ∷ (text ++ (line_feed ∷ []))))) ≡ cond (is_opening a b) (is_some (formula_of text)) false
unfolding sentence_of is_opening read
sentence_part a b text =
    rw (before_feed_ended text)
    (opened (alike (a ∷ (b ∷ [])) (bytes "H ")) (alike (a ∷ (b ∷ [])) (bytes "Q ")) (formula_of text))

short_line : (line : List ℕ) → length line ≤ 2 → is_some (sentence_of line) ≡ false
unfolding sentence_of read before_feed
short_line [] h = refl
short_line (a ∷ []) h = refl
short_line (a ∷ (b ∷ [])) h = none_there (alike (a ∷ (b ∷ [])) (bytes "H ")) (alike (a ∷ (b ∷ [])) (bytes "Q "))
  where
    none_there : (t u : Bool) → is_some (cond {A = Option Sentence} t None (cond u None None)) ≡ false
    none_there true u = refl
    none_there false true = refl
    none_there false false = refl
short_line (a ∷ (b ∷ (c ∷ line))) h = absurd (omega arith)

said_feed : (line : List ℕ) (o : Option Sentence) → sentence_of line ≡ o → lacks line_feed line ≡ true → is_some o ≡ false
unfolding lacks line_feed every
said_feed line None e h = refl
said_feed line (Some s) e h =
    let text = spelling (formula_in s) in
    let all : lacks line_feed (opening s ++ (text ++ (line_feed ∷ []))) ≡ true = subst (λ t. lacks line_feed t ≡ true) (line_read line s e).0 h in
    let behind =
    and_parts (lacks line_feed (opening s)) (lacks line_feed (text ++ (line_feed ∷ [])))
    (sym (every_append (λ c. not (eqb c line_feed)) (opening s) (text ++ (line_feed ∷ []))) ∙ all) in
    let last =
    and_parts (lacks line_feed text) (lacks line_feed (line_feed ∷ []))
    (sym (every_append (λ c. not (eqb c line_feed)) text (line_feed ∷ [])) ∙ behind.1) in
    absurd (false≢true last.1)

-- The line that starts at a place and ends at its line feed.
module _ (file : List ℕ) (start end : ℕ) (inside : start < length file) (at-feed : end ≡ start + until_feed (drop start file)) where
  abbrev pub line_at : List ℕ
  line_at = take (suc (until_feed (drop start file))) (drop start file)

  pub line_unended : end ≡ length file → false ≡ is_some (sentence_of line_at)
  line_unended e =
      let size = length-drop start file in
      sym
      (said_feed line_at (sentence_of line_at) refl
      (subst (λ t. lacks line_feed t ≡ true) (sym (take_all (suc (until_feed (drop start file))) (drop start file) (omega arith)))
      (feed_none (drop start file) (omega arith))))

  pub line_ended : is_some (sentence_of line_at) ≡ true → end < length file
  line_ended h =
      let apart : end ≡ length file → ⊥ = λ e. false≢true (line_unended e ∙ h) in
      omega (arith, until_fits is_feed file start (omega arith))

  pub line_short : end - start < 2 → false ≡ is_some (sentence_of line_at)
  line_short h =
      sym
      (short_line line_at
      (omega (arith, length-take (suc (until_feed (drop start file))) (drop start file))))

  module _ (ended : end < length file) (long : 2 ≤ end - start) where
    feed_at_end : get_or file end 0 ≡ line_feed
    feed_at_end =
        ap (λ j. get_or file j 0) at-feed ∙ sym (get_or-drop start file (until_feed (drop start file)) 0)
        ∙ feed_found (drop start file) (omega (arith, length-drop start file))

    line_parts : line_at ≡ get_or file start 0 ∷ (get_or file (start + 1) 0 ∷ (take (end - (start + 2)) (drop (start + 2) file) ++ (line_feed ∷ [])))
    line_parts =
        let k = end - (start + 2) in
        let size : until_feed (drop start file) ≡ suc (suc k) = omega arith in
        let one : suc start ≡ start + 1 = omega arith in
        let two : suc (start + 1) ≡ start + 2 = omega arith in
        let here : start + 2 + k ≡ end = omega arith in
        let rest = drop (start + 2) file in
        let parts : drop start file ≡ get_or file start 0 ∷ (get_or file (start + 1) 0 ∷ rest) =
        drop-cons file start 0 inside
        ∙ ap (λ t. get_or file start 0 ∷ t) (ap (λ j. drop j file) one ∙ drop-cons file (start + 1) 0 (omega arith) ∙ ap (λ j. get_or file (start + 1) 0 ∷ drop j file) two) in
        let last : take (suc k) rest ≡ take k rest ++ (line_feed ∷ []) =
        take-suc rest k 0 (omega (arith, length-drop (start + 2) file))
        ∙ ap (λ b. take k rest ++ (b ∷ [])) (get_or-drop (start + 2) file k 0 ∙ ap (λ j. get_or file j 0) here ∙ feed_at_end) in
        ap (λ n. take (suc n) (drop start file)) size ∙ ap (take (suc (suc (suc k)))) parts
        ∙ ap (λ t. get_or file start 0 ∷ (get_or file (start + 1) 0 ∷ t)) last

    line_said : is_some (sentence_of line_at) ≡ cond (is_opening (get_or file start 0) (get_or file (start + 1) 0)) (is_some (formula_of (take (end - (start + 2)) (drop (start + 2) file)))) false
    line_said =
        ap (λ t. is_some (sentence_of t)) line_parts
        ∙ sentence_part (get_or file start 0) (get_or file (start + 1) 0) (take (end - (start + 2)) (drop (start + 2) file))

    pub line_opened : is_opening (get_or file start 0) (get_or file (start + 1) 0) ≡ true
        → is_some (formula_of (take (end - (start + 2)) (drop (start + 2) file))) ≡ is_some (sentence_of line_at)
    line_opened e = sym (line_said ∙ rw e)

    pub line_unopened : is_opening (get_or file start 0) (get_or file (start + 1) 0) ≡ false → false ≡ is_some (sentence_of line_at)
    line_unopened e = sym (line_said ∙ rw e)

-- Code 2, line by line.
pub code2_begin : (file : List ℕ) → code2 file ≡ code2_from (placed 0 (cut (drop 0 file)))
unfolding code2 lines_of
code2_begin file = refl

pub code2_over : (file : List ℕ) (start : ℕ) → length file ≤ start → code2_from (placed start (cut (drop start file))) ≡ passed
unfolding code2_from placed
code2_over file start h = rw (drop_of_length-le file h, cut_nil)

module _ (file : List ℕ) (start : ℕ) (inside : start < length file) where
  abbrev first_line : List ℕ
  first_line = take (suc (until_feed (drop start file))) (drop start file)

  abbrev lines_here : List Line
  lines_here = placed start (cut (drop start file))

  lines_first : lines_here
      ≡ record { start = start; text = first_line } ∷ placed (start + length first_line) (cut (drop (suc (until_feed (drop start file))) (drop start file)))
  unfolding placed
  lines_first = rw (cut_first (drop start file) (omega (arith, length-drop start file)))

  pub code2_stop : is_some (sentence_of first_line) ≡ false → code2_from lines_here ≡ refused 2 start
  unfolding code2_from is_well_formed when and_then
  code2_stop h = ap code2_from lines_first ∙ rw h

  module _ (end : ℕ) (at_end : end ≡ start + until_feed (drop start file)) (ended : end < length file) where
    -- the lines from here on are this one and those behind its line feed
    pub lines_turn : lines_here ≡ record { start = start; text = first_line } ∷ placed (end + 1) (cut (drop (end + 1) file))
    lines_turn =
        let there : start + length first_line ≡ end + 1 =
        omega (arith, length-take (suc (until_feed (drop start file))) (drop start file), length-drop start file) in
        let next : start + suc (until_feed (drop start file)) ≡ end + 1 = omega arith in
        let behind : drop (suc (until_feed (drop start file))) (drop start file) ≡ drop (end + 1) file =
        drop-drop (suc (until_feed (drop start file))) start file ∙ ap (λ j. drop j file) next in
        lines_first ∙ rw (there, behind)

    pub code2_turn : is_some (sentence_of first_line) ≡ true → code2_from lines_here ≡ code2_from (placed (end + 1) (cut (drop (end + 1) file)))
    unfolding code2_from is_well_formed when and_then
    code2_turn h = ap code2_from lines_turn ∙ rw h
