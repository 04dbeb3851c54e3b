-- A text is a formula exactly if the count of formulas that are still needed, taken from the left token by token, is none at its
-- end and not before.
-- Assumes nothing.
use Prim.Native.Nat.{ℕ, suc, ◌+◌, ◌-◌, ◌≤◌, ◌<◌}
use native.Mathlib.Nat.{add-zero}
use native.Mathlib.Numerals.{add-one}
use native.Mathlib.Decide.{dec_lt}
use native.Mathlib.Omega.{arith}
use mathlib.Core.Path.{◌≡◌, refl, sym, ◌∙◌, ap, subst}
use mathlib.Core.Logic.{⊎_elim, ◌≢◌}
use mathlib.Core.Bool.{Bool, true, false, cond}
use Rattle.std.proofs.lemmas.Bool.{and_parts, and_from, cases_Bool}
use Rattle.std.specs.Prelude.{Option, None, Some, option_and_then}
use mathlib.Core.List.{List, [], ◌∷◌, ◌++◌, append-nil, append_assoc, cons≢nil}
use lib.ListN.{length, get_or, drop, drop_of_length-le, get_or-eq_default}
use lib.Seq.{drop-cons, get_or-drop}
use lib.Dec.{eqb}
use borrow.Author.Tests.{eqb-true, eqb-false, eq-eqb, ne_eqb}
use Rattle.infon.specs.Bytes.{bytes, space, alike, every}
use Rattle.infon.specs.Formula.{Told, said, put, Formula, True, name, and, implies, quoted, is_name, letter_of, joined, tokens, join_two, quote, take_word, read_words, only_one, formula_of}
use Rattle.std.specs.Prelude.{is_some}
use Rattle.std.proofs.lemmas.Option.{same_Some, none-some}
use Rattle.infon.proofs.Rows.{alike_eq}
use Rattle.infon.proofs.Words.{lacks, tokens_word, tokens_last, tokens_joined, tokens_nonempty}
use Rattle.infon.proofs.Readable.{letter_length, name_positive, take_name, take_letter, words_read}
use Rattle.spelling.specs.declared.Parsed.{Parsed}
use Rattle.spelling.specs.declared.Parsed.TheVariants as Read
use Rattle.spelling.specs.Token.{is_break, word_at}
use Rattle.spelling.specs.Parsing.{quotation_at, parsed_at, behind_own, still_needed}
use Rattle.spelling.proofs.Breaks.{until_fits, word_at_length}
use Rattle.spelling.proofs.Tokenised.{token_lacks, token_stands, token_stops, break_cases, feed_no_formula, first_token}

-- so many formulas were read
unfoldable pub matches : ℕ → Option (List Formula) → Bool
matches n None = false
matches n (Some waiting) = eqb (length waiting) n

same_test : (a b c d : ℕ) → (a ≡ b → c ≡ d) → (c ≡ d → a ≡ b) → eqb a b ≡ eqb c d
same_test a b c d there back =
    ⊎_elim (λ e. e ∙ sym (eq-eqb c d (there (eqb-true a b e))))
    (λ e. e ∙ sym (ne_eqb c d (λ k. absurd (omega (arith, eqb-false a b e (back k))))))
    (cases_Bool (eqb a b))

one_read : (o : Option (List Formula)) → is_some (only_one o) ≡ matches 1 o
unfolding only_one matches
one_read None = refl
one_read (Some []) = refl
one_read (Some (x ∷ [])) = refl
one_read (Some (x ∷ (y ∷ waiting))) = sym (ne_eqb (suc (suc (length waiting))) 1 (omega arith))

pub formula_counted : (text : List ℕ) → is_some (formula_of text) ≡ matches 1 (read_words (tokens text))
unfolding formula_of
formula_counted text = one_read (read_words (tokens text))

-- What a token does to the count: a formula of its own, an operator, a quotation with its principal.
abbrev Effect : List (List ℕ) → ℕ → ℕ → Type 0
Effect own needed left = (ws : List (List ℕ)) → matches needed (read_words (own ++ ws)) ≡ matches left (read_words ws)

module _ (n : ℕ) (some-needed : 0 < n) where
  leaf_takes : (word : List ℕ) (x : Formula) → ((waiting : List Formula) → take_word word waiting ≡ Some (x ∷ waiting))
      → (o : Option (List Formula)) → matches n (option_and_then (take_word word) o) ≡ matches (n - 1) o
  unfolding matches
  leaf_takes word x takes None = refl
  leaf_takes word x takes (Some waiting) =
      rw (takes waiting) (same_test (suc (length waiting)) n (length waiting) (n - 1) (λ e. omega arith) (λ e. omega arith))

  leaf_effect : (word : List ℕ) (x : Formula) → ((waiting : List Formula) → take_word word waiting ≡ Some (x ∷ waiting)) → Effect (word ∷ []) n (n - 1)
  unfolding read_words
  leaf_effect word x takes ws = leaf_takes word x takes (read_words ws)

  two_takes : (word : List ℕ) (operator : Formula → Formula → Formula) → ((waiting : List Formula) → take_word word waiting ≡ join_two operator waiting)
      → (o : Option (List Formula)) → matches n (option_and_then (take_word word) o) ≡ matches (n + 1) o
  unfolding matches join_two
  two_takes word operator takes None = refl
  two_takes word operator takes (Some []) = rw (takes []) (sym (ne_eqb 0 (n + 1) (omega arith)))
  two_takes word operator takes (Some (x ∷ [])) = rw (takes (x ∷ [])) (sym (ne_eqb 1 (n + 1) (omega arith)))
  two_takes word operator takes (Some (x ∷ (y ∷ waiting))) =
      rw (takes (x ∷ (y ∷ waiting)))
      (same_test (suc (length waiting)) n (suc (suc (length waiting))) (n + 1) (λ e. omega arith) (λ e. omega arith))

  two_effect : (word : List ℕ) (operator : Formula → Formula → Formula) → ((waiting : List Formula) → take_word word waiting ≡ join_two operator waiting)
      → Effect (word ∷ []) n (n + 1)
  unfolding read_words
  two_effect word operator takes ws = two_takes word operator takes (read_words ws)

  quote_takes : (told : Told) (a : List ℕ) → is_name a ≡ true
      → (o : Option (List Formula)) → matches n (option_and_then (take_word (letter_of told)) (option_and_then (take_word a) o)) ≡ matches n o
  unfolding matches quote
  quote_takes told a named None = refl
  quote_takes told a named (Some []) = rw (take_name a [] named, take_letter told (name a ∷ [])) (sym (ne_eqb 0 n (omega arith)))
  quote_takes told a named (Some (x ∷ waiting)) = rw (take_name a (x ∷ waiting) named, take_letter told (name a ∷ (x ∷ waiting)))

  quote_effect : (told : Told) (a : List ℕ) → is_name a ≡ true → Effect (letter_of told ∷ (a ∷ [])) n n
  unfolding read_words
  quote_effect told a named ws = quote_takes told a named (read_words ws)

-- Where no formula begins, none is read.
bad_takes : (word : List ℕ) → ((waiting : List Formula) → take_word word waiting ≡ None) → (n : ℕ) (o : Option (List Formula))
    → matches n (option_and_then (take_word word) o) ≡ false
unfolding matches
bad_takes word takes n None = refl
bad_takes word takes n (Some waiting) = rw (takes waiting)

bad_word : (word : List ℕ) → ((waiting : List Formula) → take_word word waiting ≡ None) → (n : ℕ) (ws : List (List ℕ))
    → matches n (read_words (word ∷ ws)) ≡ false
unfolding read_words
bad_word word takes n ws = bad_takes word takes n (read_words ws)

bare_letter : (told : Told) (n : ℕ) → matches n (read_words (letter_of told ∷ [])) ≡ false
unfolding read_words matches quote
bare_letter told n = rw (take_letter told [])

none_either : (f : Option (List Formula) → Option (List Formula)) (t : Bool) {x y : Option (List Formula)} → f x ≡ None → f y ≡ None → f (cond t x y) ≡ None
none_either f true h k = h
none_either f false h k = k

-- a quotation's letter takes nothing but a name's word
module _ (told : Told) where
  no_two : (operator : Formula → Formula → Formula) → ((x y : Formula) (waiting : List Formula) → quote told (operator x y ∷ waiting) ≡ None)
      → (waiting : List Formula) → option_and_then (take_word (letter_of told)) (join_two operator waiting) ≡ None
  unfolding join_two
  no_two operator refuses [] = refl
  no_two operator refuses (x ∷ []) = refl
  no_two operator refuses (x ∷ (y ∷ waiting)) = take_letter told (operator x y ∷ waiting) ∙ refuses x y waiting

  no_quoted : (other : Told) (waiting : List Formula) → option_and_then (take_word (letter_of told)) (quote other waiting) ≡ None
  unfolding quote
  no_quoted other [] = refl
  no_quoted other (name a ∷ []) = refl
  no_quoted other (name a ∷ (x ∷ waiting)) = take_letter told _
  no_quoted other (True ∷ waiting) = refl
  no_quoted other (and x y ∷ waiting) = refl
  no_quoted other (implies x y ∷ waiting) = refl
  no_quoted other (quoted q x ∷ waiting) = refl

  no_name : (a : List ℕ) → is_name a ≡ false → (o : Option (List Formula)) → option_and_then (take_word (letter_of told)) (option_and_then (take_word a) o) ≡ None
  unfolding take_word quote
  no_name a h None = refl
  no_name a h (Some waiting) =
      let f = option_and_then (take_word (letter_of told)) in
      none_either f (alike a (bytes "T")) (take_letter told (True ∷ waiting))
      (none_either f (alike a (bytes "+")) (no_two and (λ x y w. refl) waiting)
      (none_either f (alike a (bytes ">")) (no_two implies (λ x y w. refl) waiting)
      (none_either f (alike a (bytes "S")) (no_quoted said waiting)
      (none_either f (alike a (bytes "P")) (no_quoted put waiting) (rw h)))))

  bad_principal : (a : List ℕ) → is_name a ≡ false → (n : ℕ) (ws : List (List ℕ)) → matches n (read_words (letter_of told ∷ (a ∷ ws))) ≡ false
  unfolding read_words matches
  bad_principal a h n ws = rw (no_name a h (read_words ws))

-- every word that is read leaves a formula
none_left : (row : List (List ℕ)) (o : Option (List Formula)) → read_words row ≡ o → row ≢ [] → matches 0 o ≡ false
unfolding matches
none_left row None e nonempty = refl
none_left row (Some []) e nonempty = absurd (nonempty (sym (words_read row [] e).0))
none_left row (Some (x ∷ waiting)) e nonempty = ne_eqb (suc (length waiting)) 0 (omega arith)

pub too_early : (n : ℕ) (s : List ℕ) → n ≡ 0 → matches n (read_words (tokens s)) ≡ false
too_early n s e = ap (λ k. matches k (read_words (tokens s))) e ∙ none_left (tokens s) (read_words (tokens s)) refl (tokens_nonempty s)

abbrev pub is_said : Told → Bool
is_said said = true
is_said put = false

-- The token and the tests that make a node of it.
data Parses (text : List ℕ) (at : ℕ) : Option Parsed → Type 0 where
  is_true : word_at text at ≡ bytes "T" → Parses text at (Some Read.True)
  is_name_lem : is_name (word_at text at) ≡ true → Parses text at (Some (Read.Name (at + length (word_at text at))))
  is_and : word_at text at ≡ bytes "+" → Parses text at (Some Read.And)
  is_implies : word_at text at ≡ bytes ">" → Parses text at (Some Read.Implies)
  is_quoted : (told : Told) → word_at text at ≡ letter_of told → get_or text (at + 1) 0 ≡ space → is_name (word_at text (at + 1 + 1)) ≡ true
      → Parses text at (Some (Read.Quoted (is_said told) (at + 1 + 1) (at + 1 + 1 + length (word_at text (at + 1 + 1)))))
  no_space : (told : Told) → word_at text at ≡ letter_of told → (get_or text (at + 1) 0 ≡ space → ⊥) → Parses text at None
  no_principal : (told : Told) → word_at text at ≡ letter_of told → get_or text (at + 1) 0 ≡ space → is_name (word_at text (at + 1 + 1)) ≡ false
      → Parses text at None
  no_word : ((waiting : List Formula) → take_word (word_at text at) waiting ≡ None) → Parses text at None

pick : (P : Option Parsed → Type 0) (t : Bool) {x y : Option Parsed} → (t ≡ true → P x) → (t ≡ false → P y) → P (cond t x y)
pick P true first second = first refl
pick P false first second = second refl

module _ (text : List ℕ) (at : ℕ) where
  quotes : (told : Told) → word_at text at ≡ letter_of told → Parses text at (quotation_at (is_said told) text (at + 1))
  unfolding quotation_at
  quotes told e =
      pick (Parses text at) (eqb (get_or text (at + 1) 0) space)
      (λ gap.
      let here = eqb-true (get_or text (at + 1) 0) space gap in
      pick (Parses text at) (is_name (word_at text (at + 1 + 1))) (is_quoted told e here) (no_principal told e here))
      (λ gap. no_space told e (eqb-false (get_or text (at + 1) 0) space gap))

  parses : Parses text at (parsed_at text at)
  unfolding parsed_at letter_of take_word
  parses =
      let w = word_at text at in
      pick (Parses text at) (alike w (bytes "T")) (λ e. is_true (alike_eq w (bytes "T") e))
      λ a. pick (Parses text at) (alike w (bytes "+")) (λ e. is_and (alike_eq w (bytes "+") e))
      λ b. pick (Parses text at) (alike w (bytes ">")) (λ e. is_implies (alike_eq w (bytes ">") e))
      λ c. pick (Parses text at) (alike w (bytes "S")) (λ e. quotes said (alike_eq w (bytes "S") e))
      λ d. pick (Parses text at) (alike w (bytes "P")) (λ e. quotes put (alike_eq w (bytes "P") e))
      λ f. pick (Parses text at) (is_name w) is_name_lem (λ g. no_word (λ waiting. rw (a, b, c, d, f, g)))

-- One node was taken: its own words stand from one place to the next, at a break or the text's end, and the count went on.
pub record Taken (text : List ℕ) (at needed end left : ℕ) : Type 0 where
  pub own : List (List ℕ)
  pub some_own : own ≢ []
  pub spaceless : every (lacks space) own ≡ true
  pub stands : drop at text ≡ joined own ++ drop end text
  pub stops : (b : ℕ) (rest : List ℕ) → drop end text ≡ b ∷ rest → is_break b ≡ true
  pub forward : at < end
  pub within : end ≤ length text
  pub few : left ≤ needed + 1
  pub effect : Effect own needed left

-- the tokens of own words and what stands behind a space
tokens_more : (own : List (List ℕ)) (rest : List ℕ) → own ≢ [] → every (lacks space) own ≡ true
    → tokens (joined own ++ (space ∷ rest)) ≡ own ++ tokens rest
unfolding joined every
tokens_more [] rest nonempty h = absurd (nonempty refl)
tokens_more (word ∷ []) rest nonempty h = tokens_word word rest (and_parts (lacks space word) true h).0
tokens_more (word ∷ (next ∷ own)) rest nonempty h =
    let both = and_parts (lacks space word) (every (lacks space) (next ∷ own)) h in
    rw (append_assoc word (space ∷ joined (next ∷ own)) (space ∷ rest))
    (tokens_word word (joined (next ∷ own) ++ (space ∷ rest)) both.0 ∙ ap (λ ws. word ∷ ws) (tokens_more (next ∷ own) rest cons≢nil both.1))

module _ (text : List ℕ) (at needed end left : ℕ) (t : Taken text at needed end left) where
  pub taken_end : end ≡ length text → matches needed (read_words (tokens (drop at text))) ≡ eqb left 0
  unfolding read_words matches
  taken_end e =
      let none_behind : drop end text ≡ [] = drop_of_length-le text {i = end} (omega arith) in
      let all : tokens (drop at text) ≡ t.own ++ [] =
      ap tokens (t.stands ∙ ap (λ r. joined t.own ++ r) none_behind ∙ append-nil (joined t.own))
      ∙ tokens_joined t.own t.some_own t.spaceless ∙ sym (append-nil t.own) in
      ap (λ ws. matches needed (read_words ws)) all ∙ t.effect [] ∙ same_test 0 left left 0 (λ e. sym e) (λ e. sym e)

  pub taken_on : end < length text → get_or text end 0 ≡ 32
      → matches needed (read_words (tokens (drop at text))) ≡ matches left (read_words (tokens (drop (end + 1) text)))
  unfolding space
  taken_on h e =
      let behind : drop end text ≡ space ∷ drop (end + 1) text = drop-cons text end 0 h ∙ rw (e, add-one end) in
      ap (λ ws. matches needed (read_words ws))
      (ap tokens (t.stands ∙ ap (λ r. joined t.own ++ r) behind) ∙ tokens_more t.own (drop (end + 1) text) t.some_own t.spaceless)
      ∙ t.effect (tokens (drop (end + 1) text))

  pub taken_feed : end < length text → (get_or text end 0 ≡ 32 → ⊥) → is_some (formula_of text) ≡ false
  unfolding space
  taken_feed h apart =
      let behind = drop-cons text end 0 h in
      ⊎_elim (λ e. absurd (apart e)) (λ e. feed_no_formula text end (drop (suc end) text) (behind ∙ ap (λ b. b ∷ drop (suc end) text) e))
      (break_cases (get_or text end 0) (t.stops (get_or text end 0) (drop (suc end) text) behind))

-- What the parsed node says is taken.
module _ (text : List ℕ) (at needed : ℕ) (fits : at ≤ length text) (some-needed : 0 < needed) where
  word_taken : (end left : ℕ) → end ≡ at + length (word_at text at) → 0 < length (word_at text at) → left ≤ needed + 1
      → Effect (word_at text at ∷ []) needed left → Taken text at needed end left
  unfolding joined every
  word_taken end left e long few effect =
      record {
        own = word_at text at ∷ [];
        some_own = cons≢nil;
        spaceless = and_from _ _ (token_lacks text at) refl;
        stands = rw e (token_stands text at);
        stops = rw e (token_stops text at);
        forward = omega arith;
        within = omega (arith, until_fits is_break text at fits, word_at_length text at);
        few = few;
        effect = effect;
      }

  letter_taken : (letters : List ℕ) (left : ℕ) → length letters ≡ 1 → word_at text at ≡ letters → left ≤ needed + 1
      → Effect (letters ∷ []) needed left → Taken text at needed (at + 1) left
  letter_taken letters left one e few effect =
      word_taken (at + 1) left (omega (arith, ap length e)) (omega (arith, ap length e)) few (subst (λ w. Effect (w ∷ []) needed left) (sym e) effect)

  -- a quotation's letter, the space and the principal
  module _ (told : Told) (e : word_at text at ≡ letter_of told) (gap : get_or text (at + 1) 0 ≡ space) where
    gap_within : at + 1 < length text
    unfolding space
    gap_within = by_place (dec_lt (at + 1) (length text))
      where
        by_place : Dec (at + 1 < length text) → at + 1 < length text
        by_place (yes h) = h
        by_place (no h) = absurd (omega (arith, get_or-eq_default text 0 {n = at + 1} (omega arith)))

    letter_stands : drop at text ≡ letter_of told ++ (space ∷ drop (at + 1 + 1) text)
    letter_stands =
        token_stands text at
        ∙ rw (e, letter_length told, drop-cons text (at + 1) 0 gap_within, gap, add-one (at + 1))

    quoted_taken : is_name (word_at text (at + 1 + 1)) ≡ true → Taken text at needed (at + 1 + 1 + length (word_at text (at + 1 + 1))) needed
    unfolding joined every
    quoted_taken named =
        let principal = word_at text (at + 1 + 1) in
        record {
          own = letter_of told ∷ (principal ∷ []);
          some_own = cons≢nil;
          spaceless = and_from _ _ (subst (λ w. lacks space w ≡ true) e (token_lacks text at)) (and_from _ _ (token_lacks text (at + 1 + 1)) refl);
          stands =
              letter_stands ∙ ap (λ r. letter_of told ++ (space ∷ r)) (token_stands text (at + 1 + 1))
              ∙ sym (append_assoc (letter_of told) (space ∷ principal) (drop (at + 1 + 1 + length principal) text));
          stops = token_stops text (at + 1 + 1);
          forward = omega arith;
          within = omega (arith, until_fits is_break text (at + 1 + 1) (omega (arith, gap_within)), word_at_length text (at + 1 + 1));
          few = omega arith;
          effect = quote_effect needed some-needed told principal named;
        }

  goes_behind : (p q : Parsed) → Some p ≡ Some q → Taken text at needed (behind_own at p) (still_needed p needed)
      → Taken text at needed (behind_own at q) (still_needed q needed)
  goes_behind p q h = subst (λ (r : Parsed). Taken text at needed (behind_own at r) (still_needed r needed)) (same_Some p q h)

  taken_by : (o : Option Parsed) (p : Parsed) → Parses text at o → o ≡ Some p → Taken text at needed (behind_own at p) (still_needed p needed)
  unfolding bytes take_word alike
  taken_by o p (is_true e) h =
      goes_behind _ p h
      (letter_taken (bytes "T") (needed - 1) refl e (omega arith) (leaf_effect needed some-needed (bytes "T") True (λ waiting. refl)))
  taken_by o p (is_name_lem named) h =
      goes_behind _ p h
      (word_taken (at + length (word_at text at)) (needed - 1) refl (name_positive (word_at text at) named) (omega arith)
      (leaf_effect needed some-needed (word_at text at) (name (word_at text at)) (λ waiting. take_name (word_at text at) waiting named)))
  taken_by o p (is_and e) h =
      goes_behind _ p h
      (letter_taken (bytes "+") (needed + 1) refl e (omega arith) (two_effect needed some-needed (bytes "+") and (λ waiting. refl)))
  taken_by o p (is_implies e) h =
      goes_behind _ p h
      (letter_taken (bytes ">") (needed + 1) refl e (omega arith) (two_effect needed some-needed (bytes ">") implies (λ waiting. refl)))
  taken_by o p (is_quoted told e gap named) h =
      goes_behind _ p h
      (quoted_taken told e gap named)
  taken_by o p (no_space told e gap) h = absurd (none-some p h)
  taken_by o p (no_principal told e gap named) h = absurd (none-some p h)
  taken_by o p (no_word takes) h = absurd (none-some p h)

  pub node_taken : (o : Option Parsed) (p : Parsed) (end left : ℕ) → o ≡ parsed_at text at → o ≡ Some p → end ≡ behind_own at p
      → left ≡ still_needed p needed → Taken text at needed end left
  node_taken o p end left parsed h there e =
      rw (there, e) (taken_by (parsed_at text at) p (parses text at) (sym parsed ∙ h))

  -- Where the reader is stuck, the text is no formula.
  module _ (count : is_some (formula_of text) ≡ matches needed (read_words (tokens (drop at text)))) where
    stuck_wordless : ((waiting : List Formula) → take_word (word_at text at) waiting ≡ None) → is_some (formula_of text) ≡ false
    stuck_wordless takes =
        ⊎_elim
        (λ found. count ∙ ap (λ ws. matches needed (read_words ws)) found.1 ∙ bad_word (word_at text at) takes needed found.0)
        (λ no-formula. no-formula)
        (first_token text at)

    letter_lacks_space : (told : Told) → word_at text at ≡ letter_of told → lacks space (letter_of told) ≡ true
    letter_lacks_space told e = subst (λ w. lacks space w ≡ true) e (token_lacks text at)

    stuck_spaceless : (told : Told) → word_at text at ≡ letter_of told → (get_or text (at + 1) 0 ≡ space → ⊥) → is_some (formula_of text) ≡ false
    stuck_spaceless told e apart = by_rest (drop (at + 1) text) refl
      where
        behind : drop at text ≡ letter_of told ++ drop (at + 1) text
        behind = token_stands text at ∙ rw (e, letter_length told)

        stops : (b : ℕ) (rest : List ℕ) → drop (at + 1) text ≡ b ∷ rest → is_break b ≡ true
        stops b rest h = token_stops text at b rest (rw (e, letter_length told) h)

        by_rest : (rest : List ℕ) → drop (at + 1) text ≡ rest → is_some (formula_of text) ≡ false
        by_rest [] h =
            count
            ∙ ap (λ s. matches needed (read_words (tokens s))) (behind ∙ ap (λ r. letter_of told ++ r) h ∙ append-nil (letter_of told))
            ∙ ap (λ ws. matches needed (read_words ws)) (tokens_last (letter_of told) (letter_lacks_space told e))
            ∙ bare_letter told needed
        by_rest (b ∷ rest) h =
            let here : get_or text (at + 1) 0 ≡ b = ap (λ j. get_or text j 0) (sym (add-zero (at + 1))) ∙ sym (get_or-drop (at + 1) text 0 0) ∙ ap (λ s. get_or s 0 0) h in
            ⊎_elim (λ gap. absurd (apart (here ∙ gap))) (λ feed. feed_no_formula text (at + 1) rest (h ∙ ap (λ c. c ∷ rest) feed))
            (break_cases b (stops b rest h))

    stuck_nameless : (told : Told) → word_at text at ≡ letter_of told → get_or text (at + 1) 0 ≡ space → is_name (word_at text (at + 1 + 1)) ≡ false
        → is_some (formula_of text) ≡ false
    stuck_nameless told e gap unnamed =
        let two : tokens (drop at text) ≡ letter_of told ∷ tokens (drop (at + 1 + 1) text) =
        ap tokens (letter_stands told e gap) ∙ tokens_word (letter_of told) (drop (at + 1 + 1) text) (letter_lacks_space told e) in
        ⊎_elim
        (λ found.
        count ∙ ap (λ ws. matches needed (read_words ws)) (two ∙ ap (λ ws. letter_of told ∷ ws) found.1)
        ∙ bad_principal told (word_at text (at + 1 + 1)) unnamed needed found.0)
        (λ no-formula. no-formula)
        (first_token text (at + 1 + 1))

    stuck_by : (o : Option Parsed) → Parses text at o → o ≡ None → is_some (formula_of text) ≡ false
    stuck_by o (is_true e) h = absurd (none-some _ (sym h))
    stuck_by o (is_name_lem named) h = absurd (none-some _ (sym h))
    stuck_by o (is_and e) h = absurd (none-some _ (sym h))
    stuck_by o (is_implies e) h = absurd (none-some _ (sym h))
    stuck_by o (is_quoted told e gap named) h = absurd (none-some _ (sym h))
    stuck_by o (no_space told e gap) h = stuck_spaceless told e gap
    stuck_by o (no_principal told e gap unnamed) h = stuck_nameless told e gap unnamed
    stuck_by o (no_word takes) h = stuck_wordless takes

    pub node_stuck : (o : Option Parsed) → o ≡ parsed_at text at → o ≡ None → is_some (formula_of text) ≡ false
    node_stuck o parsed h = stuck_by (parsed_at text at) (parses text at) (sym parsed ∙ h)
