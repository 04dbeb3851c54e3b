-- The queries of a file, line by line: a line's query comes before those of the lines behind it, and the part of the file behind its
-- letter is a space and the query's spelling.
-- Assumes nothing.
use Prim.Native.Nat.{ℕ, suc, ◌+◌, ◌-◌, ◌<◌}
use native.Mathlib.Omega.{arith}
use mathlib.Core.Path.{◌≡◌, refl, sym, ◌∙◌, ap}
use mathlib.Core.Bool.{true, false, false≢true}
use mathlib.Core.Logic.{⊎_elim}
use Rattle.std.proofs.lemmas.Bool.{cases_Bool}
use Rattle.std.specs.Prelude.{Option, None, Some}
use mathlib.Core.List.{List, [], ◌∷◌, ◌++◌}
use lib.ListN.{length, get_or, take, drop, length-append, length-drop}
use lib.Seq.{drop-cons, take_at, take-take, length-take-le}
use Rattle.infon.specs.Bytes.{bytes, space, line_feed}
use Rattle.infon.specs.Formula.{Formula, spelling}
use Rattle.infon.specs.Codes.{passed, refused}
use Rattle.infon.specs.Policy.{cut, placed, Sentence, hypothesis, query, sentence_of, with_entry, entries_from, formula_in, queries_of, code2_from}
use Rattle.std.specs.Prelude.{is_some}
use Rattle.infon.proofs.Lines.{opening, line_read}
use Rattle.lines.specs.Lining.{until_feed}
use Rattle.lines.proofs.Feeds.{line_ended, lines_turn, code2_stop, code2_turn}
use Rattle.printing.specs.Turned.{letter_of_queries}

-- the queries of the lines from a place on
abbrev pub queries_from : List ℕ → ℕ → List Formula
queries_from file start = queries_of (entries_from (placed start (cut (drop start file))))

-- the lines from a place on are well formed
abbrev pub GoodFrom : List ℕ → ℕ → Type 0
GoodFrom file start = code2_from (placed start (cut (drop start file))) ≡ passed

-- what the line between two places says, told from its bytes
pub data Said (file : List ℕ) (start end : ℕ) : Type 0 where
  asks : (x : Formula) → get_or file start 0 ≡ letter_of_queries → queries_from file start ≡ x ∷ queries_from file (end + 1)
      → take (end - (start + 1)) (drop (start + 1) file) ≡ space ∷ spelling x → Said file start end
  assumes : (get_or file start 0 ≡ letter_of_queries → ⊥) → queries_from file start ≡ queries_from file (end + 1) → Said file start end

not_refused : (code place : ℕ) → refused code place ≡ passed → ⊥
not_refused code place e = let z : ◌≡◌ {A = ℕ} 0 1 = cc in omega arith

heads : {a b : ℕ} {s t : List ℕ} → a ∷ s ≡ b ∷ t → a ≡ b
heads e = ap (λ (l : List ℕ). get_or l 0 0) e

tails : {a b : ℕ} {s t : List ℕ} → a ∷ s ≡ b ∷ t → s ≡ t
tails e = ap (drop 1) e

module _ (file : List ℕ) (start : ℕ) (inside : start < length file) (end : ℕ) (at_end : end ≡ start + until_feed (drop start file))
    (good : GoodFrom file start) where
  abbrev first_line : List ℕ
  first_line = take (suc (until_feed (drop start file))) (drop start file)

  is_said_lem : is_some (sentence_of first_line) ≡ true
  is_said_lem =
      ⊎_elim (λ (e : is_some (sentence_of first_line) ≡ true). e)
      (λ (e : is_some (sentence_of first_line) ≡ false). absurd (not_refused 2 start (sym (code2_stop file start inside e) ∙ good)))
      (cases_Bool (is_some (sentence_of first_line)))

  pub line_ends : end < length file
  line_ends = line_ended file start end inside at_end is_said_lem

  pub good_behind : GoodFrom file (end + 1)
  good_behind = sym (code2_turn file start inside end at_end line_ends is_said_lem) ∙ good

  -- the letter, and what stands behind it up to the line feed
  line_bytes : (s : Sentence) → sentence_of first_line ≡ Some s
      → get_or file start 0 ∷ take (until_feed (drop start file)) (drop (start + 1) file) ≡ opening s ++ (spelling (formula_in s) ++ (line_feed ∷ []))
  line_bytes s e =
      let next : suc start ≡ start + 1 = omega arith in
      ap (λ (j : ℕ). get_or file start 0 ∷ take (until_feed (drop start file)) (drop j file)) (sym next)
      ∙ (sym (ap (take (suc (until_feed (drop start file)))) (drop-cons file start 0 inside)) ∙ (line_read first_line s e).0)

  part_length : length (take (until_feed (drop start file)) (drop (start + 1) file)) ≡ end - start
  part_length =
      let fits = line_ends in
      length-take-le (until_feed (drop start file)) (drop (start + 1) file) (omega (arith, length-drop (start + 1) file)) ∙ omega arith

  queries_turn : (s : Sentence) → sentence_of first_line ≡ Some s
      → queries_from file start ≡ queries_of (record { start = start; sentence = s } ∷ entries_from (placed (end + 1) (cut (drop (end + 1) file))))
  unfolding entries_from with_entry
  queries_turn s e = ap (λ l. queries_of (entries_from l)) (lines_turn file start inside end at_end line_ends) ∙ rw e

  told : (o : Option Sentence) → sentence_of first_line ≡ o → is_some o ≡ true → (start < end) × Said file start end
  unfolding queries_of bytes formula_in letter_of_queries space
  told None e some-there = absurd (false≢true some-there)
  told (Some (hypothesis x)) e some-there =
      let line = line_bytes (hypothesis x) e in
      let letter : get_or file start 0 ≡ 72 = heads line in
      let long = ap length (tails line) in (
        omega (arith, part_length, long),
        assumes (λ q. omega arith) (queries_turn (hypothesis x) e),
      )
  told (Some (query x)) e some-there =
      let line = line_bytes (query x) e in
      let rest : take (until_feed (drop start file)) (drop (start + 1) file) ≡ (32 ∷ spelling x) ++ (line_feed ∷ []) = tails line in
      let long : end - start ≡ suc (suc (length (spelling x))) = sym part_length ∙ (ap length rest ∙ simp length-append (omega arith)) in (
        omega arith,
        asks x (heads line) (queries_turn (query x) e)
            (sym (take-take (end - (start + 1)) (until_feed (drop start file)) (drop (start + 1) file) (omega arith))
            ∙ (ap (take (end - (start + 1))) rest ∙ take_at (32 ∷ spelling x) (line_feed ∷ []) (end - (start + 1)) (omega arith))),
      )

  pub line_wide : start < end
  line_wide = (told (sentence_of first_line) refl is_said_lem).0

  pub line_says : Said file start end
  line_says = (told (sentence_of first_line) refl is_said_lem).1
