-- The loop that prints answers, after so many lines of the file: what is put so far and the text of the rest are the whole text.
-- Assumes nothing.
use Prim.Native.Nat.{ℕ, ◌+◌, ◌-◌, ◌*◌, ◌≤◌, ◌<◌}
use native.Mathlib.Numerals.{add-one}
use native.Mathlib.Omega.{arith}
use mathlib.Core.Path.{◌≡◌, refl, sym, ◌∙◌, ap}
use mathlib.Core.Bool.{Bool, true, false}
use mathlib.Core.List.{List, [], ◌∷◌, ◌++◌, append_assoc, append-nil, map}
use lib.ListN.{length, get_or, take, drop, length-append, length-take, drop_of_length-le}
use lib.Seq.{drop-cons}
use borrow.Author.Tests.{eq-eqb, ne_eqb}
use Rattle.infon.specs.Bytes.{space}
use Rattle.infon.specs.Formula.{Formula, spelling}
use Rattle.infon.specs.Codes.{passed}
use Rattle.infon.specs.Policy.{cut, placed, lines_of, entries_from, entries_of, queries_of, code2}
use Rattle.lines.specs.Lining.{until_feed}
use Rattle.lines.proofs.Feeds.{code2_begin}
use Rattle.writing.specs.Placed.{Put, Prints}
use Rattle.writing.specs.Texts.{line_of}
use Rattle.writing.proofs.Placing.{put_length, put_on, put_nothing, put_prints}
use Rattle.writing.proofs.Lines.{length_line}
use Rattle.printing.specs.declared.Progress.{Progress}
use Rattle.printing.specs.Printed.{behind_of, printed_from, printed_answers}
use Rattle.printing.specs.Turned.{behind_from, query_line, letter_of_queries, Turned}
use Rattle.printing.proofs.Asking.{queries_from, GoodFrom, Said, asks, assumes, line_ends, good_behind, line_wide, line_says}

-- the text of the answers from a count on, to the queries of the lines from a place on
abbrev text_from : List ℕ → Bool → List ℕ → ℕ → ℕ → List ℕ
text_from file asked answers count start = printed_from (count + 1) (drop count answers) (map (behind_of asked) (queries_from file start))

abbrev whole_text : List ℕ → Bool → List ℕ → List ℕ
whole_text file asked answers = printed_answers asked (queries_of (entries_of file)) answers

pub record Going (file : List ℕ) (asked : Bool) (answers b₀ b₁ : List ℕ) (at count start : ℕ) : Type 0 where
  pub inside : start ≤ length file
  pub few : count ≤ length answers
  pub good : GoodFrom file start
  pub text : List ℕ
  pub puts : Put text 0 b₀ at b₁
  pub short : length text ≤ 32 * count + start
  pub whole : text ++ text_from file asked answers count start ≡ whole_text file asked answers

pub begin : (file : List ℕ) (asked : Bool) (answers b : List ℕ) → code2 file ≡ passed → Going file asked answers b b 0 0 0
unfolding printed_answers entries_of lines_of
begin file asked answers b lines =
    record {
      inside = omega arith;
      few = omega arith;
      good = sym (code2_begin file) ∙ lines;
      text = [];
      puts = put_nothing 0 b;
      short = omega arith;
      whole = refl;
    }

-- no line is left, or no answer
no_query : (count : ℕ) (answers : List ℕ) → printed_from count answers [] ≡ []
unfolding printed_from
no_query count [] = refl
no_query count (a ∷ answers) = refl

no_line : (file : List ℕ) (start : ℕ) → length file ≤ start → queries_from file start ≡ []
unfolding queries_of entries_from placed cut
no_line file start h = rw (drop_of_length-le file h)

-- a query's line has at most 32 bytes more than its part of the file
length_query_line : (file : List ℕ) (start end : ℕ) (asked : Bool) (answers : List ℕ) (count : ℕ) → start < end
    → length (query_line file start end asked answers count) ≤ 32 + (end - (start + 1))
unfolding query_line behind_from
length_query_line file start end true answers count h =
    omega (arith, length_line (count + 1) (get_or answers count 0) (take (end - (start + 1)) (drop (start + 1) file)), length-take (end - (start + 1)) (drop (start + 1) file))
length_query_line file start end false answers count h =
    omega (arith, length_line (count + 1) (get_or answers count 0) (take (end - end) (drop end file)), length-take (end - end) (drop end file))

-- what stands behind the answer to a query
query_line_lem : (file : List ℕ) (start end : ℕ) (asked : Bool) (answers : List ℕ) (count : ℕ) (x : Formula)
    → take (end - (start + 1)) (drop (start + 1) file) ≡ space ∷ spelling x
    → query_line file start end asked answers count ≡ line_of (count + 1) (get_or answers count 0) (behind_of asked x)
unfolding query_line behind_from behind_of
query_line_lem file start end true answers count x part = ap (line_of (count + 1) (get_or answers count 0)) part
query_line_lem file start end false answers count x part =
    let none_left : end - end ≡ 0 = omega arith in
    ap (λ (k : ℕ). line_of (count + 1) (get_or answers count 0) (take k (drop end file))) none_left

module _ (file : List ℕ) (asked : Bool) (answers b₀ b₁ : List ℕ) (at count start : ℕ) (g : Going file asked answers b₀ b₁ at count start)
    (room : 32 * length answers + length file ≤ length b₀) where
  pub same_room : length b₁ ≡ length b₀
  same_room = put_length g.puts (omega (arith, g.short, g.few, g.inside))

  all_put_lem : text_from file asked answers count start ≡ [] → Prints (whole_text file asked answers) b₀ at b₁
  all_put_lem e =
      rw (sym g.whole ∙ (ap (λ (l : List ℕ). g.text ++ l) e ∙ append-nil g.text))
      (put_prints g.puts (omega (arith, g.short, g.few, g.inside)))

  pub over_lines : length file ≤ start → Prints (whole_text file asked answers) b₀ at b₁
  over_lines h = all_put_lem (ap (λ (l : List Formula). printed_from (count + 1) (drop count answers) (map (behind_of asked) l)) (no_line file start h) ∙ no_query (count + 1) (drop count answers))

  pub over_answers : length answers ≤ count → Prints (whole_text file asked answers) b₀ at b₁
  unfolding printed_from
  over_answers h = all_put_lem (rw (drop_of_length-le answers h))

  module _ (inside : start < length file) (left : count < length answers) (end : ℕ) (at_end : end ≡ start + until_feed (drop start file)) where
    pub turn_places : (start < end) × (end < length file)
    turn_places = (line_wide file start inside end at_end g.good, line_ends file start inside end at_end g.good)

    pub turn_room : at + 32 + (end - start) ≤ length b₁
    turn_room = omega (arith, g.short, g.puts.ends, same_room, turn_places.0, turn_places.1)

    -- this line asks: its line is put behind the text
    asked_here : (x : Formula) → queries_from file start ≡ x ∷ queries_from file (end + 1) → take (end - (start + 1)) (drop (start + 1) file) ≡ space ∷ spelling x
        → text_from file asked answers count start ≡ query_line file start end asked answers count ++ text_from file asked answers (count + 1) (end + 1)
    unfolding printed_from
    asked_here x queries part =
        rw (queries, drop-cons answers count 0 left, query_line_lem file start end asked answers count x part, add-one count)

    asked_turn : (x : Formula) → queries_from file start ≡ x ∷ queries_from file (end + 1) → take (end - (start + 1)) (drop (start + 1) file) ≡ space ∷ spelling x
        → (r : ℕ) (b₂ : List ℕ) → Put (query_line file start end asked answers count) at b₁ r b₂ → Going file asked answers b₀ b₂ r (count + 1) (end + 1)
    asked_turn x queries part r b₂ p =
        let line = query_line file start end asked answers count in
        record {
          inside = omega (arith, turn_places.1);
          few = omega arith;
          good = good_behind file start inside end at_end g.good;
          text = g.text ++ line;
          puts = put_on g.puts p (omega (arith, g.short, g.few, g.inside));
          short = rw length-append (omega (arith, g.short, length_query_line file start end asked answers count turn_places.0, turn_places.0));
          whole =
              append_assoc g.text line (text_from file asked answers (count + 1) (end + 1))
              ∙ (ap (λ (l : List ℕ). g.text ++ l) (sym (asked_here x queries part)) ∙ g.whole);
        }

    -- it does not: nothing is put
    passed_turn : queries_from file start ≡ queries_from file (end + 1) → (r : ℕ) (b₂ : List ℕ) → Put [] at b₁ r b₂
        → Going file asked answers b₀ b₂ r count (end + 1)
    passed_turn queries r b₂ p =
        record {
          inside = omega (arith, turn_places.1);
          few = g.few;
          good = good_behind file start inside end at_end g.good;
          text = g.text ++ [];
          puts = put_on g.puts p (omega (arith, g.short, g.few, g.inside));
          short = rw append-nil (omega (arith, g.short, turn_places.0));
          whole =
              ap (λ (l : List ℕ). l ++ text_from file asked answers count (end + 1)) (append-nil g.text)
              ∙ (ap (λ (l : List Formula). g.text ++ printed_from (count + 1) (drop count answers) (map (behind_of asked) l)) (sym queries) ∙ g.whole);
        }

    turn_by : (next : Progress) (b₂ : List ℕ) → Turned file start end asked answers count at b₁ next b₂ → Said file start end
        → Going file asked answers b₀ b₂ next.at next.count (end + 1)
    turn_by next b₂ t (asks x letter queries part) =
        let e = eq-eqb (get_or file start 0) letter_of_queries letter in
        let counts : next.count ≡ count + 1 = rw e at t.counts in
        let puts : Put (query_line file start end asked answers count) at b₁ next.at b₂ = rw e at t.puts in
        rw counts (asked_turn x queries part next.at b₂ puts)
    turn_by next b₂ t (assumes letter queries) =
        let e = ne_eqb (get_or file start 0) letter_of_queries letter in
        let counts : next.count ≡ count = rw e at t.counts in
        let puts : Put [] at b₁ next.at b₂ = rw e at t.puts in
        rw counts (passed_turn queries next.at b₂ puts)

    pub turn : (next : Progress) (b₂ : List ℕ) → Turned file start end asked answers count at b₁ next b₂
        → Going file asked answers b₀ b₂ next.at next.count (end + 1)
    turn next b₂ t = turn_by next b₂ t (line_says file start inside end at_end g.good)
