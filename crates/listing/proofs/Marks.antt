-- The lines one by one: hypotheses are marked, queries are numbered.
-- Assumes nothing.
use Prim.Native.Nat.{ℕ, suc, ◌+◌, ◌*◌, ◌≤◌, ◌<◌}
use Prim.Native.Char.{code}
use native.Mathlib.Numerals.{add-one}
use native.Mathlib.Omega.{arith}
use mathlib.Core.Path.{◌≡◌, refl, sym, ◌∙◌, ap, subst}
use mathlib.Core.Logic.{⊎_elim}
use mathlib.Core.Bool.{Bool, true, false, cond, ◌||◌}
use mathlib.Core.List.{List, [], ◌∷◌, ◌++◌, map, append_assoc, append-nil}
use lib.ListN.{length, get_or, set, drop, length-set, length-append, length-map, length-drop}
use lib.Seq.{get_or-set_same, get_or-set_other, set-get_or, drop-cons, set_at}
use lib.Dec.{eqb}
use borrow.Author.Tests.{eqb-true, eqb-false}
use Rattle.std.proofs.lemmas.Bool.{cases_Bool}
use Rattle.infon.specs.Bytes.{some_of}
use Rattle.infon.specs.Formula.{Formula, same, nodes}
use Rattle.infon.specs.Policy.{Sentence, hypothesis, query, Entry, entries_of, formula_in, hypotheses_of, queries_of}
use Rattle.infon.specs.Listing.{is_listed, list_of, most_listed}
use Rattle.infon.specs.Rules.{numbered}
use Rattle.infon.specs.Run.{written}
use Rattle.infon.proofs.Listed.{numbered_injective}
use Rattle.nodes.specs.Nodes.{node_at, count_nodes, nodes_of, NodesHeld, node_rows, node_end, node_line, node_cell}
use Rattle.nodes.proofs.Order.{nodes_positive}
use Rattle.formulas.specs.Table.{number_in, flag, table_rows, table_cells, cell, with_cell}
use Rattle.formulas.specs.Tests.{hypothesis_at}
use Rattle.formulas.proofs.Numbers.{number_in_below, numbered_number_in, same_number}
use Rattle.formulas.proofs.Growing.{listed_last}
use Rattle.prefix.proofs.Shown.{count_few, end_cell, line_cell}
use Rattle.columns.specs.Columns.{form_number, IsForm}
use Rattle.listing.specs.Lines.{LinesReady, marked_by, asked_by, asked_in, Clear, HypothesesMarked, QueriesNumbered}
use Rattle.listing.proofs.Cells.{number_form, form_listed}
use Rattle.listing.proofs.Letters.{letter_byte, LinesAhead, all_ahead, NextLine, next_line, none_ahead, line_form, line_weaker}

-- One line.
module _ (file t : List ℕ) (held : NodesHeld file t) (cand : List ℕ) (ready : LinesReady file cand) (r : ℕ) (es : List Entry)
    (ahead : LinesAhead file r es) (h : r < count_nodes (nodes_of file)) where
  abbrev fs : List Formula
  fs = list_of (entries_of file)

  abbrev pub this : NextLine file r es
  this = next_line file r es ahead h

  abbrev x : Formula
  x = formula_in this.entry.sentence

  pub line_is_form : IsForm file r 0
  line_is_form = (h, line_weaker file r es this)

  pub line_number : form_number t cand r 0 ≡ number_in fs x
  line_number =
      number_form file t held fs cand ready.placed r 0 h (line_weaker file r es this) ∙ ap (number_in fs) (line_form file r es this)

  pub line_listed : is_listed x fs ≡ true
  line_listed =
      subst (λ (z : Formula). is_listed z fs ≡ true) (line_form file r es this)
      (form_listed file t held fs cand ready.placed r 0 h (line_weaker file r es this))

  pub line_number_few : form_number t cand r 0 < length fs
  line_number_few = rw line_number (number_in_below fs x line_listed)

  pub line_row : r < node_rows
  line_row = omega (arith, h, count_few file t held)

  pub line_place : node_cell t node_line r ≡ this.entry.start
  line_place = line_cell file t held r h ∙ this.line

  pub line_inside : node_cell t node_line r < length file
  line_inside = rw line_place this.inside

  pub line_letter : get_or file (node_cell t node_line r) 0 ≡ letter_byte this.entry.sentence
  line_letter = ap (λ (k : ℕ). get_or file k 0) line_place ∙ this.letter

  pub line_end : node_cell t node_end r ≡ r + nodes (node_at (nodes_of file) r).what
  line_end = end_cell file t held r h

  pub line_further : r < node_cell t node_end r
  line_further = omega (arith, line_end, nodes_positive (node_at (nodes_of file) r).what)

  pub lines_later : LinesAhead file (node_cell t node_end r) this.rest
  lines_later = rw line_end this.later

-- Hypotheses.
hypotheses_first : (s : Sentence) (start : ℕ) (rest : List Entry) (x : Formula) → s ≡ hypothesis x
    → hypotheses_of (record { start = start; sentence = s } ∷ rest) ≡ x ∷ hypotheses_of rest
unfolding hypotheses_of
hypotheses_first s start rest x e = rw e

queries_skipped : (s : Sentence) (start : ℕ) (rest : List Entry) (x : Formula) → s ≡ query x
    → hypotheses_of (record { start = start; sentence = s } ∷ rest) ≡ hypotheses_of rest
unfolding hypotheses_of
queries_skipped s start rest x e = rw e

listed_more : (y x : Formula) (done : List Formula) → is_listed y (done ++ (x ∷ [])) ≡ is_listed y done || same y x
unfolding is_listed some_of
listed_more y x [] = last (same y x)
  where
    last : (b : Bool) → b || false ≡ false || b
    last true = refl
    last false = refl
listed_more y x (z ∷ done) = more (same y z) (is_listed y done) (same y x) (listed_more y x done)
  where
    more : (a b c : Bool) → is_listed y (done ++ (x ∷ [])) ≡ b || c → a || is_listed y (done ++ (x ∷ [])) ≡ (a || b) || c
    more true b c e = refl
    more false b c e = e

-- what is marked so far is what the lines so far say
pub record MarksTo (file before table : List ℕ) (r : ℕ) : Type 0 where
  pub es : List Entry
  pub done : List Formula
  pub ahead : LinesAhead file r es
  pub whole : hypotheses_of (entries_of file) ≡ done ++ hypotheses_of es
  pub size : length table ≡ length before
  pub cells : (k : ℕ) → k < length (list_of (entries_of file))
      → cell table hypothesis_at k ≡ flag (is_listed (numbered (list_of (entries_of file)) k) done)
  pub others : (k i : ℕ) → i < table_rows → (k ≡ hypothesis_at → length (list_of (entries_of file)) ≤ i)
      → cell table k i ≡ cell before k i

pub marks_begin : (file table : List ℕ) → Clear file table → MarksTo file table table 0
unfolding is_listed some_of flag
marks_begin file table clear =
    record {
      es = entries_of file;
      done = [];
      ahead = all_ahead file;
      whole = refl;
      size = refl;
      cells = clear.zeros;
      others = λ k i row behind. refl;
    }

flag_small : (b : Bool) → flag b ≤ 1
unfolding flag
flag_small true = omega arith
flag_small false = omega arith

marked_small : (letter old : ℕ) → old ≤ 1 → marked_by letter old ≤ 1
unfolding marked_by
marked_small letter old h = by (eqb letter (code "H"))
  where
    by : (b : Bool) → cond b 1 old ≤ 1
    by true = omega arith
    by false = h

module _ (file t : List ℕ) (held : NodesHeld file t) (cand before table : List ℕ) (r : ℕ) (ready : LinesReady file cand) (long : table_cells ≤ length before)
    (so : MarksTo file before table r) (h : r < count_nodes (nodes_of file)) where
  abbrev gs : List Formula
  gs = list_of (entries_of file)

  abbrev line : NextLine file r so.es
  line = this file t held cand ready r so.es so.ahead h

  abbrev z : Formula
  z = formula_in line.entry.sentence

  abbrev at : ℕ
  at = number_in gs z

  listed : is_listed z gs ≡ true
  listed = line_listed file t held cand ready r so.es so.ahead h

  at_few : at < length gs
  at_few = number_in_below gs z listed

  pub mark_room : table_cells ≤ length table
  mark_room = omega (arith, so.size)

  room : hypothesis_at * table_rows + at < length table
  unfolding most_listed
  room = omega (arith, at_few, ready.few, mark_room)

  pub mark_number : form_number t cand r 0 < table_rows
  unfolding most_listed
  mark_number = omega (arith, line_number_few file t held cand ready r so.es so.ahead h, ready.few)

  -- a mark is 0 or 1, so it fits a cell
  pub mark_fits : (number letter old new : ℕ) → number ≡ form_number t cand r 0 → old ≡ cell table hypothesis_at number → new ≡ marked_by letter old
      → new < 65536
  mark_fits number letter old new number_is old_is new_is =
      let few : number < length gs = rw number_is (line_number_few file t held cand ready r so.es so.ahead h) in
      let small : old ≤ 1 = rw (old_is, so.cells number few) (flag_small (is_listed (numbered gs number) so.done)) in
      omega (arith, marked_small letter old small)

  once : (i j : ℕ) → i < length gs → j < length gs → numbered gs i ≡ numbered gs j → i ≡ j
  once = numbered_injective (entries_of file)

  -- a line `H`
  marked_cell : (k : ℕ) → k < length gs → cell (with_cell table hypothesis_at at 1) hypothesis_at k ≡ flag (is_listed (numbered gs k) (so.done ++ (z ∷ [])))
  unfolding flag
  marked_cell k less =
      ⊎_elim
      (λ (here : eqb at k ≡ true).
      let e : k ≡ at = sym (eqb-true at k here) in
      rw (e, numbered_number_in gs z listed, listed_last so.done z) (get_or-set_same table (hypothesis_at * table_rows + at) 1 0 room))
      (λ (there : eqb at k ≡ false).
      let other : same (numbered gs k) z ≡ false = same_number gs once k z less listed ∙ there in
      get_or-set_other table (hypothesis_at * table_rows + at) (hypothesis_at * table_rows + k) 1 0 (λ e. eqb-false at k there (omega arith)) ∙ so.cells k less
      ∙ ap flag (sym (listed_more (numbered gs k) z so.done ∙ ap (λ (b : Bool). is_listed (numbered gs k) so.done || b) other ∙ or_none (is_listed (numbered gs k) so.done))))
      (cases_Bool (eqb at k))
    where
      or_none : (b : Bool) → b || false ≡ b
      or_none true = refl
      or_none false = refl

  outside : (v k i : ℕ) → i < table_rows → (k ≡ hypothesis_at → length gs ≤ i) → cell (with_cell table hypothesis_at at v) k i ≡ cell before k i
  unfolding most_listed
  outside v k i row behind =
      get_or-set_other table (hypothesis_at * table_rows + at) (k * table_rows + i) v 0 apart ∙ so.others k i row behind
    where
      apart : k * table_rows + i ≡ hypothesis_at * table_rows + at → ⊥
      apart e =
          let few = ready.few in
          let same : k ≡ hypothesis_at = omega (arith, at_few) in
          omega (arith, at_few, behind same)

  later : LinesAhead file (node_cell t node_end r) line.rest
  later = lines_later file t held cand ready r so.es so.ahead h

  after_hypothesis : (y : Formula) → line.entry.sentence ≡ hypothesis y → MarksTo file before (with_cell table hypothesis_at at 1) (node_cell t node_end r)
  unfolding formula_in
  after_hypothesis y e =
      record {
        es = line.rest;
        done = so.done ++ (z ∷ []);
        ahead = later;
        whole =
            so.whole
            ∙ ap (λ (fs : List Formula). so.done ++ fs)
            (ap hypotheses_of line.first ∙ hypotheses_first line.entry.sentence line.entry.start line.rest y e
            ∙ ap (λ (x : Formula). x ∷ hypotheses_of line.rest) (sym (ap formula_in e)))
            ∙ sym (append_assoc so.done (z ∷ []) (hypotheses_of line.rest));
        size = length-set table (hypothesis_at * table_rows + at) 1 ∙ so.size;
        cells = marked_cell;
        others = outside 1;
      }

  -- a line `Q`
  after_query : (y : Formula) → line.entry.sentence ≡ query y → MarksTo file before table (node_cell t node_end r)
  after_query y e =
      record {
        es = line.rest;
        done = so.done;
        ahead = later;
        whole =
            so.whole
            ∙ ap (λ (fs : List Formula). so.done ++ fs)
            (ap hypotheses_of line.first ∙ queries_skipped line.entry.sentence line.entry.start line.rest y e);
        size = so.size;
        cells = so.cells;
        others = so.others;
      }

  by_sentence : (s : Sentence) → line.entry.sentence ≡ s
      → MarksTo file before (with_cell table hypothesis_at at (marked_by (letter_byte s) (cell table hypothesis_at at))) (node_cell t node_end r)
  unfolding marked_by letter_byte
  by_sentence (hypothesis y) e = after_hypothesis y e
  by_sentence (query y) e = rw (set-get_or table (hypothesis_at * table_rows + at) 0) (after_query y e)

  pub marks_on : (number start old new end : ℕ) (marked : List ℕ) → number ≡ form_number t cand r 0 → start ≡ node_cell t node_line r
      → old ≡ cell table hypothesis_at number → new ≡ marked_by (get_or file start 0) old → marked ≡ with_cell table hypothesis_at number new
      → end ≡ node_cell t node_end r → MarksTo file before marked end
  marks_on number start old new end marked number_is start_is old_is new_is marked_is end_is =
      let e : number ≡ at = number_is ∙ line_number file t held cand ready r so.es so.ahead h in
      let f : get_or file start 0 ≡ letter_byte line.entry.sentence =
      ap (λ (k : ℕ). get_or file k 0) start_is ∙ line_letter file t held cand ready r so.es so.ahead h in
      rw (marked_is, new_is, old_is, f, e, end_is) (by_sentence line.entry.sentence refl)

pub marks_over : (file before table : List ℕ) (r : ℕ) → MarksTo file before table r → count_nodes (nodes_of file) ≤ r → HypothesesMarked file before table
unfolding hypotheses_of
marks_over file before table r so h =
    let all : hypotheses_of (entries_of file) ≡ so.done =
    so.whole ∙ ap (λ (es : List Entry). so.done ++ hypotheses_of es) (none_ahead file r so.es so.ahead h) ∙ append-nil so.done in
    record {
      size = so.size;
      cells = λ k less. rw all (so.cells k less);
      others = so.others;
    }

-- Queries.
queries_first : (s : Sentence) (start : ℕ) (rest : List Entry) (x : Formula) → s ≡ query x
    → queries_of (record { start = start; sentence = s } ∷ rest) ≡ x ∷ queries_of rest
unfolding queries_of
queries_first s start rest x e = rw e

hypotheses_skipped : (s : Sentence) (start : ℕ) (rest : List Entry) (x : Formula) → s ≡ hypothesis x
    → queries_of (record { start = start; sentence = s } ∷ rest) ≡ queries_of rest
unfolding queries_of
hypotheses_skipped s start rest x e = rw e

map_more : (f : Formula → ℕ) (done : List Formula) (x : Formula) → map f (done ++ (x ∷ [])) ≡ map f done ++ (f x ∷ [])
map_more f [] x = refl
map_more f (y ∷ done) x = ap (λ (ns : List ℕ). f y ∷ ns) (map_more f done x)

-- the numbers written so far are those of the queries so far
pub record AskedTo (file before queries : List ℕ) (q r : ℕ) : Type 0 where
  pub es : List Entry
  pub done : List Formula
  pub ahead : LinesAhead file r es
  pub whole : queries_of (entries_of file) ≡ done ++ queries_of es
  pub count : q ≡ length done
  pub few : q ≤ r
  pub numbers : queries ≡ map (number_in (list_of (entries_of file))) done ++ drop q before

pub asked_begin : (file queries : List ℕ) → AskedTo file queries queries 0 0
asked_begin file queries =
    record {
      es = entries_of file;
      done = [];
      ahead = all_ahead file;
      whole = refl;
      count = refl;
      few = omega arith;
      numbers = refl;
    }

pub asked_size : (file before queries : List ℕ) (q r : ℕ) → AskedTo file before queries q r → q ≤ length before → length queries ≡ length before
asked_size file before queries q r so fits =
    let f = number_in (list_of (entries_of file)) in
    omega (
      arith,
      ap length so.numbers,
      length-append (map f so.done) (drop q before),
      length-map so.done f,
      length-drop q before,
      so.count,
    )

module _ (file t : List ℕ) (held : NodesHeld file t) (cand before queries : List ℕ) (q r : ℕ) (ready : LinesReady file cand) (long : node_rows ≤ length before)
    (so : AskedTo file before queries q r) (h : r < count_nodes (nodes_of file)) where
  abbrev hs : List Formula
  hs = list_of (entries_of file)

  abbrev here : NextLine file r so.es
  here = this file t held cand ready r so.es so.ahead h

  abbrev y : Formula
  y = formula_in here.entry.sentence

  q_few : q < length before
  q_few = omega (arith, so.few, line_row file t held cand ready r so.es so.ahead h)

  pub ask_room : q < length queries
  ask_room = rw (asked_size file before queries q r so (omega (arith, q_few))) q_few

  afterwards : LinesAhead file (node_cell t node_end r) here.rest
  afterwards = lines_later file t held cand ready r so.es so.ahead h

  further : r < node_cell t node_end r
  further = line_further file t held cand ready r so.es so.ahead h

  -- a line `Q`
  written_more : set queries q (number_in hs y) ≡ map (number_in hs) (so.done ++ (y ∷ [])) ++ drop (q + 1) before
  written_more =
      let f = number_in hs in
      ap (λ (s : List ℕ). set s q (f y)) (so.numbers ∙ ap (λ (s : List ℕ). map f so.done ++ s) (drop-cons before q 0 q_few))
      ∙ set_at (map f so.done) (get_or before q 0) (drop (suc q) before) (f y) q (length-map so.done f ∙ sym so.count)
      ∙ sym
      (ap (λ (s : List ℕ). s ++ drop (q + 1) before) (map_more f so.done y) ∙ append_assoc (map f so.done) (f y ∷ []) (drop (q + 1) before)
      ∙ ap (λ (n : ℕ). map f so.done ++ (f y ∷ drop n before)) (add-one q))

  after_asked : (x : Formula) → here.entry.sentence ≡ query x → AskedTo file before (set queries q (number_in hs y)) (q + 1) (node_cell t node_end r)
  unfolding formula_in
  after_asked x e =
      record {
        es = here.rest;
        done = so.done ++ (y ∷ []);
        ahead = afterwards;
        whole =
            so.whole
            ∙ ap (λ (fs : List Formula). so.done ++ fs)
            (ap queries_of here.first ∙ queries_first here.entry.sentence here.entry.start here.rest x e
            ∙ ap (λ (z : Formula). z ∷ queries_of here.rest) (sym (ap formula_in e)))
            ∙ sym (append_assoc so.done (y ∷ []) (queries_of here.rest));
        count = omega (arith, so.count, length-append so.done (y ∷ []));
        few = omega (arith, so.few, further);
        numbers = written_more;
      }

  after_passed : (x : Formula) → here.entry.sentence ≡ hypothesis x → AskedTo file before queries q (node_cell t node_end r)
  after_passed x e =
      record {
        es = here.rest;
        done = so.done;
        ahead = afterwards;
        whole =
            so.whole
            ∙ ap (λ (fs : List Formula). so.done ++ fs)
            (ap queries_of here.first ∙ hypotheses_skipped here.entry.sentence here.entry.start here.rest x e);
        count = so.count;
        few = omega (arith, so.few, further);
        numbers = so.numbers;
      }

  by_letter : (s : Sentence) → here.entry.sentence ≡ s
      → AskedTo file before (asked_in (letter_byte s) (number_in hs y) q queries) (asked_by (letter_byte s) q) (node_cell t node_end r)
  unfolding asked_in asked_by letter_byte
  by_letter (hypothesis x) e = after_passed x e
  by_letter (query x) e = after_asked x e

  pub asked_on : (number start next end : ℕ) (queries' : List ℕ) → number ≡ form_number t cand r 0 → start ≡ node_cell t node_line r
      → next ≡ asked_by (get_or file start 0) q → queries' ≡ asked_in (get_or file start 0) number q queries → end ≡ node_cell t node_end r
      → AskedTo file before queries' next end
  asked_on number start next end queries' number_is start_is next_is queries_are end_is =
      let e : number ≡ number_in hs y = number_is ∙ line_number file t held cand ready r so.es so.ahead h in
      let f : get_or file start 0 ≡ letter_byte here.entry.sentence =
      ap (λ (k : ℕ). get_or file k 0) start_is ∙ line_letter file t held cand ready r so.es so.ahead h in
      rw (next_is, queries_are, f, e, end_is) (by_letter here.entry.sentence refl)

pub asked_over : (file before queries : List ℕ) (q r : ℕ) → AskedTo file before queries q r → count_nodes (nodes_of file) ≤ r
    → QueriesNumbered file before queries q
unfolding queries_of written
asked_over file before queries q r so h =
    let f = number_in (list_of (entries_of file)) in
    let all : queries_of (entries_of file) ≡ so.done =
    so.whole ∙ ap (λ (es : List Entry). so.done ++ queries_of es) (none_ahead file r so.es so.ahead h) ∙ append-nil so.done in
    let len : q ≡ 0 + length (map f (queries_of (entries_of file))) = omega (arith, so.count, length-map (queries_of (entries_of file)) f, ap length all) in
    record {
      count = so.count ∙ ap length (sym all);
      numbers =
          so.numbers ∙ ap (λ (fs : List Formula). map f fs ++ drop q before) (sym all)
          ∙ ap (λ (n : ℕ). map f (queries_of (entries_of file)) ++ drop n before) len;
    }
