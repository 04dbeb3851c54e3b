-- The lines of a file, one by one: what letter each begins with, and how the nodes lead from one to the next.
-- Assumes nothing.
use Prim.Native.Nat.{ℕ, ◌+◌, ◌≤◌, ◌<◌}
use Prim.Native.Char.{code}
use native.Mathlib.Omega.{arith}
use mathlib.Core.Path.{◌≡◌, refl, sym, ◌∙◌, ap}
use Rattle.std.specs.Prelude.{Option, None, Some}
use mathlib.Core.List.{List, [], ◌∷◌, ◌++◌, flatten}
use lib.ListN.{length, get_or, drop, length-append, length-drop}
use lib.Seq.{drop-drop, drop-append_seam}
use Rattle.infon.specs.Bytes.{bytes}
use Rattle.infon.specs.Formula.{nodes}
use Rattle.infon.specs.Policy.{cut, placed, lines_of, Sentence, hypothesis, query, sentence_of, Entry, with_entry, entries_from, entries_of, formula_in}
use Rattle.infon.specs.Listing.{Prefix, wrap}
use Rattle.infon.proofs.Lines.{cut_concat, line_of, line_read}
use Rattle.nodes.specs.Nodes.{Node, root, after, nowhere, node_at, roots, count_nodes, nodes_of}
use Rattle.nodes.proofs.Order.{after_none, node_first, node_behind, node_within}
use Rattle.nodes.proofs.Spelled.{Stands, stands_byte}
use Rattle.prefix.specs.Weaker.{weaker_count, choose, form_at}

-- the first byte of a line
unfoldable pub letter_byte : Sentence → ℕ
letter_byte (hypothesis x) = code "H"
letter_byte (query x) = code "Q"

abbrev pub Letters : List ℕ → List Entry → Type 0
Letters file [] = Unit {0}
Letters file (e ∷ rest) = ((e.start < length file) × (get_or file e.start 0 ≡ letter_byte e.sentence)) × Letters file rest

first_letter : (s : Sentence) → (back : List ℕ) × (line_of s ≡ letter_byte s ∷ back)
unfolding letter_byte bytes
first_letter (hypothesis x) = (_, refl)
first_letter (query x) = (_, refl)

letter_stands : (file : List ℕ) (start : ℕ) (text : List ℕ) (s : Sentence) → text ≡ line_of s → Stands file start text
    → (start < length file) × (get_or file start 0 ≡ letter_byte s)
letter_stands file start text s e st =
    let found = first_letter s in
    let begins : text ≡ [] ++ (letter_byte s ∷ found.0) = e ∙ found.1 in (
      omega (arith, ap length st.1, length-append text st.0, ap length begins, length-drop start file),
      stands_byte file start text st [] (letter_byte s) found.0 start begins (omega arith),
    )

letter_here : (file : List ℕ) (start : ℕ) (text : List ℕ) (o : Option Sentence) (rest : List Entry) → sentence_of text ≡ o → Stands file start text
    → Letters file rest → Letters file (with_entry start o rest)
unfolding with_entry
letter_here file start text None rest read st later = later
letter_here file start text (Some s) rest read st later = (letter_stands file start text s (line_read text s read).0 st, later)

letters_from : (file : List ℕ) (start : ℕ) (lines : List (List ℕ)) → drop start file ≡ flatten lines → Letters file (entries_from (placed start lines))
unfolding placed entries_from flatten
letters_from file start [] rest = tt
letters_from file start (text ∷ lines) rest =
    letter_here file start text (sentence_of text) (entries_from (placed (start + length text) lines)) refl (flatten lines, rest)
    (letters_from file (start + length text) lines
    (sym (drop-drop (length text) start file) ∙ ap (drop (length text)) rest ∙ drop-append_seam text (flatten lines)))

pub file_letters : (file : List ℕ) → Letters file (entries_of file)
unfolding entries_of lines_of
file_letters file = letters_from file 0 (cut file) (sym (cut_concat file))

-- The lines still ahead: their formulas are what is still to be gone through.
pub record LinesAhead (file : List ℕ) (r : ℕ) (es : List Entry) : Type 0 where
  pub so_far : r ≤ count_nodes (nodes_of file)
  pub rows : after 0 r (nodes_of file) ≡ roots es
  pub letters : Letters file es

pub all_ahead : (file : List ℕ) → LinesAhead file 0 (entries_of file)
unfolding nodes_of after
all_ahead file = record { so_far = omega arith; rows = refl; letters = file_letters file }

-- the next of them
pub record NextLine (file : List ℕ) (r : ℕ) (es : List Entry) : Type 0 where
  pub entry : Entry
  pub rest : List Entry
  pub first : es ≡ entry ∷ rest
  pub what : (node_at (nodes_of file) r).what ≡ formula_in entry.sentence
  pub pre : (node_at (nodes_of file) r).pre ≡ []
  pub line : (node_at (nodes_of file) r).line ≡ entry.start
  pub inside : entry.start < length file
  pub letter : get_or file entry.start 0 ≡ letter_byte entry.sentence
  pub later : LinesAhead file (r + nodes (node_at (nodes_of file) r).what) rest

pub next_line : (file : List ℕ) (r : ℕ) (es : List Entry) → LinesAhead file r es → r < count_nodes (nodes_of file) → NextLine file r es
unfolding roots root node_at
next_line file r [] ahead h = absurd (let z : ◌≡◌ {A = ℕ} 0 1 = cc (ahead.rows, node_first (nodes_of file) r h) in omega arith)
next_line file r (e ∷ rest) ahead h =
    let row = nodes_of file in
    let node : node_at row r ≡ root e = ap (λ (s : List Node). get_or s 0 nowhere) ahead.rows in
    record {
      entry = e;
      rest = rest;
      first = refl;
      what = ap (λ (n : Node). n.what) node;
      pre = ap (λ (n : Node). n.pre) node;
      line = ap (λ (n : Node). n.line) node;
      inside = ahead.letters.0.0;
      letter = ahead.letters.0.1;
      later =
          record {
            so_far = node_within row r h;
            rows = node_behind row r h ∙ ap (drop 1) ahead.rows;
            letters = ahead.letters.1;
          };
    }

-- where all nodes are gone through, no line is ahead
no_roots : (es : List Entry) → roots es ≡ [] → es ≡ []
unfolding roots
no_roots [] e = refl
no_roots (x ∷ es) e = absurd (let z : ◌≡◌ {A = ℕ} 0 1 = cc in omega arith)

pub none_ahead : (file : List ℕ) (r : ℕ) (es : List Entry) → LinesAhead file r es → count_nodes (nodes_of file) ≤ r → es ≡ []
none_ahead file r es ahead h = no_roots es (sym ahead.rows ∙ after_none 0 r (nodes_of file) h)

-- a line's formula is form 0 of its first node
module _ (file : List ℕ) (r : ℕ) (es : List Entry) (next : NextLine file r es) where
  pub line_form : form_at (nodes_of file) r 0 ≡ formula_in next.entry.sentence
  unfolding form_at choose wrap
  line_form =
      ap (λ (w : Prefix). wrap (choose w 0) (node_at (nodes_of file) r).what) next.pre ∙ next.what

  pub line_weaker : 0 < weaker_count (node_at (nodes_of file) r).pre
  unfolding weaker_count
  line_weaker = rw next.pre (omega arith)
