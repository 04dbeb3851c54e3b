-- Where the nodes' spellings stand in a file whose lines are all well formed: each node's at its place, and behind it a space if
-- the next node is on the same line, and a line feed, a letter and a space if it is on the next.
-- Assumes nothing.
use Prim.Native.Nat.{ℕ, ◌+◌, ◌<◌, ◌≤◌}
use native.Mathlib.Nat.{zero-add}
use native.Mathlib.Omega.{arith}
use mathlib.Core.Path.{◌≡◌, refl, sym, ◌∙◌, ap, subst, subst₂}
use mathlib.Core.Logic.{◌⊎◌, inl, inr, ◌≢◌}
use mathlib.Core.Bool.{true, not, false≢true}
use Rattle.std.specs.Prelude.{Option, None, Some, is_some}
use mathlib.Core.List.{List, [], ◌∷◌, ◌++◌, append_assoc, append-nil, flatten, cons≢nil, append-eq-nil_iff}
use lib.ListN.{length, get_or, take, drop, length-append, length-drop}
use lib.Seq.{drop-drop, drop-append_seam, take-append_seam, get_or-drop}
use borrow.Author.Tests.{not-false}
use Rattle.infon.specs.Bytes.{bytes, space, line_feed}
use Rattle.infon.specs.Formula.{Quotation, Formula, True, name, and, implies, quoted, letter_of, words, joined, spelling}
use Rattle.infon.specs.Codes.{when, passed}
use Rattle.infon.specs.Policy.{cut, Line, placed, lines_of, Sentence, hypothesis, query, sentence_of, is_well_formed, with_entry, entries_from, entries_of, formula_in, code2_from, code2}
use Rattle.infon.proofs.Readable.{words_nonempty, letter_length}
use Rattle.infon.proofs.Lines.{cut_concat, opening, line_of, line_read}
use Rattle.infon.proofs.Tried.{and_then_passed, when_passed}
use Rattle.nodes.specs.Nodes.{Node, part, inner, kids_of, kids, after, node_at, root, roots, count_nodes, own_bytes, nodes_of}
use Rattle.nodes.proofs.Order.{node_first}
use Rattle.nodes.proofs.Every.{every_row}

-- a text stands at a place of a file
abbrev pub Stands : List ℕ → ℕ → List ℕ → Type 0
Stands file at text = (rest : List ℕ) × (drop at file ≡ text ++ rest)

module _ (file : List ℕ) (at : ℕ) (front back : List ℕ) (h : Stands file at (front ++ back)) where
  pub stands_front : Stands file at front
  stands_front = (back ++ h.0, h.1 ∙ append_assoc front back h.0)

  pub stands_back : (there : ℕ) → there ≡ at + length front → Stands file there back
  stands_back there e = (
    h.0,
    ap (λ j. drop j file) e ∙ sym (drop-drop (length front) at file)
        ∙ ap (drop (length front)) (h.1 ∙ append_assoc front back h.0)
        ∙ drop-append_seam front (back ++ h.0),
  )

module _ (file : List ℕ) (at : ℕ) (text : List ℕ) (h : Stands file at text) where
  pub stands_take : take (length text) (drop at file) ≡ text
  stands_take = ap (take (length text)) h.1 ∙ take-append_seam text h.0

  pub stands_within : 0 < length text → at + length text ≤ length file
  stands_within nonempty = omega (arith, ap length h.1, length-append text h.0, length-drop at file)

  -- the byte at a place inside the text
  pub stands_byte : (front : List ℕ) (b : ℕ) (back : List ℕ) (there : ℕ) → text ≡ front ++ (b ∷ back) → there ≡ at + length front → get_or file there 0 ≡ b
  stands_byte front b back there e place =
      let here : Stands file at (front ++ (b ∷ back)) = subst (Stands file at) e h in
      let from = stands_back file at front (b ∷ back) here there place in
      ap (λ j. get_or file j 0) (plain there) ∙ sym (get_or-drop there file 0 0) ∙ ap (λ s. get_or s 0 0) from.1
    where
      plain : (j : ℕ) → j ≡ j + 0
      plain j = omega arith

-- How a formula with parts is spelled.
joined_cons : (word : List ℕ) (rest : List (List ℕ)) → rest ≢ [] → joined (word ∷ rest) ≡ word ++ (space ∷ joined rest)
unfolding joined
joined_cons word [] nonempty = absurd (nonempty refl)
joined_cons word (next ∷ rest) nonempty = refl

joined_append : (front back : List (List ℕ)) → front ≢ [] → back ≢ [] → joined (front ++ back) ≡ joined front ++ (space ∷ joined back)
unfolding joined
joined_append [] back f b = absurd (f refl)
joined_append (word ∷ []) back f b = joined_cons word back b
joined_append (word ∷ (next ∷ front)) back f b =
    joined_cons word (next ∷ (front ++ back)) cons≢nil
    ∙ ap (λ s. word ++ (space ∷ s)) (joined_append (next ∷ front) back cons≢nil b)
    ∙ sym (append_assoc word (space ∷ joined (next ∷ front)) (space ∷ joined back))
    ∙ ap (λ s. s ++ (space ∷ joined back)) (sym (joined_cons word (next ∷ front) cons≢nil))

two_spelled : (word : List ℕ) (x y : Formula) → joined (word ∷ (words x ++ words y)) ≡ word ++ (space ∷ (spelling x ++ (space ∷ spelling y)))
unfolding spelling
two_spelled word x y =
    joined_cons word (words x ++ words y) (λ e. words_nonempty x (append-eq-nil_iff.0 e).0)
    ∙ ap (λ s. word ++ (space ∷ s)) (joined_append (words x) (words y) (words_nonempty x) (words_nonempty y))

pub and_spelled : (x y : Formula) → spelling (and x y) ≡ bytes "+" ++ (space ∷ (spelling x ++ (space ∷ spelling y)))
unfolding spelling words
and_spelled x y = two_spelled (bytes "+") x y

pub implies_spelled : (x y : Formula) → spelling (implies x y) ≡ bytes ">" ++ (space ∷ (spelling x ++ (space ∷ spelling y)))
unfolding spelling words
implies_spelled x y = two_spelled (bytes ">") x y

pub quoted_spelled : (q : Quotation) (x : Formula) → spelling (quoted q x) ≡ letter_of q.told ++ (space ∷ (q.principal ++ (space ∷ spelling x)))
unfolding spelling words
quoted_spelled q x =
    joined_cons (letter_of q.told) (q.principal ∷ words x) cons≢nil
    ∙ ap (λ s. letter_of q.told ++ (space ∷ s)) (joined_cons q.principal (words x) (words_nonempty x))

-- A row of nodes whose spellings stand one behind the other: the first at a place of a line, the others behind it, up to the
-- end of the file, behind whose last line feed one more line would have its formula.
abbrev pub Chain : List ℕ → ℕ → ℕ → List Node → Type 0
Chain file at line [] = at ≡ length file + 2
Chain file at line (n ∷ row) =
    (n.place ≡ at) × ((n.line ≡ line)
    × ((Stands file at (spelling n.what ++ (space ∷ [])) × Chain file (at + length (spelling n.what) + 1) line row)
    ⊎ (Stands file at (spelling n.what ++ (line_feed ∷ []))
    × Chain file (at + length (spelling n.what) + 3) (at + length (spelling n.what) + 1) row)))

-- a text with the rest of a chain behind it
abbrev pub Behind : List ℕ → ℕ → ℕ → List ℕ → List Node → Type 0
Behind file at line text row =
    (Stands file at (text ++ (space ∷ [])) × Chain file (at + length text + 1) line row)
    ⊎ (Stands file at (text ++ (line_feed ∷ [])) × Chain file (at + length text + 3) (at + length text + 1) row)

-- where the chain goes on behind so many bytes, by the byte that stands there
abbrev pub GoesOn : List ℕ → ℕ → ℕ → ℕ → List Node → Type 0
GoesOn file at line own row =
    ((get_or file (at + own) 0 ≡ space) × Chain file (at + own + 1) line row)
    ⊎ ((get_or file (at + own) 0 ≡ line_feed) × Chain file (at + own + 3) (at + own + 1) row)

module _ (file : List ℕ) (at line : ℕ) (row : List Node) where
  leaf_goes_on : (text : List ℕ) → Behind file at line text row → GoesOn file at line (length text) row
  leaf_goes_on text (inl h) =
      inl (stands_byte file at (text ++ (space ∷ [])) h.0 text space [] (at + length text) refl refl, h.1)
  leaf_goes_on text (inr h) =
      inr (stands_byte file at (text ++ (line_feed ∷ [])) h.0 text line_feed [] (at + length text) refl refl, h.1)

  -- a front of the text stands there, and its back has the same chain behind it
  front_stands : (text front back : List ℕ) → text ≡ front ++ back → Behind file at line text row → Stands file at front
  front_stands text front back e (inl h) =
      stands_front file at front (back ++ (space ∷ []))
      (subst (Stands file at) (ap (λ t. t ++ (space ∷ [])) e ∙ append_assoc front back (space ∷ [])) h.0)
  front_stands text front back e (inr h) =
      stands_front file at front (back ++ (line_feed ∷ []))
      (subst (Stands file at) (ap (λ t. t ++ (line_feed ∷ [])) e ∙ append_assoc front back (line_feed ∷ [])) h.0)

  back_behind : (text front back : List ℕ) (there : ℕ) → text ≡ front ++ back → there ≡ at + length front → Behind file at line text row
      → Behind file there line back row
  back_behind text front back there e place (inl h) =
      inl (
        stands_back file at front (back ++ (space ∷ []))
            (subst (Stands file at) (ap (λ t. t ++ (space ∷ [])) e ∙ append_assoc front back (space ∷ [])) h.0) there place,
        subst (λ j. Chain file j line row) (omega (arith, ap length e, length-append front back)) h.1,
      )
  back_behind text front back there e place (inr h) =
      inr (
        stands_back file at front (back ++ (line_feed ∷ []))
            (subst (Stands file at) (ap (λ t. t ++ (line_feed ∷ [])) e ∙ append_assoc front back (line_feed ∷ [])) h.0) there place,
        subst₂ (λ j l. Chain file j l row) (omega (arith, ap length e, length-append front back)) (omega (arith, ap length e, length-append front back)) h.1,
      )

  two_go_on : (i letter : ℕ) (n : Node) (x y : Formula) (text : List ℕ) → text ≡ letter ∷ (space ∷ (spelling x ++ (space ∷ spelling y)))
      → n.place ≡ at → n.line ≡ line → Behind file at line text row
      → GoesOn file at line 1 (part n 2 x ∷ (part n (3 + length (spelling x)) y ∷ row))
  unfolding part
  two_go_on i letter n x y text e place same h =
      let front : List ℕ = letter ∷ (space ∷ (spelling x ++ (space ∷ []))) in
      let whole : text ≡ front ++ spelling y =
      e ∙ ap (λ s. letter ∷ (space ∷ s)) (sym (append_assoc (spelling x) (space ∷ []) (spelling y))) in
      let st = front_stands text front (spelling y) whole h in
      inl (
        stands_byte file at front st (letter ∷ []) space (spelling x ++ (space ∷ [])) (at + 1) refl refl,
        (
          omega arith,
          (
            same,
            inl (
              stands_back file at (letter ∷ (space ∷ [])) (spelling x ++ (space ∷ [])) st (at + 1 + 1) (omega arith),
              (
                omega arith,
                (
                  same,
                  back_behind text front (spelling y) (at + 1 + 1 + length (spelling x) + 1) whole
                      (omega (arith, length-append (spelling x) (space ∷ []))) h,
                ),
              ),
            ),
          ),
        ),
      )

  kids_go_on : (i : ℕ) (n : Node) (x : Formula) → n.place ≡ at → n.line ≡ line → Behind file at line (spelling x) row
      → GoesOn file at line (own_bytes x) (kids_of i n x ++ row)
  unfolding kids_of own_bytes spelling words joined bytes inner
  kids_go_on i n True place same h = leaf_goes_on (bytes "T") h
  kids_go_on i n (name a) place same h = leaf_goes_on a h
  kids_go_on i n (and x y) place same h = two_go_on i 43 n x y (spelling (and x y)) (and_spelled x y) place same h
  kids_go_on i n (implies x y) place same h = two_go_on i 62 n x y (spelling (implies x y)) (implies_spelled x y) place same h
  kids_go_on i n (quoted q x) place same h =
      let front : List ℕ = letter_of q.told ++ (space ∷ (q.principal ++ (space ∷ []))) in
      let whole : spelling (quoted q x) ≡ front ++ spelling x =
      quoted_spelled q x
      ∙ ap (λ s. letter_of q.told ++ (space ∷ s)) (sym (append_assoc q.principal (space ∷ []) (spelling x)))
      ∙ sym (append_assoc (letter_of q.told) (space ∷ (q.principal ++ (space ∷ []))) (spelling x)) in
      let st = front_stands (spelling (quoted q x)) front (spelling x) whole h in
      let one = letter_length q.told in
      inl (
        stands_byte file at front st (letter_of q.told ++ (space ∷ q.principal)) space [] (at + (2 + length q.principal))
            (sym (append_assoc (letter_of q.told) (space ∷ q.principal) (space ∷ [])))
            (omega (arith, one, length-append (letter_of q.told) (space ∷ q.principal))),
        (
          omega arith,
          (
            same,
            back_behind (spelling (quoted q x)) front (spelling x) (at + (2 + length q.principal) + 1) whole
                (omega (
                  arith,
                  one,
                  length-append (letter_of q.told) (space ∷ (q.principal ++ (space ∷ []))),
                  length-append q.principal (space ∷ []),
                ))
                h,
          ),
        ),
      )

  -- behind a node's own bytes the chain goes on with its kids
  pub chain_goes_on : (i : ℕ) (n : Node) → Chain file at line (n ∷ row) → GoesOn file at line (own_bytes n.what) (kids i n ++ row)
  unfolding kids
  chain_goes_on i n h = kids_go_on i n n.what h.0 h.1.0 h.1.1

  pub chain_stands : (n : Node) → Chain file at line (n ∷ row) → Stands file at (spelling n.what)
  chain_stands n h = front_stands (spelling n.what) (spelling n.what) [] (sym (append-nil (spelling n.what))) h.1.1

-- From a chain to the next: somewhere it goes on.
abbrev Chained : List ℕ → List Node → Type 0
Chained file row = (at : ℕ) × ((line : ℕ) × Chain file at line row)

goes_on_chained : (file : List ℕ) (at line own : ℕ) (row : List Node) → GoesOn file at line own row → Chained file row
goes_on_chained file at line own row (inl h) = (at + own + 1, (line, h.1))
goes_on_chained file at line own row (inr h) = (at + own + 3, (at + own + 1, h.1))

-- The lines of a file are a chain.
is_some_lem : {A : Type 0} (o : Option A) → is_some o ≡ true → (x : A) × (o ≡ Some x)
is_some_lem None h = absurd (false≢true h)
is_some_lem (Some x) h = (x, refl)

well_formed_line : (line : Line) → is_well_formed line ≡ true → (s : Sentence) × (sentence_of line.text ≡ Some s)
unfolding is_well_formed
well_formed_line line h = is_some_lem (sentence_of line.text) h

opening_length : (s : Sentence) → length (opening s) ≡ 2
unfolding bytes
opening_length (hypothesis x) = refl
opening_length (query x) = refl

module _ (file : List ℕ) (start : ℕ) (text : List ℕ) (s : Sentence) (e : text ≡ line_of s) (st : Stands file start text) where
  line_stands : Stands file (start + 2) (spelling (formula_in s) ++ (line_feed ∷ []))
  line_stands =
      stands_back file start (opening s) (spelling (formula_in s) ++ (line_feed ∷ [])) (subst (Stands file start) e st) (start + 2)
      (omega (arith, opening_length s))

  line_length : length text ≡ 2 + (length (spelling (formula_in s)) + 1)
  line_length =
      omega (
        arith,
        ap length e,
        opening_length s,
        length-append (opening s) (spelling (formula_in s) ++ (line_feed ∷ [])),
        length-append (spelling (formula_in s)) (line_feed ∷ []),
      )

lines_chain : (file : List ℕ) (start : ℕ) (lines : List (List ℕ)) → start + length (flatten lines) ≡ length file → drop start file ≡ flatten lines
    → code2_from (placed start lines) ≡ passed → Chain file (start + 2) start (roots (entries_from (placed start lines)))
unfolding placed entries_from roots root code2_from flatten with_entry
lines_chain file start [] whole rest h = omega arith
lines_chain file start (text ∷ lines) whole rest h =
    let line : Line = record { start = start; text = text } in
    let later = placed (start + length text) lines in
    let both = and_then_passed (when (not (is_well_formed line)) 2 start) (code2_from later) h in
    let found = well_formed_line line (not-false (is_well_formed line) (when_passed (not (is_well_formed line)) 2 start both.0)) in
    let spelled = line_read text found.0 found.1 in
    let len = line_length file start text found.0 spelled.0 (flatten lines, rest) in
    let below =
    lines_chain file (start + length text) lines (omega (arith, length-append text (flatten lines)))
    (sym (drop-drop (length text) start file) ∙ ap (drop (length text)) rest ∙ drop-append_seam text (flatten lines)) both.1 in
    rw found.1 (
      refl,
      (
        refl,
        inr (
          line_stands file start text found.0 spelled.0 (flatten lines, rest),
          subst₂ (λ at line. Chain file at line (roots (entries_from later))) (omega arith) (omega arith) below,
        ),
      ),
    )

pub file_chain : (file : List ℕ) → code2 file ≡ passed → Chain file 2 0 (nodes_of file)
unfolding code2 lines_of nodes_of entries_of
file_chain file h = lines_chain file 0 (cut file) (rw (cut_concat file) (zero-add (length file))) (sym (cut_concat file)) h

-- The nodes of a well-formed file.
module _ (file : List ℕ) (formed : code2 file ≡ passed) where
  pub nodes_chained : (i : ℕ) → i ≤ count_nodes (nodes_of file) → Chained file (after 0 i (nodes_of file))
  nodes_chained =
      every_row (λ i. Chained file) (nodes_of file)
      (λ i rest h chained.
      goes_on_chained file chained.0 chained.1.0 (own_bytes (node_at (nodes_of file) i).what) (kids i (node_at (nodes_of file) i) ++ rest)
      (chain_goes_on file chained.0 chained.1.0 rest i (node_at (nodes_of file) i) chained.1.1))
      (2, (0, file_chain file formed))

  -- a node's formula stands at its place
  pub node_stands : (i : ℕ) → i < count_nodes (nodes_of file) → Stands file (node_at (nodes_of file) i).place (spelling (node_at (nodes_of file) i).what)
  node_stands i h =
      let here : Chained file (node_at (nodes_of file) i ∷ drop 1 (after 0 i (nodes_of file))) =
      subst (Chained file) (node_first (nodes_of file) i h) (nodes_chained i (omega arith)) in
      subst (λ at. Stands file at (spelling (node_at (nodes_of file) i).what)) (sym here.1.1.0)
      (chain_stands file here.0 here.1.0 (drop 1 (after 0 i (nodes_of file))) (node_at (nodes_of file) i) here.1.1)

  pub node_text : (i : ℕ) → i < count_nodes (nodes_of file)
      → take (length (spelling (node_at (nodes_of file) i).what)) (drop (node_at (nodes_of file) i).place file) ≡ spelling (node_at (nodes_of file) i).what
  node_text i h = stands_take file (node_at (nodes_of file) i).place (spelling (node_at (nodes_of file) i).what) (node_stands i h)
