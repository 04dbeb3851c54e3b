-- Where the texts of a file's nodes stand: how long a formula's text is, and where a principal is.
-- Assumes nothing.
use Prim.Native.Nat.{ℕ, suc, ◌+◌, ◌-◌, ◌≤◌, ◌<◌}
use native.Mathlib.Omega.{arith}
use mathlib.Core.Path.{◌≡◌, refl, sym, ◌∙◌, ap, ap₂, subst}
use mathlib.Core.Bool.{true, ◌&&◌}
use mathlib.Core.List.{List, [], ◌∷◌, ◌++◌, append_assoc}
use lib.ListN.{length, take, drop, length-append}
use Rattle.std.proofs.lemmas.Bool.{and_parts}
use Rattle.infon.specs.Bytes.{bytes, space, alike}
use Rattle.infon.specs.Formula.{Quotation, Formula, True, name, and, implies, quoted, letter_of, spelling, nodes, is_name, is_named, words, joined}
use Rattle.infon.proofs.Readable.{letter_length, name_positive}
use Rattle.spelling.proofs.Tokenised.{name_token}
use Rattle.spelling.specs.Token.{is_break}
use Rattle.nodes.specs.Nodes.{Node, part, inner, node_at, count_nodes, own_bytes, nodes_of, node_cell, node_place, node_own, node_end, NodesHeld}
use Rattle.nodes.proofs.Order.{node_within, and_right, implies_right, quoted_inner, nodes_positive}
use Rattle.nodes.proofs.Every.{node_named}
use Rattle.nodes.proofs.Spelled.{Stands, stands_back, stands_within, and_spelled, implies_spelled, quoted_spelled, node_stands, node_text}
use Rattle.prefix.specs.declared.Place.{Place}
use Rattle.prefix.specs.Places.{used, EachPlace, prefix_at}
use Rattle.prefix.proofs.Shown.{principal_of, shown, quotation_of, prefix_shown, places_quoted, count_few, place_cell, own_cell, end_cell}
use Rattle.twins.specs.Twins.{same_principals, principal_text, same_places, Quoting}

-- what is below the count of a policy's nodes is a node of it
pub counted : {i count n : ℕ} → count ≡ n → i < count → i < n
counted e h = omega arith

two_length : (letter : List ℕ) (x y : Formula) → length letter ≡ 1
    → length (letter ++ (space ∷ (spelling x ++ (space ∷ spelling y)))) ≡ 3 + length (spelling x) + length (spelling y)
two_length letter x y one =
    omega (
      arith,
      length-append letter (space ∷ (spelling x ++ (space ∷ spelling y))),
      length-append (spelling x) (space ∷ spelling y),
    )

pub and_length : (x y : Formula) → length (spelling (and x y)) ≡ 3 + length (spelling x) + length (spelling y)
unfolding bytes
and_length x y = ap length (and_spelled x y) ∙ two_length (bytes "+") x y refl

pub implies_length : (x y : Formula) → length (spelling (implies x y)) ≡ 3 + length (spelling x) + length (spelling y)
unfolding bytes
implies_length x y = ap length (implies_spelled x y) ∙ two_length (bytes ">") x y refl

pub quoted_length : (q : Quotation) (x : Formula) → length (spelling (quoted q x)) ≡ 3 + length q.principal + length (spelling x)
quoted_length q x =
    omega (
      arith,
      ap length (quoted_spelled q x),
      letter_length q.told,
      length-append (letter_of q.told) (space ∷ (q.principal ++ (space ∷ spelling x))),
      length-append q.principal (space ∷ spelling x),
    )

-- The last node of a formula ends where the formula does.
module _ (row : List Node) where
  abbrev EndsAt : Formula → ℕ → Type 0
  EndsAt x i =
      (node_at row (i + nodes x - 1)).place + own_bytes (node_at row (i + nodes x - 1)).what ≡ (node_at row i).place + length (spelling x)

  leaf_ends : (x : Formula) (i : ℕ) → nodes x ≡ 1 → own_bytes x ≡ length (spelling x) → (node_at row i).what ≡ x → EndsAt x i
  leaf_ends x i one own e =
      let here : i + nodes x - 1 ≡ i = omega arith in
      rw (here, e, own)

  -- behind node i stands a node whose formula y ends where the whole one does
  later_ends : (x y : Formula) (i j behind : ℕ) → i + nodes x ≡ j + nodes y → (node_at row j).place ≡ (node_at row i).place + behind
      → length (spelling x) ≡ behind + length (spelling y) → EndsAt y j → EndsAt x i
  later_ends x y i j behind e there len ends =
      let at : i + nodes x - 1 ≡ j + nodes y - 1 = omega arith in
      rw (at, ends, there, len) (omega arith)

  two_end : (operator : Formula → Formula → Formula) → ((x y : Formula) → nodes (operator x y) ≡ suc (nodes x + nodes y))
      → ((x y : Formula) → length (spelling (operator x y)) ≡ 3 + length (spelling x) + length (spelling y))
      → (x y : Formula) (i : ℕ) → node_at row (suc i + nodes x) ≡ part (node_at row i) (3 + length (spelling x)) y
      → EndsAt y (suc i + nodes x) → EndsAt (operator x y) i
  unfolding part
  two_end operator size len x y i right ends =
      later_ends (operator x y) y i (suc i + nodes x) (3 + length (spelling x)) (omega (arith, size x y))
      (ap (λ (n : Node). n.place) right) (len x y) ends

  size_within : (x : Formula) (i : ℕ) → i < count_nodes row → (node_at row i).what ≡ x → i + nodes x ≤ count_nodes row
  size_within x i h e = subst (λ (y : Formula). i + nodes y ≤ count_nodes row) e (node_within row i h)

  pub last_ends : (x : Formula) (i : ℕ) → i < count_nodes row → (node_at row i).what ≡ x → EndsAt x i
  unfolding nodes part inner own_bytes spelling words joined bytes
  last_ends True i h e = leaf_ends True i refl refl e
  last_ends (name a) i h e = leaf_ends (name a) i refl refl e
  last_ends (and x y) i h e =
      let right = and_right row i h x y e in
      let within = size_within (and x y) i h e in
      two_end and (λ a b. refl) and_length x y i right
      (last_ends y (suc i + nodes x) (omega (arith, nodes_positive y)) (ap (λ (n : Node). n.what) right))
  last_ends (implies x y) i h e =
      let right = implies_right row i h x y e in
      let within = size_within (implies x y) i h e in
      two_end implies (λ a b. refl) implies_length x y i right
      (last_ends y (suc i + nodes x) (omega (arith, nodes_positive y)) (ap (λ (n : Node). n.what) right))
  last_ends (quoted q x) i h e =
      let inside = quoted_inner row i h q x e in
      let within = size_within (quoted q x) i h e in
      later_ends (quoted q x) x i (suc i) (3 + length q.principal) (omega arith) (ap (λ (n : Node). n.place) inside) (quoted_length q x)
      (last_ends x (suc i) (omega (arith, nodes_positive x)) (ap (λ (n : Node). n.what) inside))

spelling_positive : (x : Formula) → is_named x ≡ true → 0 < length (spelling x)
unfolding is_named spelling words joined bytes
spelling_positive True h = omega arith
spelling_positive (name a) h = name_positive a h
spelling_positive (and x y) h = omega (arith, and_length x y)
spelling_positive (implies x y) h = omega (arith, implies_length x y)
spelling_positive (quoted q x) h = omega (arith, quoted_length q x)

-- The node table of a file.
module _ (file t : List ℕ) (held : NodesHeld file t) where
  module _ (i : ℕ) (h : i < count_nodes (nodes_of file)) where
    abbrev x : Formula
    x = (node_at (nodes_of file) i).what

    last_below : i + nodes x - 1 < count_nodes (nodes_of file)
    last_below = omega (arith, node_within (nodes_of file) i h, nodes_positive x)

    pub end_positive : 1 ≤ node_cell t node_end i
    end_positive = omega (arith, end_cell file t held i h, nodes_positive x)

    pub last_row : node_cell t node_end i - 1 < 1024
    last_row = omega (arith, end_cell file t held i h, last_below, count_few file t held)

    -- the last node's end is the formula's
    end_place : node_cell t node_place (node_cell t node_end i - 1) + node_cell t node_own (node_cell t node_end i - 1)
        ≡ node_cell t node_place i + length (spelling x)
    end_place =
        rw (end_cell file t held i h, place_cell file t held (i + nodes x - 1) last_below, own_cell file t held (i + nodes x - 1) last_below, place_cell file t held i h)
        (last_ends (nodes_of file) x i h refl)

    -- the same by the cells that are read one after the other
    pub ends_at : {end start place own : ℕ} → end ≡ node_cell t node_end i → start ≡ node_cell t node_place i → place ≡ node_cell t node_place (end - 1)
        → own ≡ node_cell t node_own (end - 1) → place + own ≡ start + length (spelling x)
    ends_at e f g k = rw (g, k, e, f) end_place

    pub text_inside : node_cell t node_place i + length (spelling x) ≤ length file
    text_inside =
        rw (place_cell file t held i h)
        (stands_within file (node_at (nodes_of file) i).place (spelling x) (node_stands file held.formed i h)
        (spelling_positive x (node_named file i h)))

    -- the part of the file from the formula's first byte to the last node's end
    pub text_part : (start end : ℕ) → start ≡ node_cell t node_place i → end ≡ start + length (spelling x) → take (end - start) (drop start file) ≡ spelling x
    text_part start end e f =
        let n : end - start ≡ length (spelling x) = omega arith in
        rw (n, e, place_cell file t held i h) (node_text file held.formed i h)

  -- A quotation node's principal stands two bytes behind its place.
  module _ (a : ℕ) (h : a < count_nodes (nodes_of file)) (q : Quotation) (x : Formula) (e : (node_at (nodes_of file) a).what ≡ quoted q x) where
    quoted_stands : Stands file (node_at (nodes_of file) a).place ((letter_of q.told ++ (space ∷ [])) ++ (q.principal ++ (space ∷ spelling x)))
    quoted_stands =
        subst (Stands file (node_at (nodes_of file) a).place)
        (ap spelling e ∙ quoted_spelled q x
        ∙ sym (append_assoc (letter_of q.told) (space ∷ []) (q.principal ++ (space ∷ spelling x))))
        (node_stands file held.formed a h)

    principal_stands : Stands file ((node_at (nodes_of file) a).place + 2) (q.principal ++ (space ∷ spelling x))
    principal_stands =
        stands_back file (node_at (nodes_of file) a).place (letter_of q.told ++ (space ∷ [])) (q.principal ++ (space ∷ spelling x)) quoted_stands
        ((node_at (nodes_of file) a).place + 2) (omega (arith, length-append (letter_of q.told) (space ∷ []), letter_length q.told))

    principal_named : is_name q.principal ≡ true
    unfolding is_named
    principal_named = (and_parts (is_name q.principal) (is_named x) (sym (ap is_named e) ∙ node_named file a h)).0

    pub principal_text_lem : principal_text file t a ≡ principal_of (node_at (nodes_of file) a).what
    unfolding principal_text principal_of is_break space
    principal_text_lem =
        rw (e, place_cell file t held a h)
        (name_token file ((node_at (nodes_of file) a).place + 2) q.principal space (spelling x ++ principal_stands.0) principal_named refl
        (principal_stands.1 ∙ append_assoc q.principal (space ∷ spelling x) principal_stands.0))

    pub quoting : Quoting file t a
    quoting =
        record {
          row = omega (arith, count_few file t held);
          inside = omega (arith, text_inside a h, quoted_length q x, ap (λ (y : Formula). length (spelling y)) e);
        }

-- Places that show quotation nodes have the principals that the file shows.
places_same : (file t : List ℕ) (row : List Node) (ps qs : List Place)
    → EachPlace (λ (a : ℕ). principal_text file t a ≡ principal_of (node_at row a).what) ps
    → EachPlace (λ (a : ℕ). principal_text file t a ≡ principal_of (node_at row a).what) qs
    → same_places file t ps qs ≡ same_principals (shown row ps) (shown row qs)
unfolding same_places same_principals shown quotation_of
places_same file t row [] [] h k = refl
places_same file t row [] (b ∷ qs) h k = refl
places_same file t row (a ∷ ps) [] h k = refl
places_same file t row (a ∷ ps) (b ∷ qs) h k =
    ap₂ ◌&&◌ (ap₂ alike h.0 k.0) (places_same file t row ps qs h.1 k.1)

module _ (file t : List ℕ) (held : NodesHeld file t) where
  pub all_quoting : (i : ℕ) → i < count_nodes (nodes_of file) → EachPlace (Quoting file t) (used (prefix_at t i))
  all_quoting = places_quoted file t held (Quoting file t) (quoting file t held)

  pub prefixes_same : (i j : ℕ) → i < count_nodes (nodes_of file) → j < count_nodes (nodes_of file)
      → same_places file t (used (prefix_at t i)) (used (prefix_at t j)) ≡ same_principals (node_at (nodes_of file) i).pre (node_at (nodes_of file) j).pre
  prefixes_same i j hi hj =
      let shows = places_quoted file t held (λ (a : ℕ). principal_text file t a ≡ principal_of (node_at (nodes_of file) a).what) (principal_text_lem file t held) in
      places_same file t (nodes_of file) (used (prefix_at t i)) (used (prefix_at t j)) (shows i hi) (shows j hj)
      ∙ ap₂ same_principals (prefix_shown file t held i hi) (prefix_shown file t held j hj)
