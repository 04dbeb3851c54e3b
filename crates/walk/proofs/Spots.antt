-- The walk from node to node through a well-formed file: what is parsed at a node's place is that node, and the byte behind its
-- own bytes says where the next one is.
-- Assumes nothing.
use Prim.Native.Nat.{ℕ, suc, ◌+◌, ◌≤◌, ◌<◌}
use native.Mathlib.Nat.{add-zero}
use native.Mathlib.Numerals.{add-one}
use native.Mathlib.Decide.{dec_lt}
use native.Mathlib.Omega.{arith}
use mathlib.Core.Path.{◌≡◌, refl, sym, ◌∙◌, ap, subst}
use mathlib.Core.Logic.{inl, inr}
use mathlib.Core.Bool.{true, false, ◌&&◌, not}
use mathlib.Core.List.{List, [], ◌∷◌, ◌++◌, append_assoc}
use lib.ListN.{length, get_or, drop, get_or-eq_default}
use lib.Seq.{drop-drop, get_or-drop}
use lib.Dec.{leb, eqb}
use borrow.Author.Tests.{leb-true, lt-ltb, le-ltb, eq-eqb, ne_eqb}
use Rattle.std.proofs.lemmas.Bool.{and_parts, and_from, or_parts}
use Rattle.infon.specs.Bytes.{bytes, space, line_feed, alike, every}
use Rattle.infon.specs.Formula.{Told, said, put, Formula, True, name, and, implies, quoted, is_name_byte, is_name, is_named, letter_of, words, joined, spelling}
use Rattle.infon.specs.Codes.{when, passed, refused}
use Rattle.infon.specs.Policy.{entries_of, code2, most_nodes, code3}
use Rattle.infon.proofs.Words.{lacks}
use Rattle.infon.proofs.Readable.{unlike_name}
use Rattle.nodes.specs.Nodes.{Node, kind_of, after, node_at, count_nodes, own_bytes, nodes_of}
use Rattle.nodes.proofs.Order.{node_first, node_step, after_none}
use Rattle.nodes.proofs.Every.{node_named}
use Rattle.nodes.proofs.Codes.{code3_node}
use Rattle.nodes.proofs.Spelled.{and_spelled, implies_spelled, quoted_spelled, Chain, Behind, GoesOn, chain_goes_on, file_chain}
use Rattle.spelling.specs.declared.Parsed.{Parsed}
use Rattle.spelling.specs.Token.{is_break, word_at}
use Rattle.spelling.specs.Parsing.{quotation_at, parsed_at, behind_own, kind_parsed}
use Rattle.spelling.proofs.Breaks.{parsed_none}
use Rattle.spelling.proofs.Counted.{is_said}
use Rattle.spelling.specs.declared.Parsed.TheVariants as Read
use Rattle.nodes.specs.Columns.{number_of}
use Rattle.std.specs.Prelude.{Bool, Option, None, Some}
use Rattle.std.proofs.lemmas.Option.{same_Some, none-some}
use Rattle.spelling.proofs.Tokenised.{token_cut, name_token}
use Rattle.walk.specs.declared.Spot.{Spot}
use Rattle.walk.specs.Walking.{next_spot}

-- What is parsed where a formula stands, with a break behind it.
abbrev pub parsed_of : ℕ → Formula → Parsed
parsed_of at True = Read.True
parsed_of at (name a) = Read.Name (at + length a)
parsed_of at (and x y) = Read.And
parsed_of at (implies x y) = Read.Implies
parsed_of at (quoted q x) = Read.Quoted (is_said q.told) (at + 1 + 1) (at + 1 + 1 + length q.principal)

own_parsed : (at : ℕ) (x : Formula) → behind_own at (parsed_of at x) ≡ at + own_bytes x
unfolding own_bytes
own_parsed at True = refl
own_parsed at (name a) = refl
own_parsed at (and x y) = refl
own_parsed at (implies x y) = refl
own_parsed at (quoted q x) = omega arith

quoted_number : (told : Told) (principal : List ℕ) (x : Formula) (start end : ℕ)
    → number_of (kind_parsed (Read.Quoted (is_said told) start end)) ≡ kind_of (quoted (record { told = told; principal = principal }) x)
unfolding kind_of
quoted_number said principal x start end = refl
quoted_number put principal x start end = refl

number_parsed : (at : ℕ) (x : Formula) → number_of (kind_parsed (parsed_of at x)) ≡ kind_of x
unfolding kind_of
number_parsed at True = refl
number_parsed at (name a) = refl
number_parsed at (and x y) = refl
number_parsed at (implies x y) = refl
number_parsed at (quoted q x) = quoted_number q.told q.principal x (at + 1 + 1) (at + 1 + 1 + length q.principal)

module _ (file : List ℕ) (at : ℕ) where
  letter_token : (letter : ℕ) (b : ℕ) (rest : List ℕ) → is_break letter ≡ false → is_break b ≡ true → drop at file ≡ letter ∷ (b ∷ rest)
      → word_at file at ≡ letter ∷ []
  unfolding is_break lacks every
  letter_token letter b rest plain broken h =
      let apart = or_parts (eqb letter space) (eqb letter line_feed) plain in
      token_cut file at (letter ∷ []) b rest h (and_from _ _ (ap not apart.0) refl) (and_from _ _ (ap not apart.1) refl) broken

  parsed_name : (a : List ℕ) → is_name a ≡ true → word_at file at ≡ a → parsed_at file at ≡ Some (Read.Name (at + length a))
  unfolding parsed_at is_name is_name_byte every bytes
  parsed_name a named e =
      rw (
        e,
        unlike_name a (84 ∷ []) named refl,
        unlike_name a (43 ∷ []) named refl,
        unlike_name a (62 ∷ []) named refl,
        unlike_name a (83 ∷ []) named refl,
        unlike_name a (80 ∷ []) named refl,
        named,
      )

  -- one byte further
  byte_there : (a : ℕ) (s : List ℕ) → drop at file ≡ a ∷ s → get_or file at 0 ≡ a
  byte_there a s h = ap (λ j. get_or file j 0) (sym (add-zero at)) ∙ sym (get_or-drop at file 0 0) ∙ ap (λ t. get_or t 0 0) h

  byte_passed : (a : ℕ) (s : List ℕ) → drop at file ≡ a ∷ s → drop (at + 1) file ≡ s
  byte_passed a s h = sym (drop-drop 1 at file) ∙ ap (drop 1) h

is_space : is_break space ≡ true
unfolding is_break space
is_space = refl

module _ (file : List ℕ) (at : ℕ) where
  quoted_parsed : (s : Bool) (p rest : List ℕ) → is_name p ≡ true → drop (at + 1) file ≡ space ∷ (p ++ (space ∷ rest))
      → quotation_at s file (at + 1) ≡ Some (Read.Quoted s (at + 1 + 1) (at + 1 + 1 + length p))
  unfolding quotation_at space
  quoted_parsed s p rest named h =
      rw (
        byte_there file (at + 1) space (p ++ (space ∷ rest)) h,
        name_token file (at + 1 + 1) p space rest named is_space (byte_passed file (at + 1) space (p ++ (space ∷ rest)) h),
        named,
      )

  letter_parsed : (told : Told) (p rest : List ℕ) → is_name p ≡ true → drop at file ≡ letter_of told ++ (space ∷ (p ++ (space ∷ rest)))
      → parsed_at file at ≡ Some (Read.Quoted (is_said told) (at + 1 + 1) (at + 1 + 1 + length p))
  unfolding parsed_at letter_of bytes is_break space line_feed alike
  letter_parsed said p rest named h =
      rw (letter_token file at 83 space (p ++ (space ∷ rest)) refl refl h)
      (quoted_parsed true p rest named (byte_passed file at 83 (space ∷ (p ++ (space ∷ rest))) h))
  letter_parsed put p rest named h =
      rw (letter_token file at 80 space (p ++ (space ∷ rest)) refl refl h)
      (quoted_parsed false p rest named (byte_passed file at 80 (space ∷ (p ++ (space ∷ rest))) h))

  pub parsed_formula : (x : Formula) (b : ℕ) (rest : List ℕ) → is_named x ≡ true → is_break b ≡ true → drop at file ≡ spelling x ++ (b ∷ rest)
      → parsed_at file at ≡ Some (parsed_of at x)
  unfolding parsed_at spelling words joined bytes is_break space line_feed alike is_named kind_of own_bytes
  parsed_formula True b rest named broken h = rw (letter_token file at 84 b rest refl broken h)
  parsed_formula (name a) b rest named broken h = parsed_name file at a named (name_token file at a b rest named broken h)
  parsed_formula (and x y) b rest named broken h =
      let tail = (spelling x ++ (space ∷ spelling y)) ++ (b ∷ rest) in
      rw (letter_token file at 43 space tail refl refl (h ∙ ap (λ t. t ++ (b ∷ rest)) (and_spelled x y)))
  parsed_formula (implies x y) b rest named broken h =
      let tail = (spelling x ++ (space ∷ spelling y)) ++ (b ∷ rest) in
      rw (letter_token file at 62 space tail refl refl (h ∙ ap (λ t. t ++ (b ∷ rest)) (implies_spelled x y)))
  parsed_formula (quoted q x) b rest named broken h =
      let both = and_parts (is_name q.principal) (is_named x) named in
      letter_parsed q.told q.principal (spelling x ++ (b ∷ rest)) both.0
      (h ∙ ap (λ t. t ++ (b ∷ rest)) (quoted_spelled q x)
      ∙ append_assoc (letter_of q.told) (space ∷ (q.principal ++ (space ∷ spelling x))) (b ∷ rest)
      ∙ ap (λ t. letter_of q.told ++ (space ∷ t)) (append_assoc q.principal (space ∷ spelling x) (b ∷ rest)))

own_positive : (x : Formula) → is_named x ≡ true → 0 < own_bytes x
unfolding own_bytes is_named is_name
own_positive True h = omega arith
own_positive (name a) h =
    leb-true 1 (length a) (and_parts (leb 1 (length a)) (leb (length a) 16) (and_parts (leb 1 (length a) && leb (length a) 16) (every is_name_byte a) h).0).0
own_positive (and x y) h = omega arith
own_positive (implies x y) h = omega arith
own_positive (quoted q x) h = omega arith

byte_within : (file : List ℕ) (i : ℕ) → (get_or file i 0 ≡ 0 → ⊥) → i < length file
byte_within file i h = by_place (dec_lt i (length file))
  where
    by_place : Dec (i < length file) → i < length file
    by_place (yes k) = k
    by_place (no k) = absurd (h (get_or-eq_default file 0 {n = i} (omega arith)))

-- behind a text of a chain stands a break
behind_break : (file : List ℕ) (at line : ℕ) (text : List ℕ) (row : List Node) → Behind file at line text row
    → (b : ℕ) × ((rest : List ℕ) × ((is_break b ≡ true) × (drop at file ≡ text ++ (b ∷ rest))))
unfolding is_break space line_feed
behind_break file at line text row (inl h) = (space, (h.0.0, (refl, h.0.1 ∙ append_assoc text (space ∷ []) h.0.0)))
behind_break file at line text row (inr h) = (line_feed, (h.0.0, (refl, h.0.1 ∙ append_assoc text (line_feed ∷ []) h.0.0)))

-- a chain goes on where the next spot is
goes_on_spot : (file : List ℕ) (at line own : ℕ) (row : List Node) → GoesOn file at line own row
    → (at + own < length file) × Chain file (next_spot file (at + own) line).at (next_spot file (at + own) line).line row
unfolding next_spot space line_feed
goes_on_spot file at line own row (inl h) = (
  byte_within file (at + own) (omega (arith, h.0)),
  rw (eq-eqb (get_or file (at + own) 0) 32 h.0) h.1,
)
goes_on_spot file at line own row (inr h) = (
  byte_within file (at + own) (omega (arith, h.0)),
  rw (ne_eqb (get_or file (at + own) 0) 32 (omega (arith, h.0))) h.1,
)

-- The walk begins at the third byte.
pub walk_begin : (file : List ℕ) → code2 file ≡ passed → Chain file 2 0 (after 0 0 (nodes_of file))
unfolding after
walk_begin file formed = file_chain file formed

-- One turn of the walk.
module _ (file : List ℕ) (at line i : ℕ) (few : i ≤ count_nodes (nodes_of file)) (chain : Chain file at line (after 0 i (nodes_of file))) where
  abbrev node : Node
  node = node_at (nodes_of file) i

  at_node : i < count_nodes (nodes_of file) → Chain file at line (node ∷ drop 1 (after 0 i (nodes_of file)))
  at_node h = subst (Chain file at line) (node_first (nodes_of file) i h) chain

  walk_parsed : i < count_nodes (nodes_of file) → parsed_at file at ≡ Some (parsed_of at node.what)
  walk_parsed h =
      let stop = behind_break file at line (spelling node.what) (drop 1 (after 0 i (nodes_of file))) (at_node h).1.1 in
      parsed_formula file at node.what stop.0 stop.1.0 (node_named file i h) stop.1.1.0 stop.1.1.1

  pub walk_over : (o : Option Parsed) → o ≡ parsed_at file at → o ≡ None → i ≡ count_nodes (nodes_of file)
  walk_over o e none = by_count (dec_lt i (count_nodes (nodes_of file)))
    where
      by_count : Dec (i < count_nodes (nodes_of file)) → i ≡ count_nodes (nodes_of file)
      by_count (yes h) = absurd (none-some _ (sym none ∙ e ∙ walk_parsed h))
      by_count (no h) = omega arith

  module _ (o : Option Parsed) (p : Parsed) (e : o ≡ parsed_at file at) (is : o ≡ Some p) where
    pub walk_inside : at < length file
    walk_inside = by_place (dec_lt at (length file))
      where
        by_place : Dec (at < length file) → at < length file
        by_place (yes h) = h
        by_place (no h) = absurd (none-some _ (sym (parsed_none file at (omega arith)) ∙ sym e ∙ is))

    pub walk_here : i < count_nodes (nodes_of file)
    walk_here = by_count (dec_lt i (count_nodes (nodes_of file)))
      where
        by_count : Dec (i < count_nodes (nodes_of file)) → i < count_nodes (nodes_of file)
        by_count (yes h) = h
        by_count (no h) =
            let ended : Chain file at line [] = subst (Chain file at line) (after_none 0 i (nodes_of file) (omega arith)) chain in
            absurd (omega (arith, walk_inside))

    pub walk_place : node.place ≡ at
    walk_place = (at_node walk_here).0

    pub walk_line : node.line ≡ line
    walk_line = (at_node walk_here).1.0

    same_node : parsed_of at node.what ≡ p
    same_node = same_Some _ _ (sym (walk_parsed walk_here) ∙ sym e ∙ is)

    pub walk_kind : number_of (kind_parsed p) ≡ kind_of node.what
    walk_kind = rw (← same_node) (number_parsed at node.what)

    pub walk_end : at + own_bytes node.what ≡ behind_own at p
    walk_end = sym (own_parsed at node.what) ∙ ap (behind_own at) same_node

    pub walk_forward : 0 < own_bytes node.what
    walk_forward = own_positive node.what (node_named file i walk_here)

    module _ (end : ℕ) (f : end ≡ behind_own at p) where
      goes_on : (end < length file) × Chain file (next_spot file end line).at (next_spot file end line).line (after 0 (suc i) (nodes_of file))
      goes_on =
          let rest = drop 1 (after 0 i (nodes_of file)) in
          subst (λ k. (k < length file) × Chain file (next_spot file k line).at (next_spot file k line).line (after 0 (suc i) (nodes_of file))) (walk_end ∙ sym f)
          (goes_on_spot file at line (own_bytes node.what) (after 0 (suc i) (nodes_of file))
          (subst (GoesOn file at line (own_bytes node.what)) (sym (node_step (nodes_of file) i walk_here))
          (chain_goes_on file at line rest i node (at_node walk_here))))

      pub walk_within : end < length file
      walk_within = goes_on.0

      pub walk_on : (s : Spot) → s ≡ next_spot file end line → Chain file s.at s.line (after 0 (i + 1) (nodes_of file))
      walk_on s same = rw (add-one i) (subst (λ (t : Spot). Chain file t.at t.line (after 0 (suc i) (nodes_of file))) (sym same) goes_on.1)

    -- code 3 at the node after the last that is allowed
    pub many_nodes : i ≡ most_nodes → code3 (entries_of file) ≡ refused 3 line
    unfolding nodes_of when
    many_nodes most =
        code3_node (entries_of file)
        ∙ rw (lt-ltb most_nodes (count_nodes (nodes_of file)) (omega (arith, walk_here)), ← most, walk_line)

  pub few_nodes : i ≤ most_nodes → (o : Option Parsed) → o ≡ parsed_at file at → o ≡ None → code3 (entries_of file) ≡ passed
  unfolding nodes_of when
  few_nodes most o e none = code3_node (entries_of file) ∙ rw (le-ltb most_nodes (count_nodes (nodes_of file)) (omega (arith, walk_over o e none)))
