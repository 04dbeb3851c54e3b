-- Places against quotations: what the places of a prefix by value show, and that the places above a node show its prefix.
-- Assumes nothing.
use Prim.Native.Nat.{ℕ, zero, suc, ◌+◌, ◌*◌, ◌-◌, ◌%◌, ◌^◌, ◌≤◌, ◌<◌}
use native.Mathlib.Omega.{arith}
use mathlib.Core.Path.{◌≡◌, refl, sym, ◌∙◌, ap, ap₂, subst}
use mathlib.Core.Logic.{inl, inr}
use mathlib.Core.Bool.{Bool, true, false, cond, ◌&&◌}
use mathlib.Core.List.{List, [], ◌∷◌, map}
use lib.ListN.{length, drop, replicate, length-append, length-map, length-drop, length-replicate}
use lib.Seq.{take_at, length-take-le}
use lib.Dec.{eqb}
use Rattle.infon.specs.Formula.{Told, said, put, Quotation, Formula, True, name, and, implies, quoted, nodes}
use Rattle.infon.specs.Policy.{entries_of, most_nodes, most_depth}
use Rattle.infon.specs.Listing.{Prefix as Quotations}
use Rattle.formulas.specs.Table.{put_bit, put_mask}
use Rattle.nodes.specs.Nodes.{Node, node_at, count_nodes, kind_of, own_bytes, node_value, nodes_of, roots, node_cell, node_place, node_own, node_end, node_above, node_line, node_depth, node_table, node_kind, NodesHeld}
use Rattle.nodes.proofs.Every.{Linked, node_linked}
use Rattle.nodes.proofs.Codes.{code3_few, code4_roots, shallow_nodes}
use Rattle.prefix.specs.declared.Place.{Place}
use Rattle.prefix.specs.declared.Prefix.{Prefix}
use Rattle.prefix.specs.Places.{Sized, used, EachPlace, blank, place_at, up_from, prefix_at, Climbs, Readable, branches, weaker_count_of, lowered, later_bits, chosen, weaker_at, put_weight, puts_of}
use Rattle.prefix.specs.Weaker.{is_said, lowered_told, weaker_count, choose}

-- What a place shows: its kind, and the principal of its quotation node.
unfoldable pub told_of : Bool → Told
told_of true = said
told_of false = put

unfoldable pub principal_of : Formula → List ℕ
principal_of True = []
principal_of (name a) = []
principal_of (and x y) = []
principal_of (implies x y) = []
principal_of (quoted q x) = q.principal

unfoldable pub quotation_of : List Node → Place → Quotation
quotation_of row q = record { told = told_of q.said; principal = principal_of (node_at row q.node).what }

unfoldable pub shown : List Node → List Place → Quotations
shown row ps = map (quotation_of row) ps

said_back : (b : Bool) → is_said (told_of b) ≡ b
unfolding is_said told_of
said_back true = refl
said_back false = refl

lowered_back : (b : Bool) (m : ℕ) → told_of (b && eqb (m % 2) 0) ≡ lowered_told (told_of b) m
unfolding told_of lowered_told
lowered_back true m = by (eqb (m % 2) 0)
  where
    by : (t : Bool) → told_of t ≡ cond t said put
    by true = refl
    by false = refl
lowered_back false m = refl

weight_back : (b : Bool) (w : ℕ) → put_weight b w ≡ put_bit (told_of b) * w
unfolding put_weight put_bit told_of
weight_back true w = omega arith
weight_back false w = omega arith

module _ (row : List Node) where
  pub shown_length : (ps : List Place) → length (shown row ps) ≡ length ps
  unfolding shown
  shown_length ps = length-map ps (quotation_of row)

  pub shown_weaker : (ps : List Place) → weaker_count_of ps ≡ weaker_count (shown row ps)
  unfolding weaker_count_of weaker_count shown quotation_of
  shown_weaker [] = refl
  shown_weaker (q ∷ outer) = ap₂ branches (sym (said_back q.said)) (shown_weaker outer)

  pub shown_chosen : (ps : List Place) (m : ℕ) → shown row (chosen ps m) ≡ choose (shown row ps) m
  unfolding chosen choose shown quotation_of lowered
  shown_chosen [] m = refl
  shown_chosen (q ∷ outer) m =
      ap₂ (λ (t : Told) (v : Quotations). record { told = t; principal = principal_of (node_at row q.node).what } ∷ v)
      (lowered_back q.said m)
      (shown_chosen outer (later_bits q.said m)
      ∙ ap (λ (b : Bool). choose (shown row outer) (later_bits b m)) (sym (said_back q.said)))

  pub shown_puts : (ps : List Place) → puts_of ps ≡ put_mask (shown row ps)
  unfolding puts_of put_mask shown quotation_of
  shown_puts [] = refl
  shown_puts (q ∷ outer) =
      ap₂ ◌+◌ (shown_puts outer)
      (weight_back q.said (2 ^ length outer) ∙ ap (λ (k : ℕ). put_bit (told_of q.said) * 2 ^ k) (sym (shown_length outer)))

-- a weaker prefix by value
chosen_length : (ps : List Place) (m : ℕ) → length (chosen ps m) ≡ length ps
unfolding chosen
chosen_length [] m = refl
chosen_length (q ∷ outer) m = ap suc (chosen_length outer (later_bits q.said m))

module _ (p : Prefix) (sized : Sized p) (m : ℕ) where
  chosen_count : length (chosen (used p) m) ≡ p.count
  chosen_count = chosen_length (used p) m ∙ length-take-le p.count p.places (omega (arith, sized.few, sized.full))

  pub used_weaker : used (weaker_at p m) ≡ chosen (used p) m
  unfolding weaker_at
  used_weaker = take_at (chosen (used p) m) (drop p.count p.places) p.count chosen_count

  pub weaker_sized : Sized (weaker_at p m)
  unfolding weaker_at
  weaker_sized =
      record {
        few = sized.few;
        full = omega (arith, length-append (chosen (used p) m) (drop p.count p.places), chosen_count, length-drop p.count p.places, sized.few, sized.full);
      }

-- The node table of a file.
module _ (file t : List ℕ) (held : NodesHeld file t) where
  pub count_few : count_nodes (nodes_of file) ≤ 1024
  unfolding nodes_of most_nodes
  count_few = code3_few (entries_of file) held.few

  pub pre_few : (i : ℕ) → i < count_nodes (nodes_of file) → length (node_at (nodes_of file) i).pre ≤ 4
  unfolding nodes_of most_depth
  pre_few i h = shallow_nodes (roots (entries_of file)) (sym (code4_roots (entries_of file)) ∙ held.shallow) i h

  pub linked : (i : ℕ) → i < count_nodes (nodes_of file) → Linked (nodes_of file) i (node_at (nodes_of file) i)
  unfolding nodes_of
  linked i h = node_linked (entries_of file) i h

  pub table_long : length t ≡ node_table
  table_long = held.long

  module _ (i : ℕ) (h : i < count_nodes (nodes_of file)) where
    pub kind_cell : node_cell t node_kind i ≡ kind_of (node_at (nodes_of file) i).what
    unfolding node_value
    kind_cell = held.held.cells node_kind i (omega arith) h

    pub place_cell : node_cell t node_place i ≡ (node_at (nodes_of file) i).place
    unfolding node_value
    place_cell = held.held.cells node_place i (omega arith) h

    pub own_cell : node_cell t node_own i ≡ own_bytes (node_at (nodes_of file) i).what
    unfolding node_value
    own_cell = held.held.cells node_own i (omega arith) h

    pub end_cell : node_cell t node_end i ≡ i + nodes (node_at (nodes_of file) i).what
    unfolding node_value
    end_cell = held.held.cells node_end i (omega arith) h

    pub above_cell : node_cell t node_above i ≡ (node_at (nodes_of file) i).above
    unfolding node_value
    above_cell = held.held.cells node_above i (omega arith) h

    pub line_cell : node_cell t node_line i ≡ (node_at (nodes_of file) i).line
    unfolding node_value
    line_cell = held.held.cells node_line i (omega arith) h

    pub depth_cell : node_cell t node_depth i ≡ length (node_at (nodes_of file) i).pre
    unfolding node_value
    depth_cell = held.held.cells node_depth i (omega arith) h

kind_told : (told : Told) (p : List ℕ) (x : Formula) → told_of (eqb (kind_of (quoted (record { told = told; principal = p }) x)) 4) ≡ told
unfolding kind_of told_of
kind_told said p x = refl
kind_told put p x = refl

-- Up from a node stand the quotations of its prefix.
module _ (file t : List ℕ) (held : NodesHeld file t) where
  -- what one place above shows
  place_shown : (a : ℕ) → a < count_nodes (nodes_of file) → (q : Quotation) (x : Formula) → (node_at (nodes_of file) a).what ≡ quoted q x
      → quotation_of (nodes_of file) (place_at t a) ≡ q
  unfolding quotation_of place_at principal_of
  place_shown a h q x e =
      let kind : node_cell t node_kind a ≡ kind_of (quoted q x) = kind_cell file t held a h ∙ ap kind_of e in
      ap₂ (λ (k : ℕ) (y : Formula). record { told = told_of (eqb k 4); principal = principal_of y }) kind e
      ∙ ap (λ (told : Told). record { told = told; principal = q.principal }) (kind_told q.told q.principal x)

  abbrev Above : Quotations → ℕ → Type 0
  Above pre i =
      Climbs t (length pre) (node_at (nodes_of file) i).above
      × (shown (nodes_of file) (up_from t (length pre) (node_at (nodes_of file) i).above) ≡ pre)

  one_above : (q : Quotation) (outer : Quotations) (i : ℕ) → i < count_nodes (nodes_of file) → (node_at (nodes_of file) i).pre ≡ q ∷ outer
      → ((a : ℕ) → a < count_nodes (nodes_of file) → (node_at (nodes_of file) a).pre ≡ outer → Above outer a)
      → Linked (nodes_of file) i (node_at (nodes_of file) i) → Above (q ∷ outer) i
  unfolding up_from shown
  one_above q outer i h e further (inl top) = absurd (let z : ◌≡◌ {A = ℕ} 0 1 = cc (top.0, e) in omega arith)
  one_above q outer i h e further (inr b) =
      let a = (node_at (nodes_of file) i).above in
      let below : a < count_nodes (nodes_of file) = omega (arith, b.earlier) in
      let first : b.quotation ≡ q = cc (b.prefix, e) in
      let rest : (node_at (nodes_of file) a).pre ≡ outer = cc (b.prefix, e) in
      let more = further a below rest in
      let cell = above_cell file t held a below in (
        (omega (arith, b.earlier, count_few file t held), subst (Climbs t (length outer)) (sym cell) more.0),
        ap₂ (λ (r : Quotation) (v : Quotations). r ∷ v) (place_shown a below b.quotation b.quoting b.there ∙ first)
            (ap (λ (n : ℕ). shown (nodes_of file) (up_from t (length outer) n)) cell ∙ more.1),
      )

  above_shown : (pre : Quotations) (i : ℕ) → i < count_nodes (nodes_of file) → (node_at (nodes_of file) i).pre ≡ pre → Above pre i
  unfolding up_from shown
  above_shown [] i h e = (tt, refl)
  above_shown (q ∷ outer) i h e = one_above q outer i h e (above_shown outer) (linked file t held i h)

  module _ (i : ℕ) (h : i < count_nodes (nodes_of file)) where
    pub readable : Readable t i
    readable =
        record {
          row = omega (arith, count_few file t held);
          few = rw (depth_cell file t held i h) (pre_few file t held i h);
          climbs =
              rw (depth_cell file t held i h, above_cell file t held i h)
              (above_shown (node_at (nodes_of file) i).pre i h refl).0;
        }

    up_length : (k a : ℕ) → length (up_from t k a) ≡ k
    unfolding up_from
    up_length zero a = refl
    up_length (suc k) a = ap suc (up_length k (node_cell t node_above a))

    pub prefix_shown : shown (nodes_of file) (used (prefix_at t i)) ≡ (node_at (nodes_of file) i).pre
    unfolding prefix_at
    prefix_shown =
        let k = node_cell t node_depth i in
        let ups = up_from t k (node_cell t node_above i) in
        ap (shown (nodes_of file)) (take_at ups (replicate (4 - k) blank) k (up_length k (node_cell t node_above i)))
        ∙ ap₂ (λ (n a : ℕ). shown (nodes_of file) (up_from t n a)) (depth_cell file t held i h) (above_cell file t held i h)
        ∙ (above_shown (node_at (nodes_of file) i).pre i h refl).1

    pub prefix_sized : Sized (prefix_at t i)
    unfolding prefix_at
    prefix_sized =
        let k = node_cell t node_depth i in
        let ups = up_from t k (node_cell t node_above i) in
        record {
          few = readable.few;
          full =
              omega (
                arith,
                readable.few,
                up_length k (node_cell t node_above i),
                length-append ups (replicate (4 - k) blank),
                length-replicate {A = Place} (4 - k) blank,
              );
        }

    -- so what is worked out of the places is what the prefix says
    pub node_weaker : weaker_count_of (used (prefix_at t i)) ≡ weaker_count (node_at (nodes_of file) i).pre
    node_weaker = shown_weaker (nodes_of file) (used (prefix_at t i)) ∙ ap weaker_count prefix_shown

    pub node_puts : (m : ℕ) → puts_of (used (weaker_at (prefix_at t i) m)) ≡ put_mask (choose (node_at (nodes_of file) i).pre m)
    node_puts m =
        ap puts_of (used_weaker (prefix_at t i) prefix_sized m)
        ∙ shown_puts (nodes_of file) (chosen (used (prefix_at t i)) m)
        ∙ ap put_mask (shown_chosen (nodes_of file) (used (prefix_at t i)) m ∙ ap (λ (w : Quotations). choose w m) prefix_shown)

  -- The places above a node are quotation nodes.
  module _ (P : ℕ → Type 0)
      (holds : (a : ℕ) → a < count_nodes (nodes_of file) → (q : Quotation) (x : Formula) → (node_at (nodes_of file) a).what ≡ quoted q x → P a) where
    one_quoted : (q : Quotation) (outer : Quotations) (i : ℕ) → i < count_nodes (nodes_of file) → (node_at (nodes_of file) i).pre ≡ q ∷ outer
        → ((a : ℕ) → a < count_nodes (nodes_of file) → (node_at (nodes_of file) a).pre ≡ outer
        → EachPlace P (up_from t (length outer) (node_at (nodes_of file) a).above))
        → Linked (nodes_of file) i (node_at (nodes_of file) i) → EachPlace P (up_from t (suc (length outer)) (node_at (nodes_of file) i).above)
    unfolding up_from place_at
    one_quoted q outer i h e further (inl top) = absurd (let z : ◌≡◌ {A = ℕ} 0 1 = cc (top.0, e) in omega arith)
    one_quoted q outer i h e further (inr b) =
        let a = (node_at (nodes_of file) i).above in
        let below : a < count_nodes (nodes_of file) = omega (arith, b.earlier) in
        let rest : (node_at (nodes_of file) a).pre ≡ outer = cc (b.prefix, e) in (
          holds a below b.quotation b.quoting b.there,
          subst (λ (n : ℕ). EachPlace P (up_from t (length outer) n)) (sym (above_cell file t held a below)) (further a below rest),
        )

    all_quoted : (pre : Quotations) (i : ℕ) → i < count_nodes (nodes_of file) → (node_at (nodes_of file) i).pre ≡ pre
        → EachPlace P (up_from t (length pre) (node_at (nodes_of file) i).above)
    unfolding up_from
    all_quoted [] i h e = tt
    all_quoted (q ∷ outer) i h e = one_quoted q outer i h e (all_quoted outer) (linked file t held i h)

    pub places_quoted : (i : ℕ) → i < count_nodes (nodes_of file) → EachPlace P (used (prefix_at t i))
    unfolding prefix_at
    places_quoted i h =
        let k = node_cell t node_depth i in
        let ups = up_from t k (node_cell t node_above i) in
        rw (take_at ups (replicate (4 - k) blank) k (up_length i h k (node_cell t node_above i)), depth_cell file t held i h, above_cell file t held i h)
        (all_quoted (node_at (nodes_of file) i).pre i h refl)
