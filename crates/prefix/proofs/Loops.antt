-- The loops over the places of a prefix, a turn each.
-- Assumes nothing.
use Prim.Native.Nat.{ℕ, zero, suc, ◌+◌, ◌*◌, ◌-◌, ◌^◌, ◌≤◌, ◌<◌}
use native.Mathlib.Nat.{pow-suc, le_trans}
use native.Mathlib.Numerals.{add-one}
use native.Mathlib.Omega.{arith}
use mathlib.Core.Path.{◌≡◌, refl, sym, ◌∙◌, ap, subst}
use mathlib.Core.Bool.{Bool, true, false}
use mathlib.Core.List.{List, [], ◌∷◌, ◌++◌, append_assoc, append-nil}
use lib.ListN.{length, get_or, take, drop, set, replicate, length-set, length-take, length-drop, take-append-drop, drop_of_length-le}
use lib.Dec.{eqb}
use lib.Pow.{pow_mono}
use lib.Seq.{get_or-drop, drop-cons, take-suc-set, drop-set-lt, drop-drop, get_or-take, length-take-le}
use borrow.Author.Tests.{ne_eqb}
use denote.Enum.Bare.{sameb}
use Rattle.nodes.specs.contracts.Kind.{the_type}
use Rattle.nodes.specs.declared.Kind.TheVariants.{Said}
use Rattle.nodes.specs.Columns.{kind_by}
use Rattle.nodes.specs.Nodes.{node_kind, node_above, node_depth, node_cell}
use Rattle.prefix.specs.declared.Place.{Place}
use Rattle.prefix.specs.declared.Prefix.{Prefix}
use Rattle.prefix.specs.Places.{blank, place_at, up_from, prefix_at, Climbs, Readable, branches, weaker_count_of, lowered, later_bits, chosen, put_weight, puts_of}

-- the kind that a cell says is said where the cell says 4
pub said_kind : (n : ℕ) → sameb the_type (kind_by n) Said ≡ eqb n 4
said_kind zero = refl
said_kind (suc zero) = refl
said_kind (suc (suc zero)) = refl
said_kind (suc (suc (suc zero))) = refl
said_kind (suc (suc (suc (suc zero)))) = refl
said_kind (suc (suc (suc (suc (suc n))))) = sym (ne_eqb (suc (suc (suc (suc (suc n))))) 4 (λ e. omega arith))

-- Up from a node: so many places are read, and what is still to be read is known.
pub record Climbed (t : List ℕ) (count : ℕ) (whole places : List Place) (above k : ℕ) : Type 0 where
  pub so_far : k ≤ count
  pub full : length places ≡ 4
  pub ahead : Climbs t (count - k) above
  pub rest : take k places ++ (up_from t (count - k) above ++ replicate (4 - count) blank) ≡ whole
  pub blanks : drop k places ≡ replicate (4 - k) blank

module _ (t : List ℕ) (i : ℕ) (readable : Readable t i) where
  pub climb_begins : {count above : ℕ} → count ≡ node_cell t node_depth i → above ≡ node_cell t node_above i
      → Climbed t count (prefix_at t i).places (replicate 4 blank) above 0
  unfolding prefix_at
  climb_begins depth up =
      let e : node_cell t node_depth i ≡ node_cell t node_depth i - 0 = omega arith in
      rw (depth, up)
      (record {
        so_far = omega arith;
        full = refl;
        ahead = subst (λ (n : ℕ). Climbs t n (node_cell t node_above i)) e readable.climbs;
        rest = rw (← e);
        blanks = refl;
      })

module _ (t : List ℕ) (count : ℕ) (whole places : List Place) (above k : ℕ) (so : Climbed t count whole places above k) where
  climb_places : k < count → count ≤ 4 → take (suc k) (set places k (place_at t above)) ≡ take k places ++ (place_at t above ∷ [])
  climb_places h few = take-suc-set places k (place_at t above) (omega (arith, so.full))

  climb_rest : k < count → count ≤ 4
      → take k places ++ (place_at t above ∷ []) ++ (up_from t (count - (k + 1)) (node_cell t node_above above) ++ replicate (4 - count) blank) ≡ whole
  unfolding up_from
  climb_rest h few =
      let e : count - k ≡ suc (count - (k + 1)) = omega arith in
      append_assoc (take k places) (place_at t above ∷ []) _
      ∙ (ap (λ (n : ℕ). take k places ++ (up_from t n above ++ replicate (4 - count) blank)) (sym e) ∙ so.rest)

  climb_blanks : k < count → count ≤ 4 → drop (k + 1) (set places k (place_at t above)) ≡ replicate (4 - (k + 1)) blank
  climb_blanks h few =
      let e : 4 - k ≡ suc (4 - (k + 1)) = omega arith in
      drop-set-lt (k + 1) places k (place_at t above) (omega arith)
      ∙ sym (drop-drop 1 k places)
      ∙ ap (drop 1) (so.blanks ∙ ap (λ (n : ℕ). replicate n blank) e)

  climb_on : k < count → count ≤ 4 → Climbed t count whole (set places k (place_at t above)) (node_cell t node_above above) (k + 1)
  climb_on h few =
      let e : count - k ≡ suc (count - (k + 1)) = omega arith in
      record {
        so_far = omega arith;
        full = length-set places k (place_at t above) ∙ so.full;
        ahead = (subst (λ (n : ℕ). Climbs t n above) e so.ahead).1;
        rest = rw (add-one k, climb_places h few, ← add-one k) (climb_rest h few);
        blanks = climb_blanks h few;
      }

  pub climb_turn : {is_said : Bool} {next : ℕ} → k < count → count ≤ 4 → is_said ≡ eqb (node_cell t node_kind above) 4
      → next ≡ node_cell t node_above above → Climbed t count whole (set places k (record { said = is_said; node = above })) next (k + 1)
  unfolding place_at
  climb_turn h few is up = rw (is, up) (climb_on h few)

  -- all places are read
  pub climb_over : count ≤ k → places ≡ whole
  unfolding up_from
  climb_over h =
      let e : k ≡ count = omega (arith, so.so_far) in
      let none : count - k ≡ 0 = omega arith in
      sym (take-append-drop k places)
      ∙ ap (λ (s : List Place). take k places ++ s) (so.blanks ∙ ap (λ (n : ℕ). replicate (4 - n) blank) e)
      ∙ ap (λ (n : ℕ). take k places ++ (up_from t n above ++ replicate (4 - count) blank)) (sym none)
      ∙ so.rest

pub same_places_lem : {places whole : List Place} (count : ℕ) → places ≡ whole
    → ◌≡◌ {A = Prefix} (record { places = places; count = count }) (record { places = whole; count = count })
same_places_lem count e = λ i. record { places = e i; count = count }

pub same_prefix : (t : List ℕ) (i : ℕ) {places : List Place} (count : ℕ) → places ≡ (prefix_at t i).places → count ≡ node_cell t node_depth i
    → record { places = places; count = count } ≡ prefix_at t i
unfolding prefix_at
same_prefix t i count e depth = λ j. record { places = e j; count = depth j }

-- From the outermost place inwards: one place more.
module _ (places : List Place) (count k : ℕ) (d : Place) (fits : count ≤ length places) (within : k ≤ count) (more : 0 < k) where
  pub one_more : drop (k - 1) (take count places) ≡ get_or places (k - 1) d ∷ drop k (take count places)
  one_more =
      let e : suc (k - 1) ≡ k = omega arith in
      drop-cons (take count places) (k - 1) d (omega (arith, length-take-le count places fits))
      ∙ ap (λ (n : ℕ). get_or (take count places) (k - 1) d ∷ drop n (take count places)) e
      ∙ ap (λ (q : Place). q ∷ drop k (take count places)) (get_or-take count places (k - 1) d (omega arith))

  pub weaker_count_turn : weaker_count_of (drop (k - 1) (take count places)) ≡ branches (get_or places (k - 1) d).said (weaker_count_of (drop k (take count places)))
  unfolding weaker_count_of
  weaker_count_turn = ap weaker_count_of one_more

  pub puts_turn : puts_of (drop (k - 1) (take count places))
      ≡ puts_of (drop k (take count places)) + put_weight (get_or places (k - 1) d).said (2 ^ length (drop k (take count places)))
  unfolding puts_of
  puts_turn = ap puts_of one_more

  pub weight_turn : 2 ^ length (drop (k - 1) (take count places)) ≡ 2 ^ length (drop k (take count places)) * 2
  weight_turn = ap (λ (s : List Place). 2 ^ length s) one_more ∙ pow-suc 2 (length (drop k (take count places)))

pub nothing_out : (places : List Place) (count : ℕ) → drop count (take count places) ≡ []
nothing_out places count = drop_of_length-le (take count places) {i = count} (rw (length-take count places) (omega arith))

pub weaker_count_begin : (places : List Place) (count : ℕ) → 1 ≡ weaker_count_of (drop count (take count places))
unfolding weaker_count_of
weaker_count_begin places count = rw (nothing_out places count)

pub puts_begin : (places : List Place) (count : ℕ) → 0 ≡ puts_of (drop count (take count places))
unfolding puts_of
puts_begin places count = rw (nothing_out places count)

pub weight_begin : (places : List Place) (count : ℕ) → 1 ≡ 2 ^ length (drop count (take count places))
weight_begin places count = rw (nothing_out places count)

branches_most : (said : Bool) (n k : ℕ) → n ≤ 2 ^ k → branches said n ≤ 2 ^ suc k
unfolding branches
branches_most true n k h = rw (pow-suc 2 k) (omega arith)
branches_most false n k h = rw (pow-suc 2 k) (omega arith)

-- so many places have at most so many weaker prefixes, and so large a mask
pub weaker_count_most : (ps : List Place) → weaker_count_of ps ≤ 2 ^ length ps
unfolding weaker_count_of
weaker_count_most [] = omega arith
weaker_count_most (q ∷ outer) = branches_most q.said (weaker_count_of outer) (length outer) (weaker_count_most outer)

weight_most : (said : Bool) (n k : ℕ) → n < 2 ^ k → n + put_weight said (2 ^ k) < 2 ^ suc k
unfolding put_weight
weight_most true n k h = rw (pow-suc 2 k) (omega arith)
weight_most false n k h = rw (pow-suc 2 k) (omega arith)

pub puts_most : (ps : List Place) → puts_of ps < 2 ^ length ps
unfolding puts_of
puts_most [] = omega arith
puts_most (q ∷ outer) = weight_most q.said (puts_of outer) (length outer) (puts_most outer)

few_powers : (k : ℕ) → k ≤ 4 → 2 ^ k ≤ 16
few_powers k h = pow_mono h

module _ (places : List Place) (count k : ℕ) (few : count ≤ 4) where
  few_left : length (drop k (take count places)) ≤ 4
  few_left = rw (length-drop k (take count places), length-take count places) (omega arith)

  pub weaker_count_few : weaker_count_of (drop k (take count places)) ≤ 16
  weaker_count_few = le_trans (weaker_count_most (drop k (take count places))) (few_powers _ few_left)

  pub puts_few : puts_of (drop k (take count places)) < 16
  puts_few = le_trans (puts_most (drop k (take count places))) (few_powers _ few_left)

  pub weight_few : 2 ^ length (drop k (take count places)) ≤ 16
  weight_few = few_powers _ few_left

-- The places of a weaker prefix, from the innermost outwards.
pub record Lowered (count m : ℕ) (first places : List Place) (left k : ℕ) : Type 0 where
  pub so_far : k ≤ count
  pub size : length places ≡ length first
  pub later : drop k places ≡ drop k first
  pub rest : take k places ++ chosen (drop k (take count first)) left ≡ chosen (take count first) m

module _ (count m : ℕ) (first places : List Place) (left k : ℕ) (fits : count ≤ length first) (so : Lowered count m first places left k) where
  module _ (d : Place) (h : k < count) where
    here : get_or places k d ≡ get_or first k d
    here =
        let e : k ≡ k + 0 = omega arith in
        ap (λ (n : ℕ). get_or places n d) e ∙ sym (get_or-drop k places 0 d) ∙ ap (λ (s : List Place). get_or s 0 d) so.later
        ∙ get_or-drop k first 0 d ∙ ap (λ (n : ℕ). get_or first n d) (sym e)

    ahead : drop k (take count first) ≡ get_or places k d ∷ drop (k + 1) (take count first)
    ahead =
        drop-cons (take count first) k d (omega (arith, length-take-le count first fits))
        ∙ ap (λ (n : ℕ). get_or (take count first) k d ∷ drop n (take count first)) (sym (add-one k))
        ∙ ap (λ (q : Place). q ∷ drop (k + 1) (take count first)) (get_or-take count first k d h ∙ sym here)

    pub lower_turn : Lowered count m first (set places k (lowered left (get_or places k d))) (later_bits (get_or places k d).said left) (k + 1)
    unfolding chosen
    lower_turn =
        let q = get_or places k d in
        record {
          so_far = omega arith;
          size = length-set places k (lowered left q) ∙ so.size;
          later =
              drop-set-lt (k + 1) places k (lowered left q) (omega arith)
              ∙ sym (drop-drop 1 k places) ∙ ap (drop 1) so.later ∙ drop-drop 1 k first;
          rest =
              rw (add-one k, take-suc-set places k (lowered left q) (omega (arith, so.size)), ← add-one k)
              (append_assoc (take k places) (lowered left q ∷ []) _
              ∙ ap (λ (s : List Place). take k places ++ chosen s left) (sym ahead)
              ∙ so.rest);
        }

  pub lower_over : count ≤ k → places ≡ chosen (take count first) m ++ drop count first
  unfolding chosen
  lower_over h =
      let e : k ≡ count = omega (arith, so.so_far) in
      let all : take k places ≡ chosen (take count first) m =
      sym (append-nil (take k places))
      ∙ ap (λ (s : List Place). take k places ++ chosen s left) (sym (ap (λ (n : ℕ). drop n (take count first)) e ∙ nothing_out first count))
      ∙ so.rest in
      sym (take-append-drop k places) ∙ ap (λ (s : List Place). s ++ drop k places) all
      ∙ ap (λ (s : List Place). chosen (take count first) m ++ s) (so.later ∙ ap (λ (n : ℕ). drop n first) e)

weight_at_most : (said : Bool) (w : ℕ) → put_weight said w ≤ w
unfolding put_weight
weight_at_most true w = omega arith
weight_at_most false w = omega arith

pub weight_bound : (said : Bool) (w r : ℕ) → r ≡ put_weight said w → r ≤ w
weight_bound said w r e = rw e (weight_at_most said w)
