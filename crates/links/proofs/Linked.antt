-- What `link` writes are the chains of the three columns: the places of a column are gone through from the last to the first, and
-- at each turn the entries are right for the places gone through.
-- Assumes nothing.
use Prim.Native.Nat.{ℕ, zero, suc, ◌+◌, ◌≤◌, ◌<◌}
use mathlib.Core.Path.{◌≡◌, refl, ◌∙◌, ap, subst}
use mathlib.Core.Logic.{◌⊎◌, inl, ⊎_elim}
use mathlib.Core.Bool.{true, false}
use mathlib.Core.List.{List}
use native.Mathlib.Nat.{eq-or-lt_of_le}
use native.Mathlib.Omega.{arith}
use lib.ListN.{length, get_or, set, length-set}
use lib.Seq.{get_or-set_same, get_or-set_other}
use lib.Dec.{ltb, eqb}
use borrow.Author.Tests.{lt-ltb, le-ltb, ltb-true, ltb-false, eqb-true, eqb-false}
use Rattle.std.proofs.lemmas.Bool.{cases_Bool}
use Rattle.infon.specs.Formula.{Formula}
use Rattle.infon.specs.Rules.{numbered}
use Rattle.formulas.specs.Table.{table_rows, no_number, cell, cell_of, bottom_of, Tabled}
use Rattle.formulas.proofs.Numbers.{number_in_below}
use Rattle.links.specs.declared.Chain.{Chain}
use Rattle.links.specs.declared.Chain.TheVariants as Of
use Rattle.links.specs.Chains.{link_cells, FirstFrom, ChainOf, chain_column, chain_start, shared_at, Searchable, none_first, link_place, link_down, chain_in, linked_in}

-- one place more in front, which holds another number
widen : (t : List ℕ) (column x n i place : ℕ) → FirstFrom t column x n (suc i) place → (cell t column i ≡ x → ⊥)
    → FirstFrom t column x n i place
widen t column x n i place first other =
    record {
      here = λ h. let found = first.here h in (omega arith, found.1);
      between =
          λ j low high inside e.
          ⊎_elim (λ (same : i ≡ j). other (ap (cell t column) same ∙ e))
          (λ (later : i < j). first.between j later high inside e)
          (eq-or-lt_of_le low);
    }

-- a place is the first of the number that stands there
itself : (t : List ℕ) (column n i : ℕ) → FirstFrom t column (cell t column i) n i i
itself t column n i = record { here = λ h. (omega arith, refl); between = λ j low high inside e. omega arith }

-- past the end there is none
nowhere : (t : List ℕ) (column x n : ℕ) → n ≤ 4096 → FirstFrom t column x n n no_number
unfolding no_number
nowhere t column x n few =
    record { here = λ h. absurd (omega arith); between = λ j low high inside e. omega arith }

module _ (t : List ℕ) (column n at : ℕ) (few : n ≤ 4096) where
  -- the entries for the places from i on
  record UpTo (i : ℕ) (links : List ℕ) : Type 0 where
    long : at + 8192 ≤ length links
    first : (x : ℕ) → x < n → FirstFrom t column x n i (get_or links (at + x) 0)
    next : (j : ℕ) → i ≤ j → j < n → cell t column j < n
        → FirstFrom t column (cell t column j) n (suc j) (get_or links (at + 4096 + j) 0)

  -- what linking a place writes
  module _ (i : ℕ) (links : List ℕ) (inside : i < n) (long : at + 8192 ≤ length links) (listed : cell t column i < n) where
    abbrev now : List ℕ
    now = set links (at + 4096 + i) (get_or links (at + cell t column i) 0)

    linked : link_place t column n at i links ≡ set now (at + cell t column i) i
    unfolding link_place
    linked = rw (lt-ltb (cell t column i) n listed)

    first_here : get_or (link_place t column n at i links) (at + cell t column i) 0 ≡ i
    first_here =
        rw linked (get_or-set_same now (at + cell t column i) i 0 (rw length-set (omega arith)))

    first_other : (x : ℕ) → x < n → (cell t column i ≡ x → ⊥) → get_or (link_place t column n at i links) (at + x) 0 ≡ get_or links (at + x) 0
    first_other x h other =
        rw linked
        (get_or-set_other now (at + cell t column i) (at + x) i 0 (λ e. other (omega arith))
        ∙ get_or-set_other links (at + 4096 + i) (at + x) (get_or links (at + cell t column i) 0) 0 (λ e. omega arith))

    next_here : get_or (link_place t column n at i links) (at + 4096 + i) 0 ≡ get_or links (at + cell t column i) 0
    next_here =
        rw linked
        (get_or-set_other now (at + cell t column i) (at + 4096 + i) i 0 (λ e. omega arith)
        ∙ get_or-set_same links (at + 4096 + i) (get_or links (at + cell t column i) 0) 0 (omega arith))

    next_other : (j : ℕ) → i < j → get_or (link_place t column n at i links) (at + 4096 + j) 0 ≡ get_or links (at + 4096 + j) 0
    next_other j h =
        rw linked
        (get_or-set_other now (at + cell t column i) (at + 4096 + j) i 0 (λ e. omega arith)
        ∙ get_or-set_other links (at + 4096 + i) (at + 4096 + j) (get_or links (at + cell t column i) 0) 0 (λ e. omega arith))

    up_linked : UpTo (suc i) links → UpTo i (link_place t column n at i links)
    up_linked up =
        record {
          long = rw linked (rw (length-set, length-set) long);
          first =
              λ x h.
              ⊎_elim
              (λ (same : eqb (cell t column i) x ≡ true).
              let e = eqb-true (cell t column i) x same in
              subst (λ (y : ℕ). FirstFrom t column y n i (get_or (link_place t column n at i links) (at + y) 0)) e
              (rw first_here (itself t column n i)))
              (λ (other : eqb (cell t column i) x ≡ false).
              let ne = eqb-false (cell t column i) x other in
              rw (first_other x h ne) (widen t column x n i (get_or links (at + x) 0) (up.first x h) ne))
              (cases_Bool (eqb (cell t column i) x));
          next =
              λ j low high there.
              ⊎_elim
              (λ (same : i ≡ j).
              subst
              (λ (k : ℕ). FirstFrom t column (cell t column k) n (suc k) (get_or (link_place t column n at i links) (at + 4096 + k) 0))
              same (rw next_here (up.first (cell t column i) listed)))
              (λ (later : i < j). rw (next_other j later) (up.next j later high there))
              (eq-or-lt_of_le low);
        }

  unlinked : (i : ℕ) (links : List ℕ) → n ≤ cell t column i → link_place t column n at i links ≡ links
  unfolding link_place
  unlinked i links h = rw (le-ltb (cell t column i) n h)

  up_unlinked : (i : ℕ) (links : List ℕ) → n ≤ cell t column i → UpTo (suc i) links → UpTo i links
  up_unlinked i links h up =
      record {
        long = up.long;
        first = λ x less. widen t column x n i (get_or links (at + x) 0) (up.first x less) (λ e. omega arith);
        next =
            λ j low high there.
            ⊎_elim
            (λ (same : i ≡ j). absurd (let e = ap (cell t column) same in omega arith))
            (λ (later : i < j). up.next j later high there)
            (eq-or-lt_of_le low);
      }

  up_turn : (i : ℕ) (links : List ℕ) → i < n → UpTo (suc i) links → UpTo i (link_place t column n at i links)
  up_turn i links inside up =
      ⊎_elim
      (λ (h : ltb (cell t column i) n ≡ true). up_linked i links inside up.long (ltb-true (cell t column i) n h) up)
      (λ (h : ltb (cell t column i) n ≡ false).
      let out = ltb-false (cell t column i) n h in
      rw (unlinked i links out) (up_unlinked i links out up))
      (cases_Bool (ltb (cell t column i) n))

  up_down : (i : ℕ) (links : List ℕ) → i ≤ n → UpTo i links → UpTo 0 (link_down t column n at i links)
  unfolding link_down
  up_down zero links h up = up
  up_down (suc i) links h up = up_down i (link_place t column n at i links) (omega arith) (up_turn i links (omega arith) up)

-- the entries outside those of the chains stay as they were
none_length : (at m : ℕ) (links : List ℕ) → length (none_first at m links) ≡ length links
unfolding none_first
none_length at zero links = refl
none_length at (suc m) links = none_length at m (set links (at + m) no_number) ∙ length-set links (at + m) no_number

none_kept : (at m k : ℕ) (links : List ℕ) → ((x : ℕ) → x < m → k ≡ at + x → ⊥) → get_or (none_first at m links) k 0 ≡ get_or links k 0
unfolding none_first
none_kept at zero k links out = refl
none_kept at (suc m) k links out =
    none_kept at m k (set links (at + m) no_number) (λ x h e. out x (omega arith) e)
    ∙ get_or-set_other links (at + m) k no_number 0 (λ e. out m (omega arith) e)

none_first_lem : (at m x : ℕ) (links : List ℕ) → x < m → at + m ≤ length links → get_or (none_first at m links) (at + x) 0 ≡ no_number
unfolding none_first
none_first_lem at zero x links h long = absurd (omega arith)
none_first_lem at (suc m) x links h long =
    ⊎_elim
    (λ (same : suc x ≡ suc m).
    let e : x ≡ m = omega arith in
    rw e
    (none_kept at m (at + m) (set links (at + m) no_number) (λ y less bad. omega arith)
    ∙ get_or-set_same links (at + m) no_number 0 (omega arith)))
    (λ (less : suc x < suc m).
    none_first_lem at m x (set links (at + m) no_number) (omega arith) (rw length-set (omega arith)))
    (eq-or-lt_of_le h)

module _ (t : List ℕ) (column n at : ℕ) (few : n ≤ 4096) where
  Out : ℕ → Type 0
  Out k = (k < at) ⊎ (at + 8192 ≤ k)

  place_kept : (i k : ℕ) (links : List ℕ) → i < n → Out k → get_or (link_place t column n at i links) k 0 ≡ get_or links k 0
  unfolding link_place Out
  place_kept i k links inside out =
      ⊎_elim
      (λ (h : ltb (cell t column i) n ≡ true).
      let less = ltb-true (cell t column i) n h in
      let now : List ℕ = set links (at + 4096 + i) (get_or links (at + cell t column i) 0) in
      rw h
      (get_or-set_other now (at + cell t column i) k i 0
      (λ e. ⊎_elim (λ (low : k < at). omega arith) (λ (high : at + 8192 ≤ k). omega arith) out)
      ∙ get_or-set_other links (at + 4096 + i) k (get_or links (at + cell t column i) 0) 0
      (λ e. ⊎_elim (λ (low : k < at). omega arith) (λ (high : at + 8192 ≤ k). omega arith) out)))
      (λ (h : ltb (cell t column i) n ≡ false). rw h)
      (cases_Bool (ltb (cell t column i) n))

  down_kept : (i k : ℕ) (links : List ℕ) → i ≤ n → Out k → get_or (link_down t column n at i links) k 0 ≡ get_or links k 0
  unfolding link_down
  down_kept zero k links h out = refl
  down_kept (suc i) k links h out =
      down_kept i k (link_place t column n at i links) (omega arith) out ∙ place_kept i k links (omega arith) out

  chain_kept : (k : ℕ) (links : List ℕ) → Out k → get_or (chain_in t column n at links) k 0 ≡ get_or links k 0
  unfolding chain_in Out
  chain_kept k links out =
      down_kept n k (none_first at n links) (omega arith) out
      ∙ none_kept at n k links
      (λ x h e. ⊎_elim (λ (low : k < at). omega arith) (λ (high : at + 8192 ≤ k). omega arith) out)

  place_length : (i : ℕ) (links : List ℕ) → length (link_place t column n at i links) ≡ length links
  unfolding link_place
  place_length i links =
      ⊎_elim (λ (h : ltb (cell t column i) n ≡ true). rw h (simp length-set)) (λ (h : ltb (cell t column i) n ≡ false). rw h)
      (cases_Bool (ltb (cell t column i) n))

  down_length : (i : ℕ) (links : List ℕ) → length (link_down t column n at i links) ≡ length links
  unfolding link_down
  down_length zero links = refl
  down_length (suc i) links = down_length i (link_place t column n at i links) ∙ place_length i links

  chain_length : (links : List ℕ) → length (chain_in t column n at links) ≡ length links
  unfolding chain_in
  chain_length links = down_length n (none_first at n links) ∙ none_length at n links

  -- the chains of one column
  chain_linked : (links : List ℕ) → at + 8192 ≤ length links → ChainOf t column n (chain_in t column n at links) at
  unfolding chain_in
  chain_linked links long =
      let begun : UpTo t column n at few n (none_first at n links) =
      record {
        long = rw none_length long;
        first =
            λ x h. rw (none_first_lem at n x links h (omega arith)) (nowhere t column x n few);
        next = λ j low high there. absurd (omega arith);
      } in
      let done = up_down t column n at few n (none_first at n links) (omega arith) begun in
      record { first = done.first; next = λ i inside there. done.next i (omega arith) inside there }

-- chains stay where their entries do
chain_stays : (t : List ℕ) (column n at : ℕ) (links after : List ℕ) → n ≤ 4096
    → ((k : ℕ) → at ≤ k → k < at + 8192 → get_or after k 0 ≡ get_or links k 0) → ChainOf t column n links at
    → ChainOf t column n after at
chain_stays t column n at links after few kept chain =
    record {
      first = λ x h. rw (kept (at + x) (omega arith) (omega arith)) (chain.first x h);
      next = λ i h there. rw (kept (at + 4096 + i) (omega arith) (omega arith)) (chain.next i h there);
    }

-- what `link` leaves is what the search asks for
pub linked_ready : (t links : List ℕ) (n : ℕ) → n ≤ table_rows → link_cells ≤ length links → ((i : ℕ) → i < n → cell t 4 i < n)
    → Searchable t (linked_in t n links) n
unfolding linked_in Out
linked_ready t links n few long below =
    let one : List ℕ = chain_in t 2 n 0 links in
    let two : List ℕ = chain_in t 3 n 8192 one in
    let three : List ℕ = chain_in t 4 n 16384 two in
    let length_one = chain_length t 2 n 0 few links in
    let length_two = chain_length t 3 n 8192 few one in
    record {
      links_long = rw (chain_length t 4 n 16384 few two, length_two, length_one) long;
      below = below;
      chains =
          λ chain.
          each
          (chain_stays t 2 n 0 one three few
          (λ k low high.
          chain_kept t 4 n 16384 few k two (inl (omega arith)) ∙ chain_kept t 3 n 8192 few k one (inl (omega arith)))
          (chain_linked t 2 n 0 few links (omega arith)))
          (chain_stays t 3 n 8192 two three few
          (λ k low high. chain_kept t 4 n 16384 few k two (inl (omega arith)))
          (chain_linked t 3 n 8192 few one (omega arith)))
          (chain_linked t 4 n 16384 few two (omega arith))
          chain;
    }
  where
    each : {after : List ℕ} → ChainOf t 2 n after 0 → ChainOf t 3 n after 8192 → ChainOf t 4 n after 16384
        → (chain : Chain) → ChainOf t (chain_column chain) n after (chain_start chain)
    each left right bottom Of.Left = left
    each left right bottom Of.Right = right
    each left right bottom Of.Bottom = bottom

-- what f shares with the formulas of a chain is on the list
pub shared_below : {t links : List ℕ} {n f : ℕ} (chain : Chain) → Searchable t links n → f < n → shared_at t chain f < n
shared_below Of.Left ready h = h
shared_below Of.Right ready h = h
shared_below {f = f} Of.Bottom ready h = ready.below f h

-- the bottoms of a list that a table holds are on it
pub bottoms_below : (hyps fs : List Formula) (t : List ℕ) (n : ℕ) → length fs ≡ n → Tabled hyps fs t → (i : ℕ) → i < n
    → cell t 4 i < n
unfolding cell_of
bottoms_below hyps fs t n count tabled i h =
    let inside : i < length fs = omega arith in
    let less = number_in_below fs (bottom_of (numbered fs i)) (tabled.bottoms i inside) in
    let e = tabled.cells 4 i (omega arith) inside in
    omega arith
