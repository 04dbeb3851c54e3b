-- The records along a chain, and those of all formulas: what is left to want as the code goes on.
-- Assumes nothing.
use Prim.Native.Nat.{ℕ, zero, suc, ◌+◌, ◌-◌, ◌≤◌, ◌<◌}
use mathlib.Core.Path.{◌≡◌, sym, ◌∙◌, ap, subst}
use Rattle.std.proofs.lemmas.Bool.{cases_Bool}
use Rattle.std.specs.Prelude.{Option, None, Some}
use mathlib.Core.Logic.{⊎_elim}
use mathlib.Core.Bool.{true, false}
use mathlib.Core.List.{List, [], ◌++◌}
use native.Mathlib.Numerals.{add-one}
use native.Mathlib.Omega.{arith}
use lib.Dec.{ltb}
use borrow.Author.Tests.{eq-eqb, ne_eqb, ltb-true, ltb-false}
use Rattle.infon.specs.declared.Record.{Record}
use Rattle.formulas.specs.Table.{cell}
use Rattle.links.specs.Chains.{FirstFrom, FoundFrom}
use Rattle.ways.proofs.Leads.{place_or}
use Rattle.frontier.specs.Touched.{wanted_all, meeting, along, taking_in, taking_all}
use Rattle.frontier.proofs.Wanting.{all_append}

module _ (t : List ℕ) (column x f n : ℕ) where
  -- the records from a place on
  abbrev along_from : ℕ → List Record
  along_from i = along t column x f i (n - i)

  along_over : (i : ℕ) → n ≤ i → along_from i ≡ []
  unfolding along
  along_over i h = let e : n - i ≡ 0 = omega arith in rw e

  along_here : (i : ℕ) → i < n → cell t column i ≡ x → along_from i ≡ meeting t column f i ++ along_from (suc i)
  unfolding along
  along_here i h here = let e : n - i ≡ suc (n - suc i) = omega arith in rw (e, eq-eqb (cell t column i) x here)

  along_past : (i : ℕ) → i < n → (cell t column i ≡ x → ⊥) → along_from i ≡ along_from (suc i)
  unfolding along
  along_past i h other = let e : n - i ≡ suc (n - suc i) = omega arith in rw (e, ne_eqb (cell t column i) x other)

  skip : (count i : ℕ) → ((j : ℕ) → i ≤ j → j < i + count → j < n → cell t column j ≡ x → ⊥) → along_from i ≡ along_from (i + count)
  skip zero i none = ap along_from (omega arith)
  skip (suc count) i none =
      ⊎_elim
      (λ (h : ltb i n ≡ true).
      let low = ltb-true i n h in
      along_past i low (none i (omega arith) (omega arith) low)
      ∙ (skip count (suc i) (λ j at_least_lem less inside. none j (omega arith) (omega arith) inside) ∙ ap along_from (omega arith)))
      (λ (h : ltb i n ≡ false).
      let high = ltb-false i n h in
      along_over i high ∙ sym (along_over (i + suc count) (omega arith)))
      (cases_Bool (ltb i n))

  -- the records from a place on are those from the next place of the chain on
  to_next : (i place : ℕ) → i ≤ n → FirstFrom t column x n i place → along_from i ≡ along_from place
  to_next i place inside first =
      let up : i ≤ place =
      ⊎_elim (λ (h : ltb place n ≡ true). (first.here (ltb-true place n h)).0)
      (λ (h : ltb place n ≡ false). let high = ltb-false place n h in omega arith) (cases_Bool (ltb place n)) in
      skip (place - i) i (λ j low less h e. first.between j low (omega arith) h e) ∙ ap along_from (omega arith)

  -- A walk along a chain: what is wanted in all is what is wanted so far and what is wanted from here on.
  pub record Meeting (marks cover₀ cover : List ℕ) (at : Option ℕ) : Type 0 where
    pub whole : wanted_all t n marks cover₀ (along t column x f 0 n) ≡ wanted_all t n marks cover (along_from (place_or n at))
    pub here : (g : ℕ) → at ≡ Some g → (g < n) × (cell t column g ≡ x)

  to_found : (i : ℕ) (at : Option ℕ) → i ≤ n → FoundFrom t column x n i at → along_from i ≡ along_from (place_or n at)
  unfolding place_or
  to_found i None inside found = to_next i n inside found
  to_found i (Some place) inside found = to_next i place inside found.1

  found_here : (i : ℕ) (at : Option ℕ) → FoundFrom t column x n i at → (g : ℕ) → at ≡ Some g → (g < n) × (cell t column g ≡ x)
  found_here i at found g e =
      let there = subst (FoundFrom t column x n i) e found in
      (there.0, (there.1.here there.0).1)

  pub meeting_begins : (marks cover : List ℕ) (at : Option ℕ) → FoundFrom t column x n 0 at → Meeting marks cover cover at
  meeting_begins marks cover at found =
      let all : n ≡ n - 0 = omega arith in
      record {
        whole =
            ap (λ (k : ℕ). wanted_all t n marks cover (along t column x f 0 k)) all
            ∙ ap (wanted_all t n marks cover) (to_found 0 at (omega arith) found);
        here = found_here 0 at found;
      }

  pub meeting_turn : (marks cover₀ cover : List ℕ) (was at : Option ℕ) (g : ℕ) {after : List ℕ} → Meeting marks cover₀ cover was → was ≡ Some g
      → FoundFrom t column (cell t column g) n (suc g) at → after ≡ wanted_all t n marks cover (meeting t column f g)
      → Meeting marks cover₀ after at
  unfolding place_or
  meeting_turn marks cover₀ cover was at g {after} meets e found is =
      let here = meets.here g e in
      let next : FoundFrom t column x n (suc g) at = subst (λ (y : ℕ). FoundFrom t column y n (suc g) at) here.1 found in
      let whole : wanted_all t n marks cover₀ (along t column x f 0 n) ≡ wanted_all t n marks cover (along_from g) =
      meets.whole ∙ ap (λ (o : Option ℕ). wanted_all t n marks cover (along_from (place_or n o))) e in
      record {
        whole =
            whole
            ∙ (ap (wanted_all t n marks cover) (along_here g here.0 here.1)
            ∙ (all_append t n marks (meeting t column f g) (along_from (suc g)) cover
            ∙ (ap (λ (c : List ℕ). wanted_all t n marks c (along_from (suc g))) (sym is)
            ∙ ap (wanted_all t n marks after) (to_found (suc g) at (let low = here.0 in omega arith) next))));
        here = found_here (suc g) at next;
      }

  pub meeting_over : (marks cover₀ cover : List ℕ) (was : Option ℕ) → Meeting marks cover₀ cover was → was ≡ None
      → cover ≡ wanted_all t n marks cover₀ (along t column x f 0 n)
  unfolding wanted_all place_or
  meeting_over marks cover₀ cover was meets e =
      let whole : wanted_all t n marks cover₀ (along t column x f 0 n) ≡ wanted_all t n marks cover (along_from n) =
      meets.whole ∙ ap (λ (o : Option ℕ). wanted_all t n marks cover (along_from (place_or n o))) e in
      sym (whole ∙ ap (wanted_all t n marks cover) (along_over n (omega arith)))

-- all formulas, one after the other
module _ (t : List ℕ) (n : ℕ) (marks : List ℕ) where
  pub record Taking (cover₀ cover : List ℕ) (i : ℕ) : Type 0 where
    pub whole : wanted_all t n marks cover₀ (taking_all t n marks 0 n) ≡ wanted_all t n marks cover (taking_all t n marks i (n - i))

  taking_here : (i : ℕ) → i < n → taking_all t n marks i (n - i) ≡ taking_in t n marks i ++ taking_all t n marks (i + 1) (n - (i + 1))
  unfolding taking_all
  taking_here i h =
      let e : n - i ≡ suc (n - suc i) = omega arith in
      rw (e, add-one i)

  pub taking_turn : {cover₀ cover after : List ℕ} {i : ℕ} → Taking cover₀ cover i → i < n
      → after ≡ wanted_all t n marks cover (taking_in t n marks i) → Taking cover₀ after (i + 1)
  taking_turn {cover₀} {cover} {after} {i} taking low e =
      let rest = taking_all t n marks (i + 1) (n - (i + 1)) in
      record {
        whole =
            taking.whole
            ∙ (ap (wanted_all t n marks cover) (taking_here i low)
            ∙ (all_append t n marks (taking_in t n marks i) rest cover ∙ ap (λ (c : List ℕ). wanted_all t n marks c rest) (sym e)));
      }

  pub taking_over : {cover₀ cover : List ℕ} {i : ℕ} → Taking cover₀ cover i → n ≤ i
      → cover ≡ wanted_all t n marks cover₀ (taking_all t n marks 0 n)
  unfolding wanted_all taking_all
  taking_over {cover₀} {cover} {i} taking high =
      let none : n - i ≡ 0 = omega arith in
      sym (taking.whole ∙ rw none)
