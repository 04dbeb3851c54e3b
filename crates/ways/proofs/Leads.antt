-- When a way leads to a formula, said of the cells and the marks; and the walks along a chain.
-- Assumes nothing.
use Prim.Native.Nat.{ℕ, suc, ◌-◌, ◌<◌}
use mathlib.Core.Path.{◌≡◌, sym, ◌∙◌, ap, subst}
use mathlib.Core.Logic.{⊎_elim}
use mathlib.Core.Bool.{Bool, true, false, ◌&&◌}
use mathlib.Core.List.{List, map}
use Rattle.std.proofs.lemmas.Bool.{and_parts, and_from, cases_Bool, false_from_ne_true}
use Rattle.std.specs.Prelude.{Option, None, Some}
use native.Mathlib.Nat.{eq-or-lt_of_le}
use native.Mathlib.Omega.{arith}
use lib.Dec.{ltb, eqb}
use lib.Bits.{bit_and}
use borrow.Author.Tests.{eqb-true, eq-eqb, ltb-true, ltb-false}
use Rattle.infon.specs.declared.Way.{Way}
use Rattle.infon.specs.declared.Way.TheVariants.{Weaken, Left, Right, Both, Apply, Attach}
use Rattle.infon.specs.Journal.{numbers_from}
use Rattle.formulas.specs.Table.{cell}
use Rattle.formulas.specs.Tests.{gives_in, is_marked, premises_marked, leads_to}
use Rattle.links.specs.declared.Chain.{Chain}
use Rattle.links.specs.declared.Chain.TheVariants as Of
use Rattle.links.specs.Chains.{FirstFrom, FoundFrom, chain_column, shared_at}
use Rattle.rules.proofs.Led.{first_failed}
use Rattle.ways.specs.Search.{way_by, least_among}
use Rattle.ways.proofs.Firsts.{found_first, none_first_lem, map_found, map_none}

module _ (t : List ℕ) (n : ℕ) (marks : List ℕ) (f : ℕ) where
  -- rules 6, 7 and 8, taken apart and put together
  pub record Parts (p q : ℕ) (kind whole left right : ℕ) : Type 0 where
    pub first_marked : is_marked n marks p ≡ true
    pub second_marked : is_marked n marks q ≡ true
    pub is_kind : cell t 0 whole ≡ kind
    pub left_is : cell t 2 whole ≡ left
    pub right_is : cell t 3 whole ≡ right

  parts : (p q kind whole left right : ℕ)
      → is_marked n marks p && is_marked n marks q
      && (eqb (cell t 0 whole) kind && eqb (cell t 2 whole) left && eqb (cell t 3 whole) right) ≡ true
      → Parts p q kind whole left right
  parts p q kind whole left right h =
      let both = and_parts (is_marked n marks p && is_marked n marks q) _ h in
      let premises = and_parts (is_marked n marks p) (is_marked n marks q) both.0 in
      let gives = and_parts (eqb (cell t 0 whole) kind && eqb (cell t 2 whole) left) (eqb (cell t 3 whole) right) both.1 in
      let first = and_parts (eqb (cell t 0 whole) kind) (eqb (cell t 2 whole) left) gives.0 in
      record {
        first_marked = premises.0;
        second_marked = premises.1;
        is_kind = eqb-true (cell t 0 whole) kind first.0;
        left_is = eqb-true (cell t 2 whole) left first.1;
        right_is = eqb-true (cell t 3 whole) right gives.1;
      }

  joined_parts : (p q kind whole left right : ℕ) → Parts p q kind whole left right
      → is_marked n marks p && is_marked n marks q
      && (eqb (cell t 0 whole) kind && eqb (cell t 2 whole) left && eqb (cell t 3 whole) right) ≡ true
  joined_parts p q kind whole left right h =
      and_from _ _ (and_from _ _ h.first_marked h.second_marked)
      (and_from _ _ (and_from _ _ (eq-eqb (cell t 0 whole) kind h.is_kind) (eq-eqb (cell t 2 whole) left h.left_is))
      (eq-eqb (cell t 3 whole) right h.right_is))

  pub both_parts : (p q : ℕ) → leads_to t n marks f (Both p q) ≡ true → Parts p q 2 f p q
  unfolding leads_to premises_marked gives_in
  both_parts p q h = parts p q 2 f p q h

  pub both_leads : (p q : ℕ) → Parts p q 2 f p q → leads_to t n marks f (Both p q) ≡ true
  unfolding leads_to premises_marked gives_in
  both_leads p q h = joined_parts p q 2 f p q h

  pub apply_parts : (p q : ℕ) → leads_to t n marks f (Apply p q) ≡ true → Parts p q 3 q p f
  unfolding leads_to premises_marked gives_in
  apply_parts p q h = parts p q 3 q p f h

  pub apply_leads : (p q : ℕ) → Parts p q 3 q p f → leads_to t n marks f (Apply p q) ≡ true
  unfolding leads_to premises_marked gives_in
  apply_leads p q h = joined_parts p q 3 q p f h

  pub attach_parts : (p : ℕ) → leads_to t n marks f (Attach p) ≡ true
      → (is_marked n marks p ≡ true) × ((cell t 0 f ≡ 3) × (cell t 3 f ≡ p))
  unfolding leads_to premises_marked gives_in
  attach_parts p h =
      let both = and_parts (is_marked n marks p) _ h in
      let gives = and_parts (eqb (cell t 0 f) 3) (eqb (cell t 3 f) p) both.1 in
      (both.0, (eqb-true (cell t 0 f) 3 gives.0, eqb-true (cell t 3 f) p gives.1))

  pub attach_leads : (p : ℕ) → is_marked n marks p ≡ true → cell t 0 f ≡ 3 → cell t 3 f ≡ p → leads_to t n marks f (Attach p) ≡ true
  unfolding leads_to premises_marked gives_in
  attach_leads p marked kind right = and_from _ _ marked (and_from _ _ (eq-eqb (cell t 0 f) 3 kind) (eq-eqb (cell t 3 f) p right))

  -- what gives f by the rule that a chain is for shares with f what the chain is for
  pub shares : (chain : Chain) (p : ℕ) → leads_to t n marks f (way_by chain p) ≡ true → cell t (chain_column chain) p ≡ shared_at t chain f
  unfolding leads_to premises_marked gives_in
  shares Of.Left p h =
      let gives = (and_parts (is_marked n marks p) (gives_in t (Left p) f) h).1 in
      eqb-true (cell t 2 p) f (and_parts (eqb (cell t 0 p) 2) (eqb (cell t 2 p) f) gives).1
  shares Of.Right p h =
      let gives = (and_parts (is_marked n marks p) (gives_in t (Right p) f) h).1 in
      eqb-true (cell t 3 p) f (and_parts (eqb (cell t 0 p) 2) (eqb (cell t 3 p) f) gives).1
  shares Of.Bottom p h =
      let gives = (and_parts (is_marked n marks p) (gives_in t (Weaken p) f) h).1 in
      eqb-true (cell t 4 p) (cell t 4 f) (and_parts (eqb (cell t 4 p) (cell t 4 f)) (eqb (bit_and (cell t 1 p) (cell t 1 f)) (cell t 1 p)) gives).0

-- A walk along the places of a column that hold x: what was passed fails the test, and the walk stands at such a place or is over.
pub record Walked (test : ℕ → Bool) (t : List ℕ) (column x n p : ℕ) : Type 0 where
  pub passed : (q : ℕ) → q < p → q < n → test q ≡ false
  pub here : p < n → cell t column p ≡ x

-- the same of a walk that has a place or is over
abbrev pub WalkedTo : (ℕ → Bool) → List ℕ → ℕ → ℕ → ℕ → Option ℕ → Type 0
WalkedTo test t column x n (Some p) = (p < n) × Walked test t column x n p
WalkedTo test t column x n None = Walked test t column x n n

-- how far it has come
unfoldable pub place_or : ℕ → Option ℕ → ℕ
place_or n None = n
place_or n (Some p) = p

-- the next place is further on
pub goes_on : (t : List ℕ) (column x n p after : ℕ) → p < n → FirstFrom t column x n (suc p) after → p < after
goes_on t column x n p after h first =
    ⊎_elim
    (λ (less : ltb after n ≡ true). let found = (first.here (ltb-true after n less)).0 in omega arith)
    (λ (more : ltb after n ≡ false). let out = ltb-false after n more in omega arith)
    (cases_Bool (ltb after n))

module _ (test : ℕ → Bool) (t : List ℕ) (column x n : ℕ) (only : (q : ℕ) → test q ≡ true → cell t column q ≡ x) where
  walk_begins : (p : ℕ) → FirstFrom t column x n 0 p → Walked test t column x n p
  walk_begins p first =
      record {
        passed = λ q less inside. false_from_ne_true (test q) (λ h. first.between q (omega arith) less inside (only q h));
        here = λ h. (first.here h).1;
      }

  walk_goes_on : (p after : ℕ) → Walked test t column x n p → p < n → test p ≡ false → FirstFrom t column x n (suc p) after
      → Walked test t column x n after
  walk_goes_on p after walked h failed first =
      record {
        passed =
            λ q less inside.
            ⊎_elim
            (λ (before : ltb q p ≡ true). walked.passed q (ltb-true q p before) inside)
            (λ (later : ltb q p ≡ false).
            ⊎_elim
            (λ (same : p ≡ q). subst (λ (r : ℕ). test r ≡ false) same failed)
            (λ (more : p < q). false_from_ne_true (test q) (λ e. first.between q more less inside (only q e)))
            (eq-or-lt_of_le (ltb-false q p later)))
            (cases_Bool (ltb q p));
        here = λ inside. (first.here inside).1;
      }

  walk_starts : (at : Option ℕ) → FoundFrom t column x n 0 at → WalkedTo test t column x n at
  walk_starts None found = walk_begins n found
  walk_starts (Some p) found = (found.0, walk_begins p found.1)

  walk_turns : (p : ℕ) (at : Option ℕ) → WalkedTo test t column x n (Some p) → test p ≡ false
      → FoundFrom t column (cell t column p) n (suc p) at → WalkedTo test t column x n at
  walk_turns p None walked failed found =
      walk_goes_on p n walked.1 walked.0 failed
      (subst (λ (y : ℕ). FirstFrom t column y n (suc p) n) (walked.1.here walked.0) found)
  walk_turns p (Some after) walked failed found = (
    found.0,
    walk_goes_on p after walked.1 walked.0 failed
        (subst (λ (y : ℕ). FirstFrom t column y n (suc p) after) (walked.1.here walked.0) found.1),
  )

-- what is left of a chain gets less
pub less_left : (t : List ℕ) (column x n p : ℕ) (was at : Option ℕ) → was ≡ Some p → p < n → FoundFrom t column x n (suc p) at
    → n - place_or n at < n - place_or n was
unfolding place_or
less_left t column x n p was None e h found = rw e (omega arith)
less_left t column x n p was (Some after) e h found = rw e (let far = goes_on t column x n p after h found.1 in omega arith)

-- The walk of rules 3 to 5 along a chain of f.
abbrev pub Along : List ℕ → ℕ → List ℕ → ℕ → Chain → Option ℕ → Type 0
Along t n marks f chain at =
    WalkedTo (λ (q : ℕ). leads_to t n marks f (way_by chain q)) t (chain_column chain) (shared_at t chain f) n at

module _ (t : List ℕ) (n : ℕ) (marks : List ℕ) (f : ℕ) (chain : Chain) where
  pub along_starts : (at : Option ℕ) → FoundFrom t (chain_column chain) (shared_at t chain f) n 0 at → Along t n marks f chain at
  along_starts at found =
      walk_starts (λ (q : ℕ). leads_to t n marks f (way_by chain q)) t (chain_column chain) (shared_at t chain f) n
      (shares t n marks f chain) at found

  pub along_at : {was : Option ℕ} {p : ℕ} → Along t n marks f chain was → was ≡ Some p → Along t n marks f chain (Some p)
  along_at along e = subst (Along t n marks f chain) e along

  pub along_turns : (was at : Option ℕ) (p : ℕ) {r : Bool} → Along t n marks f chain was → was ≡ Some p
      → r ≡ leads_to t n marks f (way_by chain p) → r ≡ false
      → FoundFrom t (chain_column chain) (cell t (chain_column chain) p) n (suc p) at → Along t n marks f chain at
  along_turns was at p along e gives failed found =
      walk_turns (λ (q : ℕ). leads_to t n marks f (way_by chain q)) t (chain_column chain) (shared_at t chain f) n
      (shares t n marks f chain) p at (subst (Along t n marks f chain) e along) (sym gives ∙ failed) found

  -- the way that the walk finds is the least of its rule; where it is over there is none
  pub along_found : (was : Option ℕ) (p : ℕ) {r : Bool} {way : Way} → Along t n marks f chain was → was ≡ Some p
      → r ≡ leads_to t n marks f (way_by chain p) → r ≡ true → way ≡ way_by chain p
      → Some way ≡ least_among (map (way_by chain) (numbers_from 0 n)) t n marks f
  unfolding least_among
  along_found was p along e gives passed way_is =
      let walked = subst (Along t n marks f chain) e along in
      ap (λ (w : Way). Some w) way_is
      ∙ sym
      (map_found (leads_to t n marks f) (way_by chain) (numbers_from 0 n)
      (found_first (λ (q : ℕ). leads_to t n marks f (way_by chain q)) n p walked.0 (sym gives ∙ passed)
      (λ q less. walked.1.passed q less (let inside = walked.0 in omega arith))))

  pub along_over : (was : Option ℕ) → Along t n marks f chain was → was ≡ None
      → None ≡ least_among (map (way_by chain) (numbers_from 0 n)) t n marks f
  unfolding least_among
  along_over was along e =
      let walked = subst (Along t n marks f chain) e along in
      sym
      (map_none (leads_to t n marks f) (way_by chain) (numbers_from 0 n)
      (none_first_lem (λ (q : ℕ). leads_to t n marks f (way_by chain q)) n (λ q inside. walked.passed q inside inside)))

  -- what is not recorded leads nowhere
  pub unrecorded : (p : ℕ) {r : Bool} → r ≡ is_marked n marks p → r ≡ false → r ≡ leads_to t n marks f (way_by chain p)
  unfolding leads_to premises_marked
  unrecorded p {r} e h = each chain
    where
      each : (chain : Chain) → r ≡ premises_marked n marks (way_by chain p) && gives_in t (way_by chain p) f
      each Of.Left = first_failed _ e h
      each Of.Right = first_failed _ e h
      each Of.Bottom = first_failed _ e h
