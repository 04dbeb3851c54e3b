-- One law for each turn of the loops that fill the links.
-- Assumes nothing.
use Prim.Native.Nat.{ℕ, zero, suc, ◌+◌, ◌-◌, ◌≤◌, ◌<◌}
use mathlib.Core.Path.{◌≡◌, refl, ◌∙◌, ap}
use mathlib.Core.List.{List}
use native.Mathlib.Omega.{arith}
use lib.ListN.{get_or, set}
use borrow.Author.Tests.{lt-ltb, le-ltb}
use Rattle.formulas.specs.Table.{no_number, cell}
use Rattle.links.specs.Chains.{none_first, link_place, link_down, chain_in, linked_in}

pub none_turn : (at x : ℕ) (links : List ℕ) → 0 < x
    → none_first at x links ≡ none_first at (x - 1) (set links (at + (x - 1)) 65535)
unfolding none_first no_number
none_turn at zero links h = absurd (omega arith)
none_turn at (suc x) links h = let e : suc x - 1 ≡ x = omega arith in rw e

pub none_over : (at x : ℕ) (links : List ℕ) → x ≤ 0 → none_first at x links ≡ links
unfolding none_first
none_over at zero links h = refl
none_over at (suc x) links h = absurd (omega arith)

pub place_linked : (t : List ℕ) (column n at i : ℕ) (links : List ℕ) {x : ℕ} → x ≡ cell t column i → x < n
    → set (set links (at + 4096 + i) (get_or links (at + x) 0)) (at + x) i ≡ link_place t column n at i links
unfolding link_place
place_linked t column n at i links {x} e h = rw (← e, lt-ltb x n h)

pub place_left : (t : List ℕ) (column n at i : ℕ) (links : List ℕ) {x : ℕ} → x ≡ cell t column i → n ≤ x
    → links ≡ link_place t column n at i links
unfolding link_place
place_left t column n at i links {x} e h = rw (← e, le-ltb x n h)

pub down_turn : (t : List ℕ) (column n at i : ℕ) (links : List ℕ) {after : List ℕ} → 0 < i
    → after ≡ link_place t column n at (i - 1) links → link_down t column n at i links ≡ link_down t column n at (i - 1) after
unfolding link_down
down_turn t column n at zero links h e = absurd (omega arith)
down_turn t column n at (suc i) links h e = let back : suc i - 1 ≡ i = omega arith in rw (e, back)

pub down_over : (t : List ℕ) (column n at i : ℕ) (links : List ℕ) → i ≤ 0 → link_down t column n at i links ≡ links
unfolding link_down
down_over t column n at zero links h = refl
down_over t column n at (suc i) links h = absurd (omega arith)

pub chain_begins : (t : List ℕ) (column n at : ℕ) (links : List ℕ) {after : List ℕ} → after ≡ none_first at n links
    → chain_in t column n at links ≡ link_down t column n at n after
unfolding chain_in
chain_begins t column n at links e = rw e

pub all_linked : (t : List ℕ) (n : ℕ) (links : List ℕ) {one two three : List ℕ} → one ≡ chain_in t 2 n 0 links
    → two ≡ chain_in t 3 n 8192 one → three ≡ chain_in t 4 n 16384 two → three ≡ linked_in t n links
unfolding linked_in
all_linked t n links a b c = c ∙ ap (chain_in t 4 n 16384) (b ∙ ap (chain_in t 3 n 8192) a)
