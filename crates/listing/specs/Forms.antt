-- The list while it is made: nodes in their order, the forms of a base in theirs, each found among those listed or put behind them.
use Rattle.std.specs.Prelude.{ℕ, zero, suc, ◌+◌, ◌*◌, ◌≤◌, ◌<◌, ◌≡◌, ◌⊎◌, true, false, cond, List, [], ◌∷◌, length, get_or, eqb}
use Rattle.nodes.specs.Nodes.{node_rows, Node, node_at, count_nodes}
use Rattle.infon.specs.Formula.{Formula}
use Rattle.infon.specs.Listing.{weakened, is_listed, enlist, most_listed}
use Rattle.infon.specs.Rules.{numbered}
use Rattle.formulas.specs.Table.{number_in, put_mask}
use Rattle.prefix.specs.declared.Prefix.{Prefix}
use Rattle.prefix.specs.Places.{Sized, used, weaker_count_of, weaker_at, puts_of}
use Rattle.prefix.specs.Weaker.{weaker_count, choose, is_base, form_at}
use Rattle.twins.specs.Twins.{twin_of}
use Rattle.columns.specs.Columns.{stride}

-- what a node asks to be listed: the forms of a base
unfoldable pub own_forms : Node → List Formula
own_forms n = cond (is_base n.what) (weakened n.pre n.what) []

-- the list behind the first i nodes
unfoldable pub listed_to : List Node → ℕ → List Formula
listed_to row zero = []
listed_to row (suc i) = enlist (listed_to row i) (own_forms (node_at row i))

-- the place of a number in a row of numbers, the row's length where it is not there
unfoldable pub place_in : ℕ → List ℕ → ℕ
place_in x [] = 0
place_in x (y ∷ ys) =
    let later = place_in x ys in
    cond (eqb x y) 0 (suc later)

-- The key of a form: equal keys are equal formulas.
unfoldable pub key_at : List Node → ℕ → ℕ → ℕ
key_at row b m = twin_of row b * stride + put_mask (choose (node_at row b).pre m)

-- form l of a base b
pub record Form (row : List Node) (b l : ℕ) : Type 0 where
  pub below : b < count_nodes row
  pub base : is_base (node_at row b).what ≡ true
  pub less : l < weaker_count (node_at row b).pre

-- formula number k was first listed as a form, which its owner tells, its key is that form's, and no earlier node has the formula
-- among its forms
pub record Owned (row : List Node) (fs : List Formula) (keys owners : List ℕ) (k : ℕ) : Type 0 where
  pub node : ℕ
  pub number : ℕ
  pub form : Form row node number
  pub owner : get_or owners k 0 ≡ node * stride + number
  pub key : get_or keys k 0 ≡ key_at row node number
  pub formula : numbered fs k ≡ form_at row node number
  pub first : (a : ℕ) → a < node → is_listed (numbered fs k) (own_forms (node_at row a)) ≡ false

-- a form is listed, and its number is known
pub record Placed (row : List Node) (fs : List Formula) (cand : List ℕ) (b l : ℕ) : Type 0 where
  pub listed : is_listed (form_at row b l) fs ≡ true
  pub number : get_or cand (b * stride + l) 0 ≡ number_in fs (form_at row b l)

-- The tables hold the list fs of n formulas, the first i nodes and m forms of node i done.
pub record Entered (row : List Node) (i m : ℕ) (fs : List Formula) (cand keys owners : List ℕ) (n : ℕ) : Type 0 where
  pub count : n ≡ length fs
  pub owned : (k : ℕ) → k < n → Owned row fs keys owners k
  pub placed : (b l : ℕ) → Form row b l → (b < i) ⊎ ((b ≡ i) × (l < m)) → Placed row fs cand b l

-- A base of some row of nodes, its prefix by value and its first twin.
pub record BaseOf (row : List Node) (p : Prefix) (twin base : ℕ) : Type 0 where
  pub shallow : (i : ℕ) → i < count_nodes row → length (node_at row i).pre ≤ 4
  pub below : base < count_nodes row
  pub is_base_lem : is_base (node_at row base).what ≡ true
  pub weaker_are : weaker_count_of (used p) ≡ weaker_count (node_at row base).pre
  pub puts_are : (m : ℕ) → puts_of (used (weaker_at p m)) ≡ put_mask (choose (node_at row base).pre m)
  pub twin_is : twin ≡ twin_of row base

-- what is asked where the forms of a base are listed: sizes only
pub record FormsReady (p : Prefix) (twin base count : ℕ) : Type 0 where
  pub sized : Sized p
  pub few_weaker : weaker_count_of (used p) ≤ stride
  pub twin_few : twin < node_rows
  pub base_few : base < node_rows
  pub count_few : count ≤ most_listed

-- whatever the base is of, its forms are listed behind what was listed
abbrev pub FormsEntered : Prefix → ℕ → ℕ → List ℕ → List ℕ → List ℕ → ℕ → List ℕ → List ℕ → List ℕ → ℕ → Type 0
FormsEntered p twin base cand keys owners count cand' keys' owners' r =
    (row : List Node) (fs : List Formula) → BaseOf row p twin base → Entered row base 0 fs cand keys owners count
    → Entered row base (weaker_count (node_at row base).pre) (enlist fs (weakened (node_at row base).pre (node_at row base).what)) cand' keys' owners' r
