-- The chains: for a column of the formula table, the formulas that hold the same number there, from the least on.
use Rattle.std.specs.Prelude.{ℕ, zero, suc, ◌+◌, ◌≤◌, ◌<◌, ◌≡◌, cond, List, length, get_or, set, ltb, Option, None, Some}
use Rattle.formulas.specs.Table.{no_number, table_rows, cell}
use Rattle.formulas.specs.Tests.{left_at, right_at, bottom_at}
use Rattle.links.specs.declared.Chain.{Chain}
use Rattle.links.specs.declared.Chain.TheVariants as Of

-- The chains of a column begin at a place of their own in the links: first 4,096 entries that say, by number, where the number
-- first stands in the column, then 4,096 that say, by place, where what stands there stands next. Three columns have chains.
abbrev pub chain_cells : ℕ
chain_cells = 8192

abbrev pub link_cells : ℕ
link_cells = 24576

abbrev pub first_entry : ℕ → ℕ → ℕ
first_entry at x = at + x

abbrev pub next_entry : ℕ → ℕ → ℕ
next_entry at i = at + table_rows + i

abbrev pub lefts : ℕ
lefts = 0

abbrev pub rights : ℕ
rights = chain_cells

abbrev pub bottoms : ℕ
bottoms = 16384

-- The place is the first from j on, below n, at which the column holds x; a place that is not below n says that there is none.
pub record FirstFrom (t : List ℕ) (column x n j place : ℕ) : Type 0 where
  pub here : place < n → (j ≤ place) × (cell t column place ≡ x)
  pub between : (i : ℕ) → j ≤ i → i < place → i < n → cell t column i ≡ x → ⊥

-- The links hold the chains of one column.
pub record ChainOf (t : List ℕ) (column n : ℕ) (links : List ℕ) (at : ℕ) : Type 0 where
  pub first : (x : ℕ) → x < n → FirstFrom t column x n 0 (get_or links (first_entry at x) 0)
  pub next : (i : ℕ) → i < n → cell t column i < n
      → FirstFrom t column (cell t column i) n (suc i) (get_or links (next_entry at i) 0)

-- The place that stands in an entry: none where it is not below n. And the same of it: the first from j on at which the column holds x.
abbrev pub place_below : ℕ → ℕ → Option ℕ
place_below n place = cond (ltb place n) (Some place) None

abbrev pub FoundFrom : List ℕ → ℕ → ℕ → ℕ → ℕ → Option ℕ → Type 0
FoundFrom t column x n j (Some place) = (place < n) × FirstFrom t column x n j place
FoundFrom t column x n j None = FirstFrom t column x n j n

-- a chain's column, where it begins, and the number of what f shares with its formulas
abbrev pub chain_column : Chain → ℕ
chain_column Of.Left = left_at
chain_column Of.Right = right_at
chain_column Of.Bottom = bottom_at

abbrev pub chain_start : Chain → ℕ
chain_start Of.Left = lefts
chain_start Of.Right = rights
chain_start Of.Bottom = bottoms

abbrev pub shared_at : List ℕ → Chain → ℕ → ℕ
shared_at t Of.Left f = f
shared_at t Of.Right f = f
shared_at t Of.Bottom f = cell t bottom_at f

-- What the search for a way asks of its tables: room, all bottoms on the list, and the three chains.
pub record Searchable (t links : List ℕ) (n : ℕ) : Type 0 where
  pub links_long : link_cells ≤ length links
  pub below : (i : ℕ) → i < n → cell t bottom_at i < n
  pub chains : (chain : Chain) → ChainOf t (chain_column chain) n links (chain_start chain)

-- How the links are filled, from the last place to the first: a place becomes the first of the number that stands there, and
-- what was its first comes next.
unfoldable pub none_first : ℕ → ℕ → List ℕ → List ℕ
none_first at zero links = links
none_first at (suc x) links = none_first at x (set links (first_entry at x) no_number)

unfoldable pub link_place : List ℕ → ℕ → ℕ → ℕ → ℕ → List ℕ → List ℕ
link_place t column n at i links =
    cond (ltb (cell t column i) n)
    (set (set links (next_entry at i) (get_or links (first_entry at (cell t column i)) 0)) (first_entry at (cell t column i)) i)
    links

unfoldable pub link_down : List ℕ → ℕ → ℕ → ℕ → ℕ → List ℕ → List ℕ
link_down t column n at zero links = links
link_down t column n at (suc i) links = link_down t column n at i (link_place t column n at i links)

unfoldable pub chain_in : List ℕ → ℕ → ℕ → ℕ → List ℕ → List ℕ
chain_in t column n at links = link_down t column n at n (none_first at n links)

unfoldable pub linked_in : List ℕ → ℕ → List ℕ → List ℕ
linked_in t n links =
    chain_in t bottom_at n bottoms (chain_in t right_at n rights (chain_in t left_at n lefts links))
