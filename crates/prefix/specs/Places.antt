-- A prefix by value: what its places mean, how many weaker prefixes it has, and which they are.
use Rattle.std.specs.Prelude.{ℕ, zero, suc, ◌+◌, ◌*◌, ◌-◌, ◌/◌, ◌%◌, ◌^◌, ◌≤◌, ◌<◌, ◌≡◌, Bool, true, false, ◌&&◌, List, [], ◌∷◌, ◌++◌, length, take, drop, replicate, eqb}
use Rattle.nodes.specs.Nodes.{node_rows, node_kind, node_above, node_depth, node_cell}
use Rattle.prefix.specs.declared.Place.{Place}
use Rattle.prefix.specs.declared.Prefix.{Prefix}

-- how many places a prefix has at most
abbrev pub most_places : ℕ
most_places = 4

-- what is asked of a prefix: its places are all there, and no more of them are in use
pub record Sized (p : Prefix) : Type 0 where
  pub few : p.count ≤ most_places
  pub full : length p.places ≡ most_places

-- the places that are in use, the innermost first
abbrev pub used : Prefix → List Place
used p = take p.count p.places

-- something holds of the node of every place
abbrev pub EachPlace : (ℕ → Type 0) → List Place → Type 0
EachPlace P [] = Unit {0}
EachPlace P (q ∷ outer) = P q.node × EachPlace P outer

-- a place that is not in use
abbrev pub blank : Place
blank = record { said = false; node = 0 }

-- The quotations above a node in the node table: so many places from a node on, each followed by the one above it.
unfoldable pub place_at : List ℕ → ℕ → Place
place_at t i = record { said = eqb (node_cell t node_kind i) 4; node = i }

unfoldable pub up_from : List ℕ → ℕ → ℕ → List Place
up_from t zero i = []
up_from t (suc k) i = place_at t i ∷ up_from t k (node_cell t node_above i)

unfoldable pub prefix_at : List ℕ → ℕ → Prefix
prefix_at t i =
    record {
      places = up_from t (node_cell t node_depth i) (node_cell t node_above i) ++ replicate (most_places - node_cell t node_depth i) blank;
      count = node_cell t node_depth i;
    }

-- the nodes on that way are rows of the table
abbrev pub Climbs : List ℕ → ℕ → ℕ → Type 0
Climbs t zero i = Unit {0}
Climbs t (suc k) i = (i < node_rows) × Climbs t k (node_cell t node_above i)

-- what is asked of a table to read the prefix of node i off it
pub record Readable (t : List ℕ) (i : ℕ) : Type 0 where
  pub row : i < node_rows
  pub few : node_cell t node_depth i ≤ most_places
  pub climbs : Climbs t (node_cell t node_depth i) (node_cell t node_above i)

-- a place that is said branches, one that is put does not
unfoldable pub branches : Bool → ℕ → ℕ
branches true n = 2 * n
branches false n = n

unfoldable pub weaker_count_of : List Place → ℕ
weaker_count_of [] = 1
weaker_count_of (q ∷ outer) = branches q.said (weaker_count_of outer)

-- Weaker prefix number m: the lowest bit of m is the innermost said place's, and said comes before put.
unfoldable pub lowered : ℕ → Place → Place
lowered m q = record { said = q.said && eqb (m % 2) 0; node = q.node }

unfoldable pub later_bits : Bool → ℕ → ℕ
later_bits true m = m / 2
later_bits false m = m

unfoldable pub chosen : List Place → ℕ → List Place
chosen [] m = []
chosen (q ∷ outer) m = lowered m q ∷ chosen outer (later_bits q.said m)

unfoldable pub weaker_at : Prefix → ℕ → Prefix
weaker_at p m = record { places = chosen (used p) m ++ drop p.count p.places; count = p.count }

-- the put places, a bit each, the outermost place lowest
unfoldable pub put_weight : Bool → ℕ → ℕ
put_weight true w = 0
put_weight false w = w

unfoldable pub puts_of : List Place → ℕ
puts_of [] = 0
puts_of (q ∷ outer) = puts_of outer + put_weight q.said (2 ^ length outer)
