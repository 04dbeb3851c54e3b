-- The weaker prefixes of a prefix, by number.
use Rattle.std.specs.Prelude.{ℕ, ◌*◌, ◌%◌, Bool, true, false, cond, List, [], ◌∷◌, eqb}
use Rattle.infon.specs.Formula.{Told, said, put, Formula, True, name, and, implies, quoted}
use Rattle.infon.specs.Listing.{Prefix, wrap}
use Rattle.nodes.specs.Nodes.{Node, node_at}
use Rattle.prefix.specs.Places.{branches, later_bits}

-- a kind as a test, and the kind that weaker prefix number m has at the innermost place
unfoldable pub is_said : Told → Bool
is_said said = true
is_said put = false

unfoldable pub lowered_told : Told → ℕ → Told
lowered_told said m = cond (eqb (m % 2) 0) said put
lowered_told put m = put

unfoldable pub weaker_count : Prefix → ℕ
weaker_count [] = 1
weaker_count (q ∷ outer) = branches (is_said q.told) (weaker_count outer)

unfoldable pub choose : Prefix → ℕ → Prefix
choose [] m = []
choose (q ∷ outer) m = record { told = lowered_told q.told m; principal = q.principal } ∷ choose outer (later_bits (is_said q.told) m)

-- One quotation further in, a said place doubles the number and a put place keeps it.
unfoldable pub inwards : Told → ℕ → ℕ
inwards said m = 2 * m
inwards put m = m

-- "A base is a node that is not a quotation."
unfoldable pub is_base : Formula → Bool
is_base True = true
is_base (name a) = true
is_base (and x y) = true
is_base (implies x y) = true
is_base (quoted q x) = false

-- form number m of a node: its formula under weaker prefix number m
unfoldable pub form_at : List Node → ℕ → ℕ → Formula
form_at row b m = wrap (choose (node_at row b).pre m) (node_at row b).what
