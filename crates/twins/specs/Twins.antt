-- Nodes that are twins: the same formula begins there, under the same principals. Their bases have the same weaker forms but for
-- the kinds of the places.
use Rattle.std.specs.Prelude.{ℕ, zero, suc, ◌+◌, ◌≤◌, ◌<◌, Bool, true, false, cond, ◌&&◌, List, [], ◌∷◌, length}
use Rattle.infon.specs.Bytes.{alike}
use Rattle.infon.specs.Formula.{same}
use Rattle.infon.specs.Listing.{Prefix}
use Rattle.nodes.specs.Nodes.{Node, node_at, node_rows, node_place, node_cell}
use Rattle.prefix.specs.declared.Place.{Place}
use Rattle.spelling.specs.Token.{word_at}

unfoldable pub same_principals : Prefix → Prefix → Bool
same_principals [] [] = true
same_principals [] (r ∷ w) = false
same_principals (q ∷ v) [] = false
same_principals (q ∷ v) (r ∷ w) = alike q.principal r.principal && same_principals v w

unfoldable pub are_twins : Node → Node → Bool
are_twins n o = same n.what o.what && same_principals n.pre o.pre

-- the first number from j on that passes the test, among so many; the one behind them where none does
unfoldable pub first_from : (ℕ → Bool) → ℕ → ℕ → ℕ
first_from test j zero = j
first_from test j (suc k) =
    let later = first_from test (suc j) k in
    cond (test j) j later

-- the first node that node i is a twin of, i itself where no earlier one is
unfoldable pub twin_of : List Node → ℕ → ℕ
twin_of row i = first_from (λ (j : ℕ). are_twins (node_at row i) (node_at row j)) 0 i

-- the principal of a quotation node, as it stands in the file: the token behind its letter and a space
unfoldable pub principal_text : List ℕ → List ℕ → ℕ → List ℕ
principal_text file t a = word_at file (node_cell t node_place a + 2)

unfoldable pub same_places : List ℕ → List ℕ → List Place → List Place → Bool
same_places file t [] [] = true
same_places file t [] (b ∷ qs) = false
same_places file t (a ∷ ps) [] = false
same_places file t (a ∷ ps) (b ∷ qs) =
    alike (principal_text file t a.node) (principal_text file t b.node) && same_places file t ps qs

-- a quotation node whose principal stands inside the file
pub record Quoting (file t : List ℕ) (a : ℕ) : Type 0 where
  pub row : a < node_rows
  pub inside : node_cell t node_place a + 2 ≤ length file
