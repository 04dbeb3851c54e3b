-- Which line of a file says a formula as a fact.
use Rattle.std.specs.Prelude.{ℕ, suc, ◌≡◌, Bool, false, cond, List, [], ◌∷◌}
use Rattle.infon.specs.Formula.{Formula, same}
use Rattle.infon.specs.Policy.{Sentence, hypothesis, query, Entry}
use Rattle.nodes.specs.Nodes.{count_nodes, nodes_of}
use Rattle.prefix.specs.Told.{ToldBy}

unfoldable pub is_fact : Formula → Sentence → Bool
is_fact x (hypothesis y) = same x y
is_fact x (query y) = false

-- the first such line, counted from 1; one more than there are lines where none does
unfoldable pub fact_line : Formula → List Entry → ℕ
fact_line x [] = 1
fact_line x (e ∷ rest) =
    let later = fact_line x rest in
    cond (is_fact x e.sentence) 1 (suc later)

-- What is asked: the node table is at hand, and some formula is told by the node and the put places.
pub record Askable (file t : List ℕ) (count b puts : ℕ) : Type 0 where
  pub all : count ≡ count_nodes (nodes_of file)
  pub formula : Formula
  pub told : ToldBy file t b puts formula
