use Prim.Native.Nat.{◌+◌, ◌≤◌, ◌-◌}
use mathlib.Core.Path.{◌≡◌}
use lib.ListN.{length, drop}
use Rattle.infon.specs.Formula.{tokens, read_words, formula_of}
use Rattle.std.specs.Prelude.{is_some}
use Rattle.spelling.proofs.Counted.{matches}
use Rattle.spelling.proofs.is_formula.Given as goal

abbrev pub invariant-loop-needed : goal.invariant-loop-needed
invariant-loop-needed l = (l.at ≤ length l.text) × ((l.needed ≤ l.at + 1) × (is_some (formula_of l.text) ≡ matches l.needed (read_words (tokens (drop l.at l.text)))))

abbrev pub decreases-loop-needed : goal.decreases-loop-needed
decreases-loop-needed l = length l.text + 1 - l.at
