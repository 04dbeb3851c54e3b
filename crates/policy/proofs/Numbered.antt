-- What the number of a node's kind tells of the kind: a leaf below 2, an operator at 2 and 3, a quotation behind them.
-- Assumes nothing.
use Prim.Native.Nat.{ℕ, zero, suc, ◌≤◌, ◌<◌}
use native.Mathlib.Omega.{arith}
use Rattle.nodes.specs.declared.Kind.{Kind}
use Rattle.nodes.specs.declared.Kind.TheVariants as Of
use Rattle.nodes.specs.Columns.{kind_by}

module _ (P : Kind → Type 0) where
  pub of_leaf : (k : ℕ) → k < 2 → P Of.True → P Of.Name → P (kind_by k)
  of_leaf zero l truth named = truth
  of_leaf (suc zero) l truth named = named
  of_leaf (suc (suc k)) l truth named = absurd (omega arith)

  pub of_parts : (k : ℕ) → 2 ≤ k → k ≤ 3 → P Of.And → P Of.Implies → P (kind_by k)
  of_parts zero l m both implied = absurd (omega arith)
  of_parts (suc zero) l m both implied = absurd (omega arith)
  of_parts (suc (suc zero)) l m both implied = both
  of_parts (suc (suc (suc zero))) l m both implied = implied
  of_parts (suc (suc (suc (suc k)))) l m both implied = absurd (omega arith)

  pub of_quoted : (k : ℕ) → 3 < k → P Of.Said → P Of.Put → P (kind_by k)
  of_quoted zero l said put = absurd (omega arith)
  of_quoted (suc zero) l said put = absurd (omega arith)
  of_quoted (suc (suc zero)) l said put = absurd (omega arith)
  of_quoted (suc (suc (suc zero))) l said put = absurd (omega arith)
  of_quoted (suc (suc (suc (suc zero)))) l said put = said
  of_quoted (suc (suc (suc (suc (suc k))))) l said put = put
