-- 02, M-100, "Show the desk its chain": the records that a recorded query rests on.
use Rattle.std.specs.Prelude.{ℕ, ◌≡◌, Bool, true, false, cond, ◌||◌, List, [], ◌∷◌, ◌++◌, eqb}
use Rattle.infon.specs.declared.Way.{Way}
use Rattle.infon.specs.declared.Way.TheVariants.{Hypothesis, Given, Weaken, Left, Right, Both, Apply, Attach}
use Rattle.infon.specs.declared.Record.{Record}
use Rattle.infon.specs.Bytes.{some_of}
use Rattle.infon.specs.Formula.{Formula}
use Rattle.infon.specs.Journal.{is_for, premises_in}

-- the number is one of the way's premises
unfoldable pub is_premise : ℕ → Way → Bool
is_premise n Hypothesis = false
is_premise n Given = false
is_premise n (Weaken p) = eqb n p
is_premise n (Left p) = eqb n p
is_premise n (Right p) = eqb n p
is_premise n (Both p q) = eqb n p || eqb n q
is_premise n (Apply p q) = eqb n p || eqb n q
is_premise n (Attach p) = eqb n p

-- the number is a premise of one of the records
unfoldable pub is_used : ℕ → List Record → Bool
is_used n row = some_of (λ (r : Record). is_premise n r.way) row

-- "the records that it rests on, in journal order": from the last record to the first, each is taken that is for the formula or is a
-- premise of one that was taken behind it
unfoldable pub reasons : List Formula → Formula → List Record → List Record
reasons fs x [] = []
reasons fs x (r ∷ rest) =
    let behind = reasons fs x rest in
    cond (is_for fs x r || is_used r.formula behind) (r ∷ behind) behind

-- a row within another: some of the other's records, in the same order
pub data Within : List Record → List Record → Type 0 where
  at_end : Within [] []
  taken : (r : Record) (row rest : List Record) → Within row rest → Within (r ∷ row) (r ∷ rest)
  passed : (r : Record) (row rest : List Record) → Within row rest → Within row (r ∷ rest)

-- What 02 says of the row: "in journal order, the query's own last. Every premise of a listed record is listed before it, and every
-- record but the last is a premise of a later listed one."
pub record IsChain (fs : List Formula) (x : Formula) (kept row : List Record) : Type 0 where
  pub journal_order : Within row kept
  pub own_last : (before : List Record) × ((r : Record) × ((row ≡ before ++ (r ∷ [])) × (is_for fs x r ≡ true)))
  pub premises_before : (before after : List Record) (r : Record) → row ≡ before ++ (r ∷ after) → premises_in r.way before ≡ true
  pub each_needed : (before after : List Record) (r next : Record) → row ≡ before ++ (r ∷ (next ∷ after))
      → is_used r.formula (next ∷ after) ≡ true
