-- Document 004, section 4: the Hilbert-type calculus of primal infon logic, over all formulas of any depth, with the rules
-- of 01's table "Eight ways to a record" in its order.
use Rattle.std.specs.Prelude.{ℕ}
use mathlib.Core.List.{List, [], ◌∷◌, ◌++◌, Memᴰ}
use Rattle.infon.specs.Formula.{said, put, Quotation, Formula, True, and, implies, quoted}

-- "pref is any row of quotations, also none": pref x, the outermost quotation first
unfoldable pub under : List Quotation → Formula → Formula
under [] x = x
under (q ∷ pref) x = quoted q (under pref x)

abbrev pub said_by : List ℕ → Quotation
said_by p = record { told = said; principal = p }

abbrev pub put_by : List ℕ → Quotation
put_by p = record { told = put; principal = p }

-- "A weaker prefix has the same principals and `put` at some places where the other has `said`; each prefix also counts as
-- weaker than itself."
pub data Weaker : List Quotation → List Quotation → Type 0 where
  end : Weaker [] []
  unchanged : {weak strong : List Quotation} (q : Quotation) → Weaker weak strong → Weaker (q ∷ weak) (q ∷ strong)
  lowered : {weak strong : List Quotation} (p : List ℕ) → Weaker weak strong → Weaker (put_by p ∷ weak) (said_by p ∷ strong)

-- Derives hyps x: some derivation reaches x from the hypotheses. A derivation is a chain in the paper; here it is the tree of
-- its steps, and the constructors are rules 1 to 8. Its formulas are of any kind, also with names that no file can spell.
pub data Derives (hyps : List Formula) : Formula → Type 0 where
  hypothesis : (x : Formula) → Memᴰ x hyps → Derives hyps x
  given : (pref : List Quotation) → Derives hyps (under pref True)
  weaken : (weak strong : List Quotation) (x : Formula) → Weaker weak strong → Derives hyps (under strong x)
      → Derives hyps (under weak x)
  left : (pref : List Quotation) (x y : Formula) → Derives hyps (under pref (and x y)) → Derives hyps (under pref x)
  right : (pref : List Quotation) (x y : Formula) → Derives hyps (under pref (and x y)) → Derives hyps (under pref y)
  both : (pref : List Quotation) (x y : Formula) → Derives hyps (under pref x) → Derives hyps (under pref y)
      → Derives hyps (under pref (and x y))
  apply : (pref : List Quotation) (x y : Formula) → Derives hyps (under pref x) → Derives hyps (under pref (implies x y))
      → Derives hyps (under pref y)
  attach : (pref : List Quotation) (x y : Formula) → Derives hyps (under pref y) → Derives hyps (under pref (implies x y))

-- the formulas that a derivation passes through; the one that it reaches comes first
unfoldable pub through : {hyps : List Formula} {z : Formula} → Derives hyps z → List Formula
through (hypothesis x m) = x ∷ []
through (given pref) = under pref True ∷ []
through (weaken weak strong x le d) = under weak x ∷ through d
through (left pref x y d) = under pref x ∷ through d
through (right pref x y d) = under pref y ∷ through d
through (both pref x y d e) = under pref (and x y) ∷ (through d ++ through e)
through (apply pref x y d e) = under pref y ∷ (through d ++ through e)
through (attach pref x y d) = under pref (implies x y) ∷ through d
