-- Document 004, section 4: components, and the formulas that are local. 01 says of its list: "The result is the local formulas of
-- document 004". Of prefixes the paper writes pref1 ≤ pref2 "if pref1 is the result of replacing some (possibly none)
-- occurrences of said in pref2 with put"; this is `Weaker pref1 pref2`.
use mathlib.Core.List.{List, Memᴰ}
use Rattle.infon.specs.Formula.{Quotation, Formula, and, implies}
use Rattle.infon.specs.Calculus.{under, Weaker}

-- "Given a formula z, we define the components of z as follows: (i) z is a component, and (ii) if pref(x + y) is a component or
-- if pref(x → y) is a component, then pref x and pref y are components."
pub data Component (z : Formula) : Formula → Type 0 where
  itself : Component z z
  and_left : (pref : List Quotation) (x y : Formula) → Component z (under pref (and x y)) → Component z (under pref x)
  and_right : (pref : List Quotation) (x y : Formula) → Component z (under pref (and x y)) → Component z (under pref y)
  implies_left : (pref : List Quotation) (x y : Formula) → Component z (under pref (implies x y)) → Component z (under pref x)
  implies_right : (pref : List Quotation) (x y : Formula) → Component z (under pref (implies x y)) → Component z (under pref y)

-- "A formula pref1 x is dominated by a formula pref2 x if pref1 ≤ pref2."
pub data Dominated : Formula → Formula → Type 0 where
  by_prefix : (weak strong : List Quotation) (x : Formula) → Weaker weak strong → Dominated (under weak x) (under strong x)

-- "Components of a sequent s = [Γ ⊢ φ] are the components of its formulas." "A formula pref1 x is local to sequent s if it is
-- dominated by a component of s." As a file has many queries, a row of formulas takes the sequent's place; in section 5 the paper
-- itself speaks of "Formulas local to Γ ∪ Q", the hypotheses and the queries.
pub data Local (formulas : List Formula) : Formula → Type 0 where
  by_component : (z y x : Formula) → Memᴰ z formulas → Component z y → Dominated x y → Local formulas x
