-- What the kind of a node tells of its formula: its number, and whether the formula is a rule or has parts.
-- Assumes nothing.
use Prim.Native.Nat.{ℕ}
use mathlib.Core.Path.{◌≡◌, refl, sym, ◌∙◌}
use mathlib.Core.Bool.{true, false}
use mathlib.Core.List.{List}
use denote.Enum.Bare.{sameb}
use Rattle.infon.specs.Formula.{Told, said, put, Formula, True, name, and, implies, quoted}
use Rattle.nodes.specs.declared.Kind.TheVariants as Of
use Rattle.nodes.specs.contracts.Kind.{the_type}
use Rattle.nodes.specs.Nodes.{kind_of}
use Rattle.nodes.specs.Columns.{kind_by, number_of}
use Rattle.wording.specs.Words.{is_rule, has_parts}

quoted_number : (told : Told) (p : List ℕ) (x : Formula)
    → number_of (kind_by (kind_of (quoted (record { told = told; principal = p }) x))) ≡ kind_of (quoted (record { told = told; principal = p }) x)
unfolding kind_of
quoted_number said p x = refl
quoted_number put p x = refl

pub number_kind : (x : Formula) → number_of (kind_by (kind_of x)) ≡ kind_of x
unfolding kind_of
number_kind True = refl
number_kind (name a) = refl
number_kind (and x y) = refl
number_kind (implies x y) = refl
number_kind (quoted q x) = quoted_number q.told q.principal x

-- no quotation is a rule or a conjunction
quoted_apart : (told : Told) (p : List ℕ) (x : Formula)
    → (sameb the_type (kind_by (kind_of (quoted (record { told = told; principal = p }) x))) Of.Implies ≡ false)
    × (sameb the_type (kind_by (kind_of (quoted (record { told = told; principal = p }) x))) Of.And ≡ false)
unfolding kind_of
quoted_apart said p x = (refl, refl)
quoted_apart put p x = (refl, refl)

pub rule_kind : (x : Formula) → sameb the_type (kind_by (kind_of x)) Of.Implies ≡ is_rule x
unfolding is_rule kind_of
rule_kind True = refl
rule_kind (name a) = refl
rule_kind (and x y) = refl
rule_kind (implies x y) = refl
rule_kind (quoted q x) = (quoted_apart q.told q.principal x).0

-- a formula that is no conjunction has parts where it is a rule
pub rule_parts : (x : Formula) → sameb the_type (kind_by (kind_of x)) Of.And ≡ false → sameb the_type (kind_by (kind_of x)) Of.Implies ≡ has_parts x
unfolding has_parts kind_of
rule_parts True e = refl
rule_parts (name a) e = refl
rule_parts (and x y) e = sym e
rule_parts (implies x y) e = refl
rule_parts (quoted q x) e = (quoted_apart q.told q.principal x).0

pub and_parts : (x : Formula) → sameb the_type (kind_by (kind_of x)) Of.And ≡ true → true ≡ has_parts x
unfolding has_parts kind_of
and_parts True e = sym e
and_parts (name a) e = sym e
and_parts (and x y) e = refl
and_parts (implies x y) e = refl
and_parts (quoted q x) e = sym e ∙ (quoted_apart q.told q.principal x).1
