-- 01, "Eight ways to a record": which formula a rule gives from which premises.
use Rattle.std.specs.Prelude.{ℕ, Bool, true, false, ◌&&◌, List, [], ◌∷◌, get_or}
use Rattle.infon.specs.declared.Way.{Way}
use Rattle.infon.specs.declared.Way.TheVariants.{Hypothesis, Given, Weaken, Left, Right, Both, Apply, Attach}
use Rattle.infon.specs.Formula.{Formula, True, name, and, implies, quoted, same}
use Rattle.infon.specs.Listing.{Prefix, wrap, weakened, is_listed}

-- A formula under its whole row of quotations. Nothing else can stand in front of the `T`, `+` or `>` that a rule shows, while
-- x and y may begin with quotations of their own: `conjunction` and `implication` hold pref x and pref y.
pub data Shape : Type 0 where
  truth : Shape
  primitive : Shape
  conjunction : Formula → Formula → Shape
  implication : Formula → Formula → Shape

unfoldable pub shape_under : Prefix → Formula → Shape
shape_under pref True = truth
shape_under pref (name a) = primitive
shape_under pref (and x y) = conjunction (wrap pref x) (wrap pref y)
shape_under pref (implies x y) = implication (wrap pref x) (wrap pref y)
shape_under pref (quoted q x) = shape_under (q ∷ pref) x

unfoldable pub shape_of : Formula → Shape
shape_of x = shape_under [] x

-- A formula taken apart: its whole row of quotations, going on into the prefix that it stands under, and what is left, a base.
unfoldable pub prefix_under : Prefix → Formula → Prefix
prefix_under pref True = pref
prefix_under pref (name a) = pref
prefix_under pref (and x y) = pref
prefix_under pref (implies x y) = pref
prefix_under pref (quoted q x) = prefix_under (q ∷ pref) x

unfoldable pub core_of : Formula → Formula
core_of True = True
core_of (name a) = name a
core_of (and x y) = and x y
core_of (implies x y) = implies x y
core_of (quoted q x) = core_of x

-- rule 3: every formula that it gives from x, x with them
unfoldable pub weakenings : Formula → List Formula
weakenings x = weakened (prefix_under [] x) (core_of x)

-- rule 2: the formula is pref T
unfoldable pub is_truth : Shape → Bool
is_truth truth = true
is_truth primitive = false
is_truth (conjunction l r) = false
is_truth (implication l r) = false

-- rules 4 and 5: x is the left, or the right, part of a conjunction
unfoldable pub is_left : Formula → Shape → Bool
is_left x truth = false
is_left x primitive = false
is_left x (conjunction l r) = same x l
is_left x (implication l r) = false

unfoldable pub is_right : Formula → Shape → Bool
is_right y truth = false
is_right y primitive = false
is_right y (conjunction l r) = same y r
is_right y (implication l r) = false

-- rule 6: x and y are the parts of a conjunction
unfoldable pub are_both : Formula → Formula → Shape → Bool
are_both x y shape = is_left x shape && is_right y shape

-- rule 8: y is the conclusion of an implication; rule 7: x is its condition too
unfoldable pub is_conclusion : Formula → Shape → Bool
is_conclusion y truth = false
is_conclusion y primitive = false
is_conclusion y (conjunction l r) = false
is_conclusion y (implication l r) = same y r

unfoldable pub is_condition : Formula → Shape → Bool
is_condition x truth = false
is_condition x primitive = false
is_condition x (conjunction l r) = false
is_condition x (implication l r) = same x l

abbrev pub are_applied : Formula → Formula → Shape → Bool
are_applied x y shape = is_condition x shape && is_conclusion y shape

-- the formula with a number on the list; `True` stands in for a number that is not on it, which no premise of a good record has
unfoldable pub numbered : List Formula → ℕ → Formula
numbered fs n = get_or fs n True

-- "the rule gives that formula from them": the table of eight ways, row by row
unfoldable pub gives : List Formula → List Formula → Way → Formula → Bool
gives hyps fs Hypothesis x = is_listed x hyps
gives hyps fs Given x = is_truth (shape_of x)
gives hyps fs (Weaken p) x = is_listed x (weakenings (numbered fs p))
gives hyps fs (Left p) x = is_left x (shape_of (numbered fs p))
gives hyps fs (Right p) x = is_right x (shape_of (numbered fs p))
gives hyps fs (Both p q) x = are_both (numbered fs p) (numbered fs q) (shape_of x)
gives hyps fs (Apply p q) x = are_applied (numbered fs p) x (shape_of (numbered fs q))
gives hyps fs (Attach p) x = is_conclusion (numbered fs p) (shape_of x)
