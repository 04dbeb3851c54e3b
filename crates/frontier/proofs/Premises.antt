-- Every good record is among those that are wanted as one of its premises is touched, or has no premise.
-- Assumes nothing.
use Prim.Native.Nat.{ℕ, zero, suc, ◌+◌, ◌≤◌, ◌<◌}
use mathlib.Core.Path.{◌≡◌, refl, sym, ◌∙◌, ap, subst}
use mathlib.Core.Logic.{⊎_elim}
use mathlib.Core.Bool.{Bool, true, false, cond, ◌&&◌, not}
use mathlib.Core.List.Memᴰ
use mathlib.Core.List.{List, [], ◌++◌, Memᴰ}
use native.Mathlib.Omega.{arith}
use lib.Dec.{ltb, eqb}
use borrow.Author.Tests.{eqb-true, eqb-false}
use Rattle.std.proofs.lemmas.Bool.{and_parts, and_from, cases_Bool}
use Rattle.infon.specs.declared.Way.{Way}
use Rattle.infon.specs.declared.Way.TheVariants.{Hypothesis, Given, Weaken, Left, Right, Both, Apply, Attach}
use Rattle.infon.specs.declared.Record.{Record}
use Rattle.formulas.specs.Table.{cell}
use Rattle.formulas.specs.Tests.{gives_in, is_marked, premises_marked, leads_to, good_in}
use Rattle.formulas.proofs.Given.{marked_below}
use Rattle.links.specs.declared.Chain.TheVariants as Of
use Rattle.ways.proofs.Leads.{shares, both_parts, apply_parts, attach_parts}
use Rattle.frontier.specs.Touched.{parts_by, whole_by, meeting, along, touching, taking_in, taking_all}

-- a record is for a formula by a way
abbrev pub by : ℕ → Way → Record
by g way = record { formula = g; way = way }

-- What a good record is: listed, not marked, and its way leads to it.
pub record Goods (t : List ℕ) (n : ℕ) (marks : List ℕ) (g : ℕ) (way : Way) : Type 0 where
  pub listed : ltb g n ≡ true
  pub unmarked : not (is_marked n marks g) ≡ true
  pub premises : premises_marked n marks way ≡ true
  pub gives : gives_in t way g ≡ true

module _ (t : List ℕ) (n : ℕ) (marks : List ℕ) (g : ℕ) (way : Way) where
  pub goods : good_in t n marks (by g way) ≡ true → Goods t n marks g way
  unfolding good_in leads_to
  goods good =
      let all = and_parts (ltb g n && not (is_marked n marks g)) (premises_marked n marks way && gives_in t way g) good in
      let front = and_parts (ltb g n) (not (is_marked n marks g)) all.0 in
      let leads = and_parts (premises_marked n marks way) (gives_in t way g) all.1 in
      record { listed = front.0; unmarked = front.1; premises = leads.0; gives = leads.1 }

  pub good_of : Goods t n marks g way → good_in t n marks (by g way) ≡ true
  unfolding good_in leads_to
  good_of parts = and_from _ _ (and_from _ _ parts.listed parts.unmarked) (and_from _ _ parts.premises parts.gives)

  pub leads_of : Goods t n marks g way → leads_to t n marks g way ≡ true
  unfolding leads_to
  leads_of parts = and_from _ _ parts.premises parts.gives

module _ (t : List ℕ) (n : ℕ) where
  -- the records of f and g are on the row of a column that g holds
  on_row : (column x f : ℕ) (r : Record) (g count i : ℕ) → i ≤ g → g < i + count → cell t column g ≡ x → Memᴰ r (meeting t column f g)
      → Memᴰ r (along t column x f i count)
  unfolding along
  on_row column x f r g zero i low high here there = absurd (omega arith)
  on_row column x f r g (suc count) i low high here there =
      ⊎_elim
      (λ (e : eqb i g ≡ true).
      let same = eqb-true i g e in
      put (eqb (cell t column i) x)
      (λ _. subst (λ (j : ℕ). Memᴰ r (meeting t column f j)) (sym same) there)
      (λ h. absurd (eqb-false (cell t column i) x h (ap (cell t column) same ∙ here))))
      (λ (e : eqb i g ≡ false).
      let apart = eqb-false i g e in
      later (eqb (cell t column i) x) (on_row column x f r g count (suc i) (omega (arith, apart)) (omega arith) here there))
      (cases_Bool (eqb i g))
    where
      put : (b : Bool) → (b ≡ true → Memᴰ r (meeting t column f i)) → (b ≡ false → ⊥)
          → Memᴰ r (cond b (meeting t column f i ++ along t column x f (suc i) count) (along t column x f (suc i) count))
      put true held failed = Memᴰ.append_left (along t column x f (suc i) count) (held refl)
      put false held failed = absurd (failed refl)

      later : (b : Bool) → Memᴰ r (along t column x f (suc i) count)
          → Memᴰ r (cond b (meeting t column f i ++ along t column x f (suc i) count) (along t column x f (suc i) count))
      later true m = Memᴰ.append_right (meeting t column f i) m
      later false m = m

  module _ (f : ℕ) (r : Record) where
    in_parts : Memᴰ r (parts_by t f) → Memᴰ r (touching t n f)
    unfolding touching
    in_parts m = Memᴰ.append_left _ m

    in_whole : Memᴰ r (whole_by t f) → Memᴰ r (touching t n f)
    unfolding touching
    in_whole m = Memᴰ.append_right (parts_by t f) (Memᴰ.append_left _ m)

    in_lefts : Memᴰ r (along t 2 f f 0 n) → Memᴰ r (touching t n f)
    unfolding touching
    in_lefts m = Memᴰ.append_right (parts_by t f) (Memᴰ.append_right (whole_by t f) (Memᴰ.append_left _ m))

    in_rights : Memᴰ r (along t 3 f f 0 n) → Memᴰ r (touching t n f)
    unfolding touching
    in_rights m =
        Memᴰ.append_right (parts_by t f)
        (Memᴰ.append_right (whole_by t f) (Memᴰ.append_right (along t 2 f f 0 n) (Memᴰ.append_left _ m)))

    in_bottoms : Memᴰ r (along t 4 (cell t 4 f) f 0 n) → Memᴰ r (touching t n f)
    unfolding touching
    in_bottoms m =
        Memᴰ.append_right (parts_by t f)
        (Memᴰ.append_right (whole_by t f) (Memᴰ.append_right (along t 2 f f 0 n) (Memᴰ.append_right (along t 3 f f 0 n) m)))

  -- the records of f and g
  weaken_met : (f g : ℕ) → Memᴰ (by g (Weaken f)) (meeting t 4 f g)
  unfolding meeting
  weaken_met f g = Memᴰ.head refl

  left_met : (f g : ℕ) (r : Record) → Memᴰ r (whole_by t g) → Memᴰ r (meeting t 2 f g)
  unfolding meeting
  left_met f g r m = m

  right_met : (f g : ℕ) (r : Record) → Memᴰ r (whole_by t g) → Memᴰ r (meeting t 3 f g)
  unfolding meeting
  right_met f g r m = m

  both_whole : (g p q : ℕ) → cell t 2 g ≡ p → cell t 3 g ≡ q → Memᴰ (by g (Both p q)) (whole_by t g)
  unfolding whole_by
  both_whole g p q left right = Memᴰ.head (λ i. by g (Both (sym left i) (sym right i)))

  attach_whole : (g p : ℕ) → cell t 3 g ≡ p → Memᴰ (by g (Attach p)) (whole_by t g)
  unfolding whole_by
  attach_whole g p right = Memᴰ.tail (Memᴰ.head (λ i. by g (Attach (sym right i))))

  apply_whole : (g p q : ℕ) → cell t 2 q ≡ p → cell t 3 q ≡ g → Memᴰ (by g (Apply p q)) (whole_by t q)
  unfolding whole_by
  apply_whole g p q left right = Memᴰ.tail (Memᴰ.tail (Memᴰ.head (λ i. by (sym right i) (Apply (sym left i) q))))

  -- a record that has f as a premise is among those that touching f wants
  module _ (marks : List ℕ) (g : ℕ) where
    pub by_weaken : (p : ℕ) → g < n → leads_to t n marks g (Weaken p) ≡ true → Memᴰ (by g (Weaken p)) (touching t n p)
    by_weaken p low h =
        in_bottoms p (by g (Weaken p))
        (on_row 4 (cell t 4 p) p (by g (Weaken p)) g n 0 (omega arith) (omega arith) (sym (shares t n marks g Of.Bottom p h)) (weaken_met p g))

    pub by_left : (p : ℕ) → leads_to t n marks g (Left p) ≡ true → Memᴰ (by g (Left p)) (touching t n p)
    unfolding parts_by
    by_left p h =
        let part = shares t n marks g Of.Left p h in
        in_parts p (by g (Left p)) (Memᴰ.head (λ i. by (sym part i) (Left p)))

    pub by_right : (p : ℕ) → leads_to t n marks g (Right p) ≡ true → Memᴰ (by g (Right p)) (touching t n p)
    unfolding parts_by
    by_right p h =
        let part = shares t n marks g Of.Right p h in
        in_parts p (by g (Right p)) (Memᴰ.tail (Memᴰ.head (λ i. by (sym part i) (Right p))))

    pub by_both_first : (p q : ℕ) → g < n → leads_to t n marks g (Both p q) ≡ true → Memᴰ (by g (Both p q)) (touching t n p)
    by_both_first p q low h =
        let parts = both_parts t n marks g p q h in
        in_lefts p (by g (Both p q))
        (on_row 2 p p (by g (Both p q)) g n 0 (omega arith) (omega arith) parts.left_is (left_met p g (by g (Both p q)) (both_whole g p q parts.left_is parts.right_is)))

    pub by_both_second : (p q : ℕ) → g < n → leads_to t n marks g (Both p q) ≡ true → Memᴰ (by g (Both p q)) (touching t n q)
    by_both_second p q low h =
        let parts = both_parts t n marks g p q h in
        in_rights q (by g (Both p q))
        (on_row 3 q q (by g (Both p q)) g n 0 (omega arith) (omega arith) parts.right_is (right_met q g (by g (Both p q)) (both_whole g p q parts.left_is parts.right_is)))

    pub by_apply_first : (p q : ℕ) → leads_to t n marks g (Apply p q) ≡ true → Memᴰ (by g (Apply p q)) (touching t n p)
    by_apply_first p q h =
        let parts = apply_parts t n marks g p q h in
        let low = marked_below n marks q parts.second_marked in
        in_lefts p (by g (Apply p q))
        (on_row 2 p p (by g (Apply p q)) q n 0 (omega arith) (omega arith) parts.left_is (left_met p q (by g (Apply p q)) (apply_whole g p q parts.left_is parts.right_is)))

    pub by_apply_second : (p q : ℕ) → leads_to t n marks g (Apply p q) ≡ true → Memᴰ (by g (Apply p q)) (touching t n q)
    by_apply_second p q h =
        let parts = apply_parts t n marks g p q h in
        in_whole q (by g (Apply p q)) (apply_whole g p q parts.left_is parts.right_is)

    pub by_attach : (p : ℕ) → g < n → leads_to t n marks g (Attach p) ≡ true → Memᴰ (by g (Attach p)) (touching t n p)
    by_attach p low h =
        let right = (attach_parts t n marks g p h).1.1 in
        in_rights p (by g (Attach p))
        (on_row 3 p p (by g (Attach p)) g n 0 (omega arith) (omega arith) right (right_met p g (by g (Attach p)) (attach_whole g p right)))

  -- and so it is among those that all formulas want
  module _ (marks : List ℕ) (r : Record) where
    in_all : (g count i : ℕ) → i ≤ g → g < i + count → Memᴰ r (taking_in t n marks g) → Memᴰ r (taking_all t n marks i count)
    unfolding taking_all
    in_all g zero i low high there = absurd (omega arith)
    in_all g (suc count) i low high there =
        ⊎_elim
        (λ (e : eqb i g ≡ true).
        Memᴰ.append_left (taking_all t n marks (suc i) count)
        (subst (λ (j : ℕ). Memᴰ r (taking_in t n marks j)) (sym (eqb-true i g e)) there))
        (λ (e : eqb i g ≡ false).
        let apart = eqb-false i g e in
        Memᴰ.append_right (taking_in t n marks i) (in_all g count (suc i) (omega (arith, apart)) (omega arith) there))
        (cases_Bool (eqb i g))

    pub in_taking : (p : ℕ) → is_marked n marks p ≡ true → Memᴰ r (touching t n p) → Memᴰ r (taking_all t n marks 0 n)
    unfolding taking_in
    in_taking p marked there =
        let low = marked_below n marks p marked in
        in_all p n 0 (omega arith) (omega arith)
        (Memᴰ.tail
        (Memᴰ.tail (subst (λ (b : Bool). Memᴰ r (cond b (touching t n p) [])) (sym marked) there)))

  pub hypothesis_taken : (marks : List ℕ) (g : ℕ) → g < n → Memᴰ (by g Hypothesis) (taking_all t n marks 0 n)
  unfolding taking_in
  hypothesis_taken marks g low = in_all marks (by g Hypothesis) g n 0 (omega arith) (omega arith) (Memᴰ.head refl)

  pub given_taken : (marks : List ℕ) (g : ℕ) → g < n → Memᴰ (by g Given) (taking_all t n marks 0 n)
  unfolding taking_in
  given_taken marks g low = in_all marks (by g Given) g n 0 (omega arith) (omega arith) (Memᴰ.tail (Memᴰ.head refl))
