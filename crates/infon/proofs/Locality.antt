-- Document 004, theorem 4.2, from 3 to 4, for the list of 01: what is derivable through formulas of any kind, and is on the list,
-- is derivable on the list. Give every formula a value: a listed formula holds if it is recorded; of the others pref T holds,
-- pref name does not, a conjunction holds if both parts do, an implication if its right part does. Where the records are closed
-- under the rules on the list, all eight rules keep this value.
-- Assumes nothing.
use mathlib.Core.Path.{◌≡◌, refl, sym, ◌∙◌}
use mathlib.Core.Logic.{⊎_elim}
use mathlib.Core.Bool.{Bool, true, false, cond, ◌&&◌, false≢true}
use mathlib.Core.List.{List, [], ◌∷◌, reverse_aux, reverse, Memᴰ}
use Rattle.infon.specs.Formula.{Quotation, Formula, True, name, and, implies, quoted}
use Rattle.infon.specs.Listing.{Prefix, wrap}
use Rattle.infon.specs.Calculus.{under, Weaker, unchanged, Derives, hypothesis, given, weaken, left, right, both, apply, attach}
use Rattle.std.proofs.lemmas.Bool.{cond-true, cond-false, and_parts, and_from, cases_Bool}
use Rattle.infon.proofs.Prefixes.{weaker_reverse}

-- what is on the list, with its parts and everything weaker
pub record Closed (listed : Formula → Bool) : Type 0 where
  pub and_left : (w : Prefix) (x y : Formula) → listed (wrap w (and x y)) ≡ true → listed (wrap w x) ≡ true
  pub and_right : (w : Prefix) (x y : Formula) → listed (wrap w (and x y)) ≡ true → listed (wrap w y) ≡ true
  pub implies_left : (w : Prefix) (x y : Formula) → listed (wrap w (implies x y)) ≡ true → listed (wrap w x) ≡ true
  pub implies_right : (w : Prefix) (x y : Formula) → listed (wrap w (implies x y)) ≡ true → listed (wrap w y) ≡ true
  pub weaker_listed : (v w : Prefix) (x : Formula) → Weaker v w → listed (wrap w x) ≡ true → listed (wrap v x) ≡ true

-- what is recorded, with everything listed that a rule gives from it
pub record Complete (hyps : List Formula) (listed recorded : Formula → Bool) : Type 0 where
  pub by_hypothesis : (x : Formula) → Memᴰ x hyps → (listed x ≡ true) × (recorded x ≡ true)
  pub by_given : (w : Prefix) → listed (wrap w True) ≡ true → recorded (wrap w True) ≡ true
  pub by_weaken : (v w : Prefix) (x : Formula) → Weaker v w → recorded (wrap w x) ≡ true → listed (wrap v x) ≡ true
      → recorded (wrap v x) ≡ true
  pub by_left : (w : Prefix) (x y : Formula) → recorded (wrap w (and x y)) ≡ true → listed (wrap w x) ≡ true
      → recorded (wrap w x) ≡ true
  pub by_right : (w : Prefix) (x y : Formula) → recorded (wrap w (and x y)) ≡ true → listed (wrap w y) ≡ true
      → recorded (wrap w y) ≡ true
  pub by_both : (w : Prefix) (x y : Formula) → recorded (wrap w x) ≡ true → recorded (wrap w y) ≡ true
      → listed (wrap w (and x y)) ≡ true → recorded (wrap w (and x y)) ≡ true
  pub by_apply : (w : Prefix) (x y : Formula) → recorded (wrap w x) ≡ true → recorded (wrap w (implies x y)) ≡ true
      → listed (wrap w y) ≡ true → recorded (wrap w y) ≡ true
  pub by_attach : (w : Prefix) (x y : Formula) → recorded (wrap w y) ≡ true → listed (wrap w (implies x y)) ≡ true
      → recorded (wrap w (implies x y)) ≡ true

value : (Formula → Bool) → (Formula → Bool) → Prefix → Formula → Bool
value listed recorded w True = cond (listed (wrap w True)) (recorded (wrap w True)) true
value listed recorded w (name a) = cond (listed (wrap w (name a))) (recorded (wrap w (name a))) false
value listed recorded w (and x y) =
    cond (listed (wrap w (and x y))) (recorded (wrap w (and x y))) (value listed recorded w x && value listed recorded w y)
value listed recorded w (implies x y) =
    cond (listed (wrap w (implies x y))) (recorded (wrap w (implies x y))) (value listed recorded w y)
value listed recorded w (quoted q x) = value listed recorded (q ∷ w) x

module _ (hyps : List Formula) (listed recorded : Formula → Bool) (closed : Closed listed) (complete : Complete hyps listed recorded) where
  -- a listed formula's value is whether it is recorded
  value_listed : (w : Prefix) (x : Formula) → listed (wrap w x) ≡ true → value listed recorded w x ≡ recorded (wrap w x)
  unfolding value wrap
  value_listed w True h = cond-true (listed (wrap w True)) (recorded (wrap w True)) true h
  value_listed w (name a) h = cond-true (listed (wrap w (name a))) (recorded (wrap w (name a))) false h
  value_listed w (and x y) h =
      cond-true (listed (wrap w (and x y))) (recorded (wrap w (and x y))) (value listed recorded w x && value listed recorded w y) h
  value_listed w (implies x y) h =
      cond-true (listed (wrap w (implies x y))) (recorded (wrap w (implies x y))) (value listed recorded w y) h
  value_listed w (quoted q x) h = value_listed (q ∷ w) x h

  value_under : (w : Prefix) (pref : List Quotation) (x : Formula)
      → value listed recorded w (under pref x) ≡ value listed recorded (reverse_aux pref w) x
  unfolding value under
  value_under w [] x = refl
  value_under w (q ∷ pref) x = value_under (q ∷ w) pref x

  -- of an unlisted formula
  value_and : (w : Prefix) (x y : Formula) → listed (wrap w (and x y)) ≡ false
      → value listed recorded w (and x y) ≡ value listed recorded w x && value listed recorded w y
  unfolding value
  value_and w x y h =
      cond-false (listed (wrap w (and x y))) (recorded (wrap w (and x y))) (value listed recorded w x && value listed recorded w y) h

  value_implies : (w : Prefix) (x y : Formula) → listed (wrap w (implies x y)) ≡ false
      → value listed recorded w (implies x y) ≡ value listed recorded w y
  unfolding value
  value_implies w x y h =
      cond-false (listed (wrap w (implies x y))) (recorded (wrap w (implies x y))) (value listed recorded w y) h

  recorded_value : (w : Prefix) (x : Formula) → listed (wrap w x) ≡ true → recorded (wrap w x) ≡ true → value listed recorded w x ≡ true
  recorded_value w x l r = value_listed w x l ∙ r

  value_recorded : (w : Prefix) (x : Formula) → listed (wrap w x) ≡ true → value listed recorded w x ≡ true → recorded (wrap w x) ≡ true
  value_recorded w x l v = sym (value_listed w x l) ∙ v

  value_given : (w : Prefix) → value listed recorded w True ≡ true
  unfolding value
  value_given w =
      ⊎_elim
      (λ l. recorded_value w True l (complete.by_given w l))
      (λ (u : listed (wrap w True) ≡ false). cond-false (listed (wrap w True)) (recorded (wrap w True)) true u)
      (cases_Bool (listed (wrap w True)))

  value_left : (w : Prefix) (x y : Formula) → value listed recorded w (and x y) ≡ true → value listed recorded w x ≡ true
  value_left w x y v =
      ⊎_elim
      (λ l. recorded_value w x (closed.and_left w x y l) (complete.by_left w x y (value_recorded w (and x y) l v) (closed.and_left w x y l)))
      (λ u. (and_parts (value listed recorded w x) (value listed recorded w y) (sym (value_and w x y u) ∙ v)).0)
      (cases_Bool (listed (wrap w (and x y))))

  value_right : (w : Prefix) (x y : Formula) → value listed recorded w (and x y) ≡ true → value listed recorded w y ≡ true
  value_right w x y v =
      ⊎_elim
      (λ l. recorded_value w y (closed.and_right w x y l) (complete.by_right w x y (value_recorded w (and x y) l v) (closed.and_right w x y l)))
      (λ u. (and_parts (value listed recorded w x) (value listed recorded w y) (sym (value_and w x y u) ∙ v)).1)
      (cases_Bool (listed (wrap w (and x y))))

  value_both : (w : Prefix) (x y : Formula) → value listed recorded w x ≡ true → value listed recorded w y ≡ true
      → value listed recorded w (and x y) ≡ true
  value_both w x y vx vy =
      ⊎_elim
      (λ l.
      recorded_value w (and x y) l
      (complete.by_both w x y (value_recorded w x (closed.and_left w x y l) vx) (value_recorded w y (closed.and_right w x y l) vy) l))
      (λ u. value_and w x y u ∙ and_from _ _ vx vy)
      (cases_Bool (listed (wrap w (and x y))))

  value_apply : (w : Prefix) (x y : Formula) → value listed recorded w x ≡ true → value listed recorded w (implies x y) ≡ true
      → value listed recorded w y ≡ true
  value_apply w x y vx v =
      ⊎_elim
      (λ l.
      let ly = closed.implies_right w x y l in
      recorded_value w y ly
      (complete.by_apply w x y (value_recorded w x (closed.implies_left w x y l) vx) (value_recorded w (implies x y) l v) ly))
      (λ u. sym (value_implies w x y u) ∙ v)
      (cases_Bool (listed (wrap w (implies x y))))

  value_attach : (w : Prefix) (x y : Formula) → value listed recorded w y ≡ true → value listed recorded w (implies x y) ≡ true
  value_attach w x y vy =
      ⊎_elim
      (λ l.
      recorded_value w (implies x y) l
      (complete.by_attach w x y (value_recorded w y (closed.implies_right w x y l) vy) l))
      (λ u. value_implies w x y u ∙ vy)
      (cases_Bool (listed (wrap w (implies x y))))

  -- rule 3, by induction on the formula: the stronger one may be off the list and the weaker one on it
  value_weaken : (v w : Prefix) (x : Formula) → Weaker v w → value listed recorded w x ≡ true → value listed recorded v x ≡ true
  unfolding value wrap
  value_weaken v w True le h = value_given v
  value_weaken v w (name a) le h =
      ⊎_elim
      (λ l.
      let lv = closed.weaker_listed v w (name a) le l in
      recorded_value v (name a) lv (complete.by_weaken v w (name a) le (value_recorded w (name a) l h) lv))
      (λ (u : listed (wrap w (name a)) ≡ false).
      absurd (false≢true (sym (cond-false (listed (wrap w (name a))) (recorded (wrap w (name a))) false u) ∙ h)))
      (cases_Bool (listed (wrap w (name a))))
  value_weaken v w (and x y) le h =
      value_both v x y (value_weaken v w x le (value_left w x y h)) (value_weaken v w y le (value_right w x y h))
  value_weaken v w (implies x y) le h =
      ⊎_elim
      (λ l.
      let lv = closed.weaker_listed v w (implies x y) le l in
      recorded_value v (implies x y) lv (complete.by_weaken v w (implies x y) le (value_recorded w (implies x y) l h) lv))
      (λ u. value_attach v x y (value_weaken v w y le (sym (value_implies w x y u) ∙ h)))
      (cases_Bool (listed (wrap w (implies x y))))
  value_weaken v w (quoted q x) le h = value_weaken (q ∷ v) (q ∷ w) x (unchanged q le) h

  derives_value : (z : Formula) → Derives hyps z → value listed recorded [] z ≡ true
  unfolding wrap
  derives_value z (hypothesis x m) = let here = complete.by_hypothesis x m in recorded_value [] x here.0 here.1
  derives_value z (given pref) = value_under [] pref True ∙ value_given (reverse pref)
  derives_value z (weaken low high x le d) =
      value_under [] low x
      ∙ value_weaken (reverse low) (reverse high) x (weaker_reverse le) (sym (value_under [] high x) ∙ derives_value (under high x) d)
  derives_value z (left pref x y d) =
      value_under [] pref x ∙ value_left (reverse pref) x y (sym (value_under [] pref (and x y)) ∙ derives_value (under pref (and x y)) d)
  derives_value z (right pref x y d) =
      value_under [] pref y ∙ value_right (reverse pref) x y (sym (value_under [] pref (and x y)) ∙ derives_value (under pref (and x y)) d)
  derives_value z (both pref x y d e) =
      value_under [] pref (and x y)
      ∙ value_both (reverse pref) x y (sym (value_under [] pref x) ∙ derives_value (under pref x) d)
      (sym (value_under [] pref y) ∙ derives_value (under pref y) e)
  derives_value z (apply pref x y d e) =
      value_under [] pref y
      ∙ value_apply (reverse pref) x y (sym (value_under [] pref x) ∙ derives_value (under pref x) d)
      (sym (value_under [] pref (implies x y)) ∙ derives_value (under pref (implies x y)) e)
  derives_value z (attach pref x y d) =
      value_under [] pref (implies x y)
      ∙ value_attach (reverse pref) x y (sym (value_under [] pref y) ∙ derives_value (under pref y) d)

  -- a listed formula that is derivable is recorded
  pub derivable_recorded : (z : Formula) → listed z ≡ true → Derives hyps z → recorded z ≡ true
  unfolding wrap
  derivable_recorded z l d = value_recorded [] z l (derives_value z d)
