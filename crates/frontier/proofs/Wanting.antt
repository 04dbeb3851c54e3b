-- What is wanted, record by record: the set keeps its members and gains the formula of each good record.
-- Assumes nothing.
use Prim.Native.Nat.{ℕ, ◌≤◌}
use mathlib.Core.Path.{◌≡◌, refl, sym, ◌∙◌, ap, subst}
use mathlib.Core.Logic.{◌⊎◌, ⊎_elim}
use mathlib.Core.Bool.{Bool, true, false, cond}
use mathlib.Core.List.Memᴰ
use mathlib.Core.List.{List, [], ◌∷◌, ◌++◌, Memᴰ}
use native.Mathlib.Omega.{arith}
use lib.ListN.{length, length-set}
use Rattle.std.proofs.lemmas.Bool.{cases_Bool}
use Rattle.infon.specs.declared.Way.TheVariants.{Hypothesis, Given, Weaken, Left, Right, Both, Apply, Attach}
use Rattle.infon.specs.declared.Record.{Record}
use Rattle.formulas.specs.Table.{cell}
use Rattle.formulas.specs.Tests.{is_marked, good_in}
use Rattle.formulas.proofs.Given.{good_below}
use Rattle.links.specs.declared.Chain.{Chain}
use Rattle.links.specs.declared.Chain.TheVariants as Of
use Rattle.links.specs.Chains.{chain_column}
use Rattle.members.specs.Members.{is_in, with_number, without_member}
use Rattle.frontier.specs.Touched.{wanted, wanted_all, parts_by, whole_by, meeting, along, touching, taking_in}
use Rattle.members.proofs.Membership.{with_has, with_keeps}

pub with_long : (cover : List ℕ) (i : ℕ) → length (with_number cover i) ≡ length cover
unfolding with_number
with_long cover i = length-set cover _ _

pub without_long : (cover : List ℕ) (i : ℕ) → length (without_member cover i) ≡ length cover
unfolding without_member
without_long cover i = length-set cover _ _

module _ (t : List ℕ) (n : ℕ) (marks : List ℕ) where
  good_wanted : (cover : List ℕ) (r : Record) {good : Bool} → good ≡ good_in t n marks r → good ≡ true
      → with_number cover r.formula ≡ wanted t n marks cover r
  unfolding wanted
  good_wanted cover r e h = rw (sym e ∙ h)

  pub bad_wanted : (cover : List ℕ) (r : Record) {good : Bool} → good ≡ good_in t n marks r → good ≡ false
      → cover ≡ wanted t n marks cover r
  unfolding wanted
  bad_wanted cover r e h = rw (sym e ∙ h)

  -- what `want` leaves, where the record is good
  pub is_wanted_lem : (cover : List ℕ) (r : Record) {good : Bool} {after : List ℕ} → good ≡ good_in t n marks r → good ≡ true
      → after ≡ with_number cover r.formula → after ≡ wanted t n marks cover r
  is_wanted_lem cover r e h is = is ∙ good_wanted cover r e h

  wanted_long : (cover : List ℕ) (r : Record) → length (wanted t n marks cover r) ≡ length cover
  wanted_long cover r =
      ⊎_elim
      (λ (h : good_in t n marks r ≡ true). ap length (sym (good_wanted cover r refl h)) ∙ with_long cover r.formula)
      (λ (h : good_in t n marks r ≡ false). ap length (sym (bad_wanted cover r refl h)))
      (cases_Bool (good_in t n marks r))

  pub all_long : (rs : List Record) (cover : List ℕ) → length (wanted_all t n marks cover rs) ≡ length cover
  unfolding wanted_all
  all_long [] cover = refl
  all_long (r ∷ rest) cover = all_long rest (wanted t n marks cover r) ∙ wanted_long cover r

  pub all_append : (xs ys : List Record) (cover : List ℕ)
      → wanted_all t n marks cover (xs ++ ys) ≡ wanted_all t n marks (wanted_all t n marks cover xs) ys
  unfolding wanted_all
  all_append [] ys cover = refl
  all_append (r ∷ rest) ys cover = all_append rest ys (wanted t n marks cover r)

  module _ (few : n ≤ 4096) where
    wanted_keeps : (cover : List ℕ) (r : Record) (i : ℕ) → 64 ≤ length cover → is_in cover i ≡ true
        → is_in (wanted t n marks cover r) i ≡ true
    wanted_keeps cover r i long h =
        ⊎_elim
        (λ (good : good_in t n marks r ≡ true).
        let low = good_below t n marks r good in
        ap (λ (c : List ℕ). is_in c i) (sym (good_wanted cover r refl good)) ∙ with_keeps cover r.formula (omega arith) long i h)
        (λ (bad : good_in t n marks r ≡ false). ap (λ (c : List ℕ). is_in c i) (sym (bad_wanted cover r refl bad)) ∙ h)
        (cases_Bool (good_in t n marks r))

    wanted_has : (cover : List ℕ) (r : Record) → 64 ≤ length cover → good_in t n marks r ≡ true
        → is_in (wanted t n marks cover r) r.formula ≡ true
    wanted_has cover r long good =
        let low = good_below t n marks r good in
        ap (λ (c : List ℕ). is_in c r.formula) (sym (good_wanted cover r refl good)) ∙ with_has cover r.formula (omega arith) long

    -- members stay
    pub all_keeps : (rs : List Record) (cover : List ℕ) (i : ℕ) → 64 ≤ length cover → is_in cover i ≡ true
        → is_in (wanted_all t n marks cover rs) i ≡ true
    unfolding wanted_all
    all_keeps [] cover i long h = h
    all_keeps (r ∷ rest) cover i long h =
        all_keeps rest (wanted t n marks cover r) i (let same = wanted_long cover r in omega arith) (wanted_keeps cover r i long h)

    -- the formula of each good record is in
    pub all_has : (rs : List Record) (cover : List ℕ) (r : Record) → 64 ≤ length cover → Memᴰ r rs → good_in t n marks r ≡ true
        → is_in (wanted_all t n marks cover rs) r.formula ≡ true
    unfolding wanted_all
    all_has [] cover r long there good = absurd (Memᴰ.not-nil there)
    all_has (q ∷ rest) cover r long there good =
        let more : 64 ≤ length (wanted t n marks cover q) = let same = wanted_long cover q in omega arith in
        ⊎_elim
        (λ (e : r ≡ q).
        all_keeps rest (wanted t n marks cover q) r.formula more
        (subst (λ (p : Record). is_in (wanted t n marks cover p) r.formula ≡ true) e (wanted_has cover r long good)))
        (λ (later : Memᴰ r rest). all_has rest (wanted t n marks cover q) r more later good)
        (Memᴰ.cases_cons there)

  -- what the code leaves, call by call
  module _ (cover : List ℕ) (f : ℕ) {one two : List ℕ} {left right : ℕ} (is-left : left ≡ cell t 2 f) (is_right : right ≡ cell t 3 f) where
    pub parts_wanted : one ≡ wanted t n marks cover (record { formula = left; way = Left f })
        → two ≡ wanted t n marks one (record { formula = right; way = Right f }) → two ≡ wanted_all t n marks cover (parts_by t f)
    unfolding wanted_all parts_by
    parts_wanted first second = rw (← is-left, ← is_right, ← first) second

  pub whole_wanted : (cover : List ℕ) (g : ℕ) {one two three : List ℕ} {left right : ℕ} → left ≡ cell t 2 g → right ≡ cell t 3 g
      → one ≡ wanted t n marks cover (record { formula = g; way = Both left right })
      → two ≡ wanted t n marks one (record { formula = g; way = Attach right })
      → three ≡ wanted t n marks two (record { formula = right; way = Apply left g }) → three ≡ wanted_all t n marks cover (whole_by t g)
  unfolding wanted_all whole_by
  whole_wanted cover g is-left is_right first second third = rw (← is-left, ← is_right, ← first, ← second) third

  -- what f and a formula of its chain may give
  pub bottom_met : (cover : List ℕ) (f g : ℕ) {after : List ℕ} → after ≡ wanted t n marks cover (record { formula = g; way = Weaken f })
      → after ≡ wanted_all t n marks cover (meeting t 4 f g)
  unfolding wanted_all meeting
  bottom_met cover f g is = is

  pub whole_met : (cover : List ℕ) (chain : Chain) (f g : ℕ) {after : List ℕ} → (chain ≡ Of.Left) ⊎ (chain ≡ Of.Right)
      → after ≡ wanted_all t n marks cover (whole_by t g) → after ≡ wanted_all t n marks cover (meeting t (chain_column chain) f g)
  unfolding meeting
  whole_met cover chain f g part is =
      ⊎_elim (λ (e : chain ≡ Of.Left). rw e is) (λ (e : chain ≡ Of.Right). rw e is) part

  pub touching_wanted : (cover : List ℕ) (f : ℕ) {one two three four five : List ℕ}
      → one ≡ wanted_all t n marks cover (parts_by t f) → two ≡ wanted_all t n marks one (whole_by t f)
      → three ≡ wanted_all t n marks two (along t 2 f f 0 n) → four ≡ wanted_all t n marks three (along t 3 f f 0 n)
      → five ≡ wanted_all t n marks four (along t 4 (cell t 4 f) f 0 n) → five ≡ wanted_all t n marks cover (touching t n f)
  unfolding touching
  touching_wanted cover f first second third fourth fifth =
      rw (
        all_append (parts_by t f) _ cover,
        ← first,
        all_append (whole_by t f),
        ← second,
        all_append (along t 2 f f 0 n),
        ← third,
        all_append (along t 3 f f 0 n),
        ← fourth,
      )
      fifth

  two_more : (cover : List ℕ) (r q : Record) (rest : List Record) {one two : List ℕ} → one ≡ wanted t n marks cover r
      → two ≡ wanted t n marks one q → wanted_all t n marks two rest ≡ wanted_all t n marks cover (r ∷ (q ∷ rest))
  unfolding wanted_all
  two_more cover r q rest first second =
      ap (λ (c : List ℕ). wanted_all t n marks c rest) (second ∙ ap (λ (c : List ℕ). wanted t n marks c q) first)

  module _ (cover : List ℕ) (i : ℕ) {one two : List ℕ} (first : one ≡ wanted t n marks cover (record { formula = i; way = Hypothesis }))
      (second : two ≡ wanted t n marks one (record { formula = i; way = Given })) {marked : Bool} (is : marked ≡ is_marked n marks i) where
    taken : wanted_all t n marks two (cond marked (touching t n i) []) ≡ wanted_all t n marks cover (taking_in t n marks i)
    unfolding taking_in
    taken =
        two_more cover _ _ (cond marked (touching t n i) []) first second
        ∙ ap
        (λ (b : Bool).
        wanted_all t n marks cover
        (record { formula = i; way = Hypothesis } ∷ (record { formula = i; way = Given } ∷ cond b (touching t n i) [])))
        is

    pub taken_marked : {three : List ℕ} → marked ≡ true → three ≡ wanted_all t n marks two (touching t n i)
        → three ≡ wanted_all t n marks cover (taking_in t n marks i)
    taken_marked h third =
        third ∙ (ap (λ (b : Bool). wanted_all t n marks two (cond b (touching t n i) [])) (sym h) ∙ taken)

    pub taken_open : marked ≡ false → two ≡ wanted_all t n marks cover (taking_in t n marks i)
    unfolding wanted_all
    taken_open h = ap (λ (b : Bool). wanted_all t n marks two (cond b (touching t n i) [])) (sym h) ∙ taken
