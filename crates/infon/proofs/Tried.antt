-- "Tried in this order; the first that applies is given, and none otherwise": what a search through a row finds first, and what a row
-- of codes gives.
-- Assumes nothing.
use Prim.Native.Nat.{ℕ, ◌≤◌, ◌<◌}
use native.Mathlib.Nat.{le_trans}
use native.Mathlib.Omega.{arith}
use mathlib.Core.Path.{◌≡◌, refl, sym, ◌∙◌, ap, subst}
use mathlib.Core.Logic.{◌⊎◌, inl, inr, ⊎_elim}
use mathlib.Core.Bool.{Bool, true, false, not}
use mathlib.Core.List.{List, [], ◌∷◌, ◌++◌}
use lib.Dec.{ltb}
use borrow.Author.Tests.{ltb-true, ltb-false, lt-ltb, le-ltb}
use Rattle.infon.specs.Bytes.{every}
use Rattle.std.specs.Prelude.{Err}
use Rattle.infon.specs.Codes.{and_then, when, tried, settled, Code, First, at_front, further, None, empty, not_one, Verdict, passed, refused}
use Rattle.std.proofs.lemmas.Bool.{and_from, and_parts, cases_Bool}

-- ---- What a verdict does

pub when_true : (b : Bool) (code place : ℕ) → b ≡ true → when b code place ≡ refused code place
unfolding when
when_true b code place h = rw h

pub when_false : (b : Bool) (code place : ℕ) → b ≡ false → when b code place ≡ passed
unfolding when
when_false b code place h = rw h

pub passed_refused : {code place : ℕ} → passed ≡ refused code place → ⊥
passed_refused e = let z : ◌≡◌ {A = ℕ} 0 1 = cc in omega arith

refused_same : {c p d q : ℕ} → refused c p ≡ refused d q → (c ≡ d) × (p ≡ q)
unfolding settled
refused_same {c} {p} {d} {q} e =
    let by : Verdict → ℕ × ℕ = λ (v : Verdict). settled v (λ (code place : ℕ). (code, place)) (0, 0) in
    (ap (λ (v : Verdict). (by v).0) e, ap (λ (v : Verdict). (by v).1) e)

pub pass_on : {v : Verdict} → v ≡ passed → (later : Verdict) → and_then v later ≡ later
unfolding and_then
pass_on h later = rw h

pub stop_at : {v : Verdict} {code place : ℕ} → v ≡ refused code place → (later : Verdict) → and_then v later ≡ refused code place
unfolding and_then
stop_at h later = rw h

pub and_then_passed : (v w : Verdict) → and_then v w ≡ passed → (v ≡ passed) × (w ≡ passed)
unfolding and_then
and_then_passed passed w e = (refl, e)
and_then_passed (Err by) w e = (e, let z : ◌≡◌ {A = ℕ} 0 1 = cc in absurd (omega arith))

pub when_passed : (b : Bool) (code place : ℕ) → when b code place ≡ passed → b ≡ false
unfolding when
when_passed true code place e = cc
when_passed false code place e = refl

pub and_then_assoc : (u v w : Verdict) → and_then (and_then u v) w ≡ and_then u (and_then v w)
unfolding and_then
and_then_assoc passed v w = refl
and_then_assoc (Err by) v w = refl

pub and_then_end : (v : Verdict) → and_then v passed ≡ v
unfolding and_then
and_then_end passed = refl
and_then_end (Err by) = refl

-- a bad element in front ends the search, any other is passed over
stops : (b : Bool) (code place : ℕ) (later : Verdict) → b ≡ true → and_then (when b code place) later ≡ refused code place
unfolding and_then when
stops b code place later h = rw h

goes_on : (b : Bool) (code place : ℕ) (later : Verdict) → b ≡ false → and_then (when b code place) later ≡ later
unfolding and_then when
goes_on b code place later h = rw h

-- ---- What a verdict says

-- A code's verdict says whether its rule holds, and where.
pub record Says (c : Code) (v : Verdict) : Type 1 where
  pub given : (place : ℕ) → c.rule place → v ≡ refused c.number place
  pub either : (v ≡ passed) ⊎ ((place : ℕ) × ((v ≡ refused c.number place) × c.rule place))

-- ---- The first element of a row that is bad by itself

module _ {E : Type 0} (good : E → Bool) (code : ℕ) (place : E → ℕ) where
  unfoldable pub scanned : List E → Verdict
  scanned [] = passed
  scanned (e ∷ rest) = and_then (when (not (good e)) code (place e)) (scanned rest)

  pub record FirstBad (xs : List E) (at : ℕ) : Type 0 where
    pub before : List E
    pub bad : E
    pub behind : List E
    pub row : xs ≡ before ++ (bad ∷ behind)
    pub all_good : every good before ≡ true
    pub is_bad : good bad ≡ false
    pub here : at ≡ place bad

  scanned_first : (before : List E) (e : E) (behind : List E) → every good before ≡ true → good e ≡ false
      → scanned (before ++ (e ∷ behind)) ≡ refused code (place e)
  unfolding scanned every
  scanned_first [] e behind calm bad = stops (not (good e)) code (place e) (scanned behind) (ap not bad)
  scanned_first (x ∷ before) e behind calm bad =
      let parts = and_parts (good x) (every good before) calm in
      goes_on (not (good x)) code (place x) (scanned (before ++ (e ∷ behind))) (ap not parts.0)
      ∙ scanned_first before e behind parts.1 bad

  first_scanned : (xs : List E) → (scanned xs ≡ passed) ⊎ ((at : ℕ) × ((scanned xs ≡ refused code at) × FirstBad xs at))
  unfolding scanned every
  first_scanned [] = inl refl
  first_scanned (x ∷ xs) =
      ⊎_elim
      (λ (fine : good x ≡ true).
      let over = goes_on (not (good x)) code (place x) (scanned xs) (ap not fine) in
      ⊎_elim (λ p. inl (over ∙ p))
      (λ found.
      let f = found.1.1 in
      inr (
        found.0,
        (
          over ∙ found.1.0,
          record {
            before = x ∷ f.before;
            bad = f.bad;
            behind = f.behind;
            row = ap (λ (ys : List E). x ∷ ys) f.row;
            all_good = and_from _ _ fine f.all_good;
            is_bad = f.is_bad;
            here = f.here;
          },
        ),
      ))
      (first_scanned xs))
      (λ (bad : good x ≡ false).
      inr (
        place x,
        (
          stops (not (good x)) code (place x) (scanned xs) (ap not bad),
          record { before = []; bad = x; behind = xs; row = refl; all_good = refl; is_bad = bad; here = refl },
        ),
      ))
      (cases_Bool (good x))

  -- a code whose rule holds at the first bad element
  pub scanned_says : (xs : List E) (rule : ℕ → Type 0) → ((at : ℕ) → FirstBad xs at → rule at) → ((at : ℕ) → rule at → FirstBad xs at)
      → Says (record { number = code; rule = rule }) (scanned xs)
  scanned_says xs rule holds found =
      record {
        given =
            λ at h.
            let f = found at h in
            ap scanned f.row ∙ (scanned_first f.before f.bad f.behind f.all_good f.is_bad ∙ ap (refused code) (sym f.here));
        either = ⊎_elim (λ pass. inl pass) (λ some. inr (some.0, (some.1.0, holds some.0 some.1.1))) (first_scanned xs);
      }

-- ---- The first element of a row at which a growing number passes its limit

module _ {S E : Type 0} (step : S → E → S) (size : S → ℕ) (grows : (s : S) (e : E) → size s ≤ size (step s e)) (most code : ℕ) (place : E → ℕ) where
  unfoldable pub gone : S → List E → S
  gone s [] = s
  gone s (e ∷ rest) = gone (step s e) rest

  gone_grows : (s : S) (xs : List E) → size s ≤ size (gone s xs)
  unfolding gone
  gone_grows s [] = omega arith
  gone_grows s (e ∷ rest) = le_trans (grows s e) (gone_grows (step s e) rest)

  unfoldable pub counted : S → List E → Verdict
  counted s [] = passed
  counted s (e ∷ rest) = and_then (when (ltb most (size (step s e))) code (place e)) (counted (step s e) rest)

  pub record FirstOver (s : S) (xs : List E) (at : ℕ) : Type 0 where
    pub before : List E
    pub last : E
    pub behind : List E
    pub row : xs ≡ before ++ (last ∷ behind)
    pub within : size (gone s before) ≤ most
    pub over : most < size (step (gone s before) last)
    pub here : at ≡ place last

  counted_over : (s : S) (before : List E) (e : E) (behind : List E) → size (gone s before) ≤ most
      → most < size (step (gone s before) e) → counted s (before ++ (e ∷ behind)) ≡ refused code (place e)
  unfolding counted gone
  counted_over s [] e behind within over =
      stops (ltb most (size (step s e))) code (place e) (counted (step s e) behind) (lt-ltb most (size (step s e)) over)
  counted_over s (x ∷ before) e behind within over =
      goes_on (ltb most (size (step s x))) code (place x) (counted (step s x) (before ++ (e ∷ behind)))
      (le-ltb most (size (step s x)) (le_trans (gone_grows (step s x) before) within))
      ∙ counted_over (step s x) before e behind within over

  over_counted : (s : S) (xs : List E) → size s ≤ most
      → (counted s xs ≡ passed) ⊎ ((at : ℕ) × ((counted s xs ≡ refused code at) × FirstOver s xs at))
  unfolding counted gone
  over_counted s [] within = inl refl
  over_counted s (x ∷ xs) within =
      ⊎_elim
      (λ (over : ltb most (size (step s x)) ≡ true).
      inr (
        place x,
        (
          stops (ltb most (size (step s x))) code (place x) (counted (step s x) xs) over,
          record {
            before = [];
            last = x;
            behind = xs;
            row = refl;
            within = within;
            over = ltb-true most (size (step s x)) over;
            here = refl;
          },
        ),
      ))
      (λ (fits : ltb most (size (step s x)) ≡ false).
      let past = goes_on (ltb most (size (step s x))) code (place x) (counted (step s x) xs) fits in
      ⊎_elim (λ p. inl (past ∙ p))
      (λ found.
      let f = found.1.1 in
      inr (
        found.0,
        (
          past ∙ found.1.0,
          record {
            before = x ∷ f.before;
            last = f.last;
            behind = f.behind;
            row = ap (λ (ys : List E). x ∷ ys) f.row;
            within = f.within;
            over = f.over;
            here = f.here;
          },
        ),
      ))
      (over_counted (step s x) xs (ltb-false most (size (step s x)) fits)))
      (cases_Bool (ltb most (size (step s x))))

  -- a code whose rule holds where the number first passes its limit
  pub counted_says : (s : S) (xs : List E) → size s ≤ most → (rule : ℕ → Type 0) → ((at : ℕ) → FirstOver s xs at → rule at)
      → ((at : ℕ) → rule at → FirstOver s xs at) → Says (record { number = code; rule = rule }) (counted s xs)
  counted_says s xs within rule holds found =
      record {
        given =
            λ at h.
            let f = found at h in
            ap (counted s) f.row ∙ (counted_over s f.before f.last f.behind f.within f.over ∙ ap (refused code) (sym f.here));
        either = ⊎_elim (λ pass. inl pass) (λ some. inr (some.0, (some.1.0, holds some.0 some.1.1))) (over_counted s xs within);
      }

-- ---- What a row of codes gives

-- a row tried in two parts, and in one of them alone
pub tried_append : (vs ws : List Verdict) → tried (vs ++ ws) ≡ and_then (tried vs) (tried ws)
unfolding tried and_then
tried_append [] ws = refl
tried_append (v ∷ vs) ws = ap (and_then v) (tried_append vs ws) ∙ sym (and_then_assoc v (tried vs) (tried ws))

-- the verdicts of a row of codes, none of which has the number 0
pub data Speaks : List Code → List Verdict → Type 1 where
  silent : Speaks [] []
  speaks : (c : Code) (v : Verdict) (row : List Code) (vs : List Verdict) → Says c v → 1 ≤ c.number → Speaks row vs → Speaks (c ∷ row) (v ∷ vs)

pub speaks_append : {row more : List Code} {vs ws : List Verdict} → Speaks row vs → Speaks more ws → Speaks (row ++ more) (vs ++ ws)
speaks_append silent second = second
speaks_append (speaks c v row vs says number first) second = speaks c v _ _ says number (speaks_append first second)

passed_no_rule : {c : Code} {v : Verdict} → Says c v → v ≡ passed → (p : ℕ) → c.rule p → ⊥
passed_no_rule says pass p rule = passed_refused (sym pass ∙ says.given p rule)

no_rule_passed : {c : Code} {v : Verdict} → Says c v → ((p : ℕ) → c.rule p → ⊥) → v ≡ passed
no_rule_passed says off = ⊎_elim (λ pass. pass) (λ found. absurd (off found.0 found.1.1)) says.either

-- The code given is the first whose rule holds, ..
pub first_given : {row : List Code} {vs : List Verdict} {code place : ℕ} → Speaks row vs → First row code place → tried vs ≡ refused code place
unfolding tried
first_given silent first = elim first [ ]
first_given (speaks c v row vs says number rest) (at_front _ _ place rule) = stop_at (says.given place rule) (tried vs)
first_given (speaks c v row vs says number rest) (further _ _ code place off first) =
    pass_on (no_rule_passed says off) (tried vs) ∙ first_given rest first

-- .. and none is given where none holds;
pub none_given : {row : List Code} {vs : List Verdict} → Speaks row vs → None row → tried vs ≡ passed
unfolding tried
none_given silent empty = refl
none_given (speaks c v row vs says number rest) (not_one _ _ off others) = pass_on (no_rule_passed says off) (tried vs) ∙ none_given rest others

-- .. one of the two is so, ..
pub given_or_none : {row : List Code} {vs : List Verdict} → Speaks row vs → None row ⊎ ((code : ℕ) × ((place : ℕ) × First row code place))
given_or_none silent = inl empty
given_or_none (speaks c v row vs says number rest) =
    ⊎_elim
    (λ (pass : v ≡ passed).
    ⊎_elim (λ others. inl (not_one c row (passed_no_rule says pass) others))
    (λ found. inr (found.0, (found.1.0, further c row found.0 found.1.0 (passed_no_rule says pass) found.1.1)))
    (given_or_none rest))
    (λ found. inr (c.number, (found.0, at_front c row found.0 found.1.1)))
    says.either

-- .. so that a code that is given is the first whose rule holds, and none is given only where none holds;
pub given_first : {row : List Code} {vs : List Verdict} {code place : ℕ} → Speaks row vs → tried vs ≡ refused code place → First row code place
given_first {row} {vs} {code} {place} heard told =
    ⊎_elim (λ none. absurd (passed_refused (sym (none_given heard none) ∙ told)))
    (λ found.
    let same = refused_same (sym told ∙ first_given heard found.1.1) in
    subst (λ (p : ℕ). First row code p) (sym same.1) (subst (λ (c : ℕ). First row c found.1.0) (sym same.0) found.1.1))
    (given_or_none heard)

pub given_none : {row : List Code} {vs : List Verdict} → Speaks row vs → tried vs ≡ passed → None row
given_none heard told =
    ⊎_elim (λ none. none) (λ found. absurd (passed_refused (sym told ∙ first_given heard found.1.1))) (given_or_none heard)

-- .. and no code is 0.
pub first_numbered : {row : List Code} {vs : List Verdict} {code place : ℕ} → Speaks row vs → First row code place → 1 ≤ code
first_numbered silent first = elim first [ ]
first_numbered (speaks c v row vs says number rest) (at_front _ _ place rule) = number
first_numbered (speaks c v row vs says number rest) (further _ _ code place off first) = first_numbered rest first

-- What a call leaves that tries a row: a refusal where a code is given, its own outcome where none is.
module _ {A : Type 0} {row : List Code} {vs : List Verdict} (heard : Speaks row vs) (refusal : ℕ → ℕ → A) (outcome : A) where
  pub refuses : {code place : ℕ} → First row code place → settled (tried vs) refusal outcome ≡ refusal code place
  unfolding settled
  refuses first = rw (first_given heard first)

  pub passes : None row → settled (tried vs) refusal outcome ≡ outcome
  unfolding settled
  passes others = rw (none_given heard others)
