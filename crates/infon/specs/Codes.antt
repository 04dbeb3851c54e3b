-- 01, "Codes on the board": "Tried in this order; the first that applies is given, and none otherwise." A function tries a row of
-- codes, in the row's order, whatever their numbers are.
use Rattle.std.specs.Prelude.{ℕ, Bool, true, false, List, [], ◌∷◌, Result, Ok, Err}
use Rattle.infon.specs.declared.Refusal.{Refusal}

-- what codes say: none applies, or one with its place
abbrev pub Verdict : Type 0
Verdict = Result (Unit {0}) Refusal

pattern abbrev pub passed : Verdict
passed = Ok tt

abbrev pub refused : ℕ → ℕ → Verdict
refused code place = Err (record { code = code; place = place })

-- what a code says: refused with its place where its test holds
unfoldable pub when : Bool → ℕ → ℕ → Verdict
when true code place = refused code place
when false code place = passed

unfoldable pub and_then : Verdict → Verdict → Verdict
and_then passed later = later
and_then (Err by) later = Err by

-- what a row of codes says, each by its own verdict
unfoldable pub tried : List Verdict → Verdict
tried [] = passed
tried (v ∷ later) = and_then v (tried later)

-- what a call leaves, by its verdict: what a refusal with its code and place leaves, or what the call does
unfoldable pub settled : {A : Type 0} → Verdict → (ℕ → ℕ → A) → A → A
settled passed refusing outcome = outcome
settled (Err by) refusing outcome = refusing by.code by.place

-- A code on the board: its number, and its rule, which says of a place that the code is due there.
pub record Code : Type 1 where
  pub number : ℕ
  pub rule : ℕ → Type 0

-- The code that a row of codes gives, and its place: the first whose rule holds.
pub data First : List Code → ℕ → ℕ → Type 1 where
  at_front : (c : Code) (row : List Code) (place : ℕ) → c.rule place → First (c ∷ row) c.number place
  further : (c : Code) (row : List Code) (code place : ℕ) → ((p : ℕ) → c.rule p → ⊥) → First row code place → First (c ∷ row) code place

-- no rule of the row holds
pub data None : List Code → Type 1 where
  empty : None []
  not_one : (c : Code) (row : List Code) → ((p : ℕ) → c.rule p → ⊥) → None row → None (c ∷ row)
