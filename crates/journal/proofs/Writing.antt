-- Bytes that are written one after the other are written together.
-- Assumes nothing.
use Prim.Native.Nat.{ℕ, ◌+◌, ◌-◌, ◌/◌, ◌%◌, ◌≤◌, ◌<◌}
use native.Mathlib.Numerals.{add-one}
use native.Mathlib.Nat.{add-zero, zero-add}
use native.Mathlib.Omega.{arith}
use mathlib.Core.Path.{◌≡◌, ◌∙◌, ap}
use mathlib.Core.List.{List, [], ◌∷◌, ◌++◌, append_assoc, append-nil}
use lib.ListN.{length, take, drop, set, length-drop, take-append-drop, drop_of_length-le}
use lib.Seq.{take_all, sets, sets-eq, drop-drop}
use Rattle.infon.specs.declared.Record.{Record}
use Rattle.infon.specs.Journal.{rule_of, first_premise, second_premise, two_bytes, spelled}
use Rattle.infon.specs.Run.{written}
use Rattle.infon.proofs.Cuts.{written_more}

-- stores one after the other
pub sets_written : (s : List ℕ) (at : ℕ) (new : List ℕ) → at + length new ≤ length s → sets s at new ≡ written s at new
unfolding written
sets_written s at new fits = sets-eq new s at fits ∙ append_assoc (take at s) new (drop (at + length new) s)

pub written_nothing : (s : List ℕ) (at : ℕ) → written s at [] ≡ s
unfolding written
written_nothing s at = rw add-zero (take-append-drop at s)

-- what is written at the front of a tail that is lent and comes back
pub tail_written : (s : List ℕ) (at : ℕ) (new : List ℕ) {last : List ℕ} → at + length new ≤ length s
    → last ≡ written (take (length s - at) (drop at s)) 0 new
    → take at s ++ (last ++ drop (length s - at) (drop at s)) ≡ written s at new
unfolding written
tail_written s at new fits e =
    let size = length-drop at s in
    let lent : take (length s - at) (drop at s) ≡ drop at s = take_all (length s - at) (drop at s) (omega arith) in
    let behind : drop (length s - at) (drop at s) ≡ [] = drop_of_length-le (drop at s) {i = length s - at} (omega arith) in
    rw (e, lent, behind, append-nil, zero-add, drop-drop)

pub number_written : (s : List ℕ) (at number : ℕ) → at + 1 < length s
    → set (set s at (number / 256 % 256)) (at + 1) (number % 256) ≡ written s at (two_bytes number)
unfolding two_bytes
number_written s at number fits =
    ap (λ (k : ℕ). set (set s at (number / 256 % 256)) k (number % 256)) (add-one at)
    ∙ sets_written s at (number / 256 % 256 ∷ (number % 256 ∷ [])) (omega arith)

-- the mark, the rule and the three numbers are the record
pub record_written : (s : List ℕ) (r : Record) {rule p q : ℕ} {a b c : List ℕ} → 9 ≤ length s → rule ≡ rule_of r.way
    → p ≡ first_premise r.way → q ≡ second_premise r.way
    → a ≡ written (set (set (set s 0 0x4C) 1 0x51) 2 rule) 3 (two_bytes r.formula)
    → b ≡ written a 5 (two_bytes p) → c ≡ written b 7 (two_bytes q) → c ≡ written s 0 (spelled r)
unfolding two_bytes spelled
record_written s r {rule} {p} {q} {a} {b} {c} fits er ep eq ea eb ec =
    let front = sets_written s 0 (0x4C ∷ (0x51 ∷ (rule ∷ []))) (omega arith) in
    let three : List ℕ = 0x4C ∷ (0x51 ∷ (rule ∷ [])) in
    let five : List ℕ = three ++ two_bytes r.formula in
    let a_is : a ≡ written s 0 five =
    ea ∙ ap (λ (l : List ℕ). written l 3 (two_bytes r.formula)) front ∙ written_more s 0 three (omega arith) (two_bytes r.formula) in
    let b_is : b ≡ written s 0 (five ++ two_bytes p) =
    eb ∙ ap (λ (l : List ℕ). written l 5 (two_bytes p)) a_is ∙ written_more s 0 five (omega arith) (two_bytes p) in
    let c_is : c ≡ written s 0 (five ++ two_bytes p ++ two_bytes q) =
    ec ∙ ap (λ (l : List ℕ). written l 7 (two_bytes q)) b_is ∙ written_more s 0 (five ++ two_bytes p) (omega arith) (two_bytes q) in
    rw (← er, ← ep, ← eq) c_is
