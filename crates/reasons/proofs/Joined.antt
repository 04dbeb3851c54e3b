-- What is wanted in the end, and what is lent by it, are the reasons.
-- Assumes nothing.
use Prim.Native.Nat.{ℕ, suc, ◌+◌, ◌*◌, ◌≤◌, ◌<◌}
use native.Mathlib.Nat.{add-zero}
use native.Mathlib.Numerals.{add-one}
use native.Mathlib.Omega.{arith}
use mathlib.Core.Path.{◌≡◌, refl, sym, ◌∙◌, ap, subst}
use mathlib.Core.Logic.{⊎_elim}
use mathlib.Core.Bool.{Bool, true, false, ◌||◌, or-false, or_comm, or_assoc, false≢true}
use Rattle.std.proofs.lemmas.Bool.{cases_Bool}
use Rattle.std.specs.Prelude.{Option, Some}
use mathlib.Core.List.{List, [], ◌∷◌, ◌++◌, append-nil, append_assoc}
use lib.ListN.{length, set, length-set, length-append}
use lib.Dec.{eqb}
use lib.Seq.{get_or-set_same, get_or-set_other}
use borrow.Author.Tests.{eqb-true, eq-eqb, ne_eqb}
use Rattle.infon.specs.declared.Way.{Way}
use Rattle.infon.specs.declared.Way.TheVariants.{Hypothesis, Given, Weaken, Left, Right, Both, Apply, Attach}
use Rattle.infon.specs.declared.Record.{Record}
use Rattle.infon.specs.Journal.{is_for, record_bytes, no_premise, first_premise, second_premise}
use Rattle.infon.specs.Bytes.{some_of}
use Rattle.infon.specs.Formula.{Formula}
use Rattle.infon.specs.Reasons.{is_premise, is_used, reasons}
use Rattle.infon.proofs.Grown.{GoodRow}
use Rattle.infon.proofs.Reasons.{used_behind}
use Rattle.reader.specs.Decoded.{record_at}
use Rattle.reasons.specs.Wanted.{is_wanted, wish, only_wanted, wish_for, one_of, wanted_at, swept_down, found_down, wanted_to}

-- a number below the mark for none is a premise exactly where it stands at one of the two places
premise_at : (p : ℕ) (way : Way) → p < 65535 → is_premise p way ≡ eqb p (first_premise way) || eqb p (second_premise way)
unfolding is_premise first_premise second_premise no_premise
premise_at p Hypothesis low = let off = ne_eqb p 65535 (λ e. omega arith) in rw off
premise_at p Given low = let off = ne_eqb p 65535 (λ e. omega arith) in rw off
premise_at p (Weaken q) low = let off = ne_eqb p 65535 (λ e. omega arith) in rw (off, or-false (eqb p q))
premise_at p (Left q) low = let off = ne_eqb p 65535 (λ e. omega arith) in rw (off, or-false (eqb p q))
premise_at p (Right q) low = let off = ne_eqb p 65535 (λ e. omega arith) in rw (off, or-false (eqb p q))
premise_at p (Both q s) low = refl
premise_at p (Apply q s) low = refl
premise_at p (Attach q) low = let off = ne_eqb p 65535 (λ e. omega arith) in rw (off, or-false (eqb p q))

-- one more number is wanted
pub wanted_set : (wanted : List ℕ) (n p : ℕ) → p < length wanted → is_wanted (set wanted n 1) p ≡ eqb p n || is_wanted wanted p
unfolding is_wanted
wanted_set wanted n p low =
    ⊎_elim
    (λ (h : eqb p n ≡ true).
    let same = eqb-true p n h in
    rw (h, ← same, get_or-set_same {A = ℕ} wanted p 1 0 low))
    (λ (h : eqb p n ≡ false). rw (h, get_or-set_other {A = ℕ} wanted n p 1 0 (λ e. false≢true (sym h ∙ eq-eqb p n e))))
    (cases_Bool (eqb p n))

-- a way's premises are wanted
wish_wanted : (way : Way) (wanted : List ℕ) (p : ℕ) → p < length wanted → length wanted ≤ 65535
    → is_wanted (wish way wanted) p ≡ is_premise p way || is_wanted wanted p
unfolding wish
wish_wanted way wanted p low short =
    let first = first_premise way in
    let second = second_premise way in
    let size = length-set wanted first 1 in
    wanted_set (set wanted first 1) second p (omega arith)
    ∙ (ap (λ (b : Bool). eqb p second || b) (wanted_set wanted first p low)
    ∙ (sym (or_assoc (eqb p second) (eqb p first) (is_wanted wanted p)) ∙ ap (λ (b : Bool). b || is_wanted wanted p) (or_comm (eqb p second) (eqb p first))
    ∙ ap (λ (b : Bool). b || is_wanted wanted p) (sym (premise_at p way (omega arith)))))

-- what some records rest on is wanted, the last one's first
unfoldable wishes : List Record → List ℕ → List ℕ
wishes [] wanted = wanted
wishes (r ∷ row) wanted = wish r.way (wishes row wanted)

wish_length : (way : Way) (wanted : List ℕ) → length (wish way wanted) ≡ length wanted
unfolding wish
wish_length way wanted = length-set (set wanted (first_premise way) 1) (second_premise way) 1 ∙ length-set wanted (first_premise way) 1

wishes_length : (row : List Record) (wanted : List ℕ) → length (wishes row wanted) ≡ length wanted
unfolding wishes
wishes_length [] wanted = refl
wishes_length (r ∷ row) wanted = wish_length r.way (wishes row wanted) ∙ wishes_length row wanted

wishes_wanted : (row : List Record) (wanted : List ℕ) (p : ℕ) → p < length wanted → length wanted ≤ 65535
    → is_wanted (wishes row wanted) p ≡ is_used p row || is_wanted wanted p
unfolding wishes is_used some_of
wishes_wanted [] wanted p low short = refl
wishes_wanted (r ∷ row) wanted p low short =
    let size = wishes_length row wanted in
    wish_wanted r.way (wishes row wanted) p (omega arith) (omega arith)
    ∙ (ap (λ (b : Bool). is_premise p r.way || b) (wishes_wanted row wanted p low short)
    ∙ sym (or_assoc (is_premise p r.way) (is_used p row) (is_wanted wanted p)))

reasons_none : (fs : List Formula) (x : Formula) → reasons fs x [] ≡ []
unfolding reasons
reasons_none fs x = refl

-- What is known of a journal's first records, of the formula that is asked for, with its number, and of the row in which only that
-- number is wanted.
pub record Asks (fs : List Formula) (x : Formula) (number : ℕ) (rs : List Record) (journal wanted : List ℕ) : Type 0 where
  pub reads : (front rest : List Record) (r : Record) → rs ≡ front ++ (r ∷ rest) → record_at journal (record_bytes * length front) ≡ Some r
  pub short : length wanted ≤ 65535
  pub numbers : (front rest : List Record) (r : Record) → rs ≡ front ++ (r ∷ rest) → r.formula < length wanted
  pub own : (front rest : List Record) (r : Record) → rs ≡ front ++ (r ∷ rest) → is_for fs x r ≡ eqb r.formula number
  pub only : (p : ℕ) → p < length wanted → is_wanted wanted p ≡ eqb p number

module _ (fs : List Formula) (x : Formula) (number : ℕ) (rs : List Record) (journal wanted : List ℕ) (asks : Asks fs x number rs journal wanted) where
  -- a record is wanted, when its turn comes, exactly where it is a reason
  wanted_then : (front rest : List Record) (r : Record) → rs ≡ front ++ (r ∷ rest) → (row : List Record)
      → is_wanted (wishes row wanted) r.formula ≡ is_for fs x r || is_used r.formula row
  wanted_then front rest r e row =
      let low = asks.numbers front rest r e in
      wishes_wanted row wanted r.formula low asks.short
      ∙ (ap (λ (b : Bool). is_used r.formula row || b) (asks.only r.formula low ∙ sym (asks.own front rest r e))
      ∙ or_comm (is_used r.formula row) (is_for fs x r))

  step_wishes : (rest : List Record) (r : Record) → is_wanted (wishes (reasons fs x rest) wanted) r.formula ≡ is_for fs x r || is_used r.formula (reasons fs x rest)
      → wish_for (only_wanted (wishes (reasons fs x rest) wanted) (Some r)) (wishes (reasons fs x rest) wanted) ≡ wishes (reasons fs x (r ∷ rest)) wanted
  unfolding reasons wishes wish_for only_wanted
  step_wishes rest r e =
      ⊎_elim (λ (h : is_for fs x r || is_used r.formula (reasons fs x rest) ≡ true). rw (e, h))
      (λ (h : is_for fs x r || is_used r.formula (reasons fs x rest) ≡ false). rw (e, h))
      (cases_Bool (is_for fs x r || is_used r.formula (reasons fs x rest)))

  step_counts : (rest : List Record) (r : Record) → is_wanted (wishes (reasons fs x rest) wanted) r.formula ≡ is_for fs x r || is_used r.formula (reasons fs x rest)
      → length (one_of (only_wanted (wishes (reasons fs x rest) wanted) (Some r))) + length (reasons fs x rest) ≡ length (reasons fs x (r ∷ rest))
  unfolding reasons one_of only_wanted
  step_counts rest r e =
      ⊎_elim (λ (h : is_for fs x r || is_used r.formula (reasons fs x rest) ≡ true). rw (e, h) (omega arith))
      (λ (h : is_for fs x r || is_used r.formula (reasons fs x rest) ≡ false). rw (e, h) (omega arith))
      (cases_Bool (is_for fs x r || is_used r.formula (reasons fs x rest)))

  -- one step down
  swept_one : (i : ℕ) (rest : List Record) (r : Record) → record_at journal (record_bytes * i) ≡ Some r
      → is_wanted (wishes (reasons fs x rest) wanted) r.formula ≡ is_for fs x r || is_used r.formula (reasons fs x rest)
      → swept_down journal (suc i) (wishes (reasons fs x rest) wanted) ≡ swept_down journal i (wishes (reasons fs x (r ∷ rest)) wanted)
  unfolding swept_down
  swept_one i rest r here test = rw here (ap (swept_down journal i) (step_wishes rest r test))

  found_one : (i : ℕ) (rest : List Record) (r : Record) → record_at journal (record_bytes * i) ≡ Some r
      → is_wanted (wishes (reasons fs x rest) wanted) r.formula ≡ is_for fs x r || is_used r.formula (reasons fs x rest)
      → length (reasons fs x rest) + found_down journal (suc i) (wishes (reasons fs x rest) wanted)
      ≡ length (reasons fs x (r ∷ rest)) + found_down journal i (wishes (reasons fs x (r ∷ rest)) wanted)
  unfolding found_down
  found_one i rest r here test =
      let counts = step_counts rest r test in
      rw (here, step_wishes rest r test) (omega arith)

  swept_to : (front rest : List Record) → rs ≡ front ++ rest
      → (swept_down journal (length rs) wanted ≡ swept_down journal (length front) (wishes (reasons fs x rest) wanted))
      × (found_down journal (length rs) wanted ≡ length (reasons fs x rest) + found_down journal (length front) (wishes (reasons fs x rest) wanted))
  unfolding reasons wishes
  swept_to front [] e =
      let same : rs ≡ front = e ∙ append-nil front in
      rw same (refl, omega arith)
  swept_to front (r ∷ rest) e = onwards (swept_to (front ++ (r ∷ [])) rest (e ∙ sym (append_assoc front (r ∷ []) rest)))
    where
      one_more : length (front ++ (r ∷ [])) ≡ suc (length front)
      one_more = length-append front (r ∷ []) ∙ add-one (length front)

      here : record_at journal (record_bytes * length front) ≡ Some r
      here = asks.reads front rest r e

      test : is_wanted (wishes (reasons fs x rest) wanted) r.formula ≡ is_for fs x r || is_used r.formula (reasons fs x rest)
      test = wanted_then front rest r e (reasons fs x rest)

      onwards : (swept_down journal (length rs) wanted ≡ swept_down journal (length (front ++ (r ∷ []))) (wishes (reasons fs x rest) wanted))
          × (found_down journal (length rs) wanted ≡ length (reasons fs x rest) + found_down journal (length (front ++ (r ∷ []))) (wishes (reasons fs x rest) wanted))
          → (swept_down journal (length rs) wanted ≡ swept_down journal (length front) (wishes (reasons fs x (r ∷ rest)) wanted))
          × (found_down journal (length rs) wanted ≡ length (reasons fs x (r ∷ rest)) + found_down journal (length front) (wishes (reasons fs x (r ∷ rest)) wanted))
      onwards both = (
        both.0 ∙ (ap (λ (n : ℕ). swept_down journal n (wishes (reasons fs x rest) wanted)) one_more ∙ swept_one (length front) rest r here test),
        both.1 ∙ (ap (λ (n : ℕ). length (reasons fs x rest) + found_down journal n (wishes (reasons fs x rest) wanted)) one_more ∙ found_one (length front) rest r here test),
      )

  -- all that is found wanted when its turn comes are the reasons
  pub found_reasons : found_down journal (length rs) wanted ≡ length (reasons fs x rs)
  unfolding found_down
  found_reasons = (swept_to [] rs refl).1 ∙ add-zero (length (reasons fs x rs))

  swept_reasons : swept_down journal (length rs) wanted ≡ wishes (reasons fs x rs) wanted
  unfolding swept_down
  swept_reasons = (swept_to [] rs refl).0

  step_picked : (rest : List Record) (r : Record) (row : List ℕ) → is_wanted row r.formula ≡ is_for fs x r || is_used r.formula (reasons fs x rest)
      → one_of (only_wanted row (Some r)) ++ reasons fs x rest ≡ reasons fs x (r ∷ rest)
  unfolding reasons one_of only_wanted
  step_picked rest r row e =
      ⊎_elim (λ (h : is_for fs x r || is_used r.formula (reasons fs x rest) ≡ true). rw (e, h))
      (λ (h : is_for fs x r || is_used r.formula (reasons fs x rest) ≡ false). rw (e, h))
      (cases_Bool (is_for fs x r || is_used r.formula (reasons fs x rest)))

  module _ (hyps : List Formula) (goods : GoodRow hyps fs [] rs) where
    -- a record is wanted in the end exactly where it was when its turn came
    wanted_ever : (front rest : List Record) (r : Record) → rs ≡ front ++ (r ∷ rest)
        → is_wanted (wishes (reasons fs x rs) wanted) r.formula ≡ is_for fs x r || is_used r.formula (reasons fs x rest)
    wanted_ever front rest r e =
        wanted_then front rest r e (reasons fs x rs)
        ∙ ap (λ (b : Bool). is_for fs x r || b)
        (ap (λ (row : List Record). is_used r.formula (reasons fs x row)) e ∙ used_behind hyps fs x front rest r (subst (GoodRow hyps fs []) e goods))

    picked_on : (front rest : List Record) → rs ≡ front ++ rest
        → wanted_to journal (wishes (reasons fs x rs) wanted) (length front) ++ reasons fs x rest ≡ reasons fs x rs
        → wanted_to journal (wishes (reasons fs x rs) wanted) (length rs) ≡ reasons fs x rs
    unfolding wanted_to
    picked_on front [] e sum =
        let row = wishes (reasons fs x rs) wanted in
        ap (λ (gone : List Record). wanted_to journal row (length gone)) (e ∙ append-nil front)
        ∙ (sym (append-nil (wanted_to journal row (length front)))
        ∙ (ap (λ (more : List Record). wanted_to journal row (length front) ++ more) (sym (reasons_none fs x)) ∙ sum))
    picked_on front (r ∷ rest) e sum =
        let row = wishes (reasons fs x rs) wanted in
        let one_more : length (front ++ (r ∷ [])) ≡ suc (length front) = length-append front (r ∷ []) ∙ add-one (length front) in
        picked_on (front ++ (r ∷ [])) rest (e ∙ sym (append_assoc front (r ∷ []) rest))
        (ap (λ (n : ℕ). wanted_to journal row n ++ reasons fs x rest) one_more
        ∙ (append_assoc (wanted_to journal row (length front)) (one_of (wanted_at journal row (length front))) (reasons fs x rest)
        ∙ (ap (λ (o : Option Record). wanted_to journal row (length front) ++ (one_of (only_wanted row o) ++ reasons fs x rest)) (asks.reads front rest r e)
        ∙ (ap (λ (more : List Record). wanted_to journal row (length front) ++ more) (step_picked rest r row (wanted_ever front rest r e)) ∙ sum))))

    -- The wanted ones in the end are the reasons.
    pub wanted_reasons : wanted_to journal (swept_down journal (length rs) wanted) (length rs) ≡ reasons fs x rs
    unfolding wanted_to
    wanted_reasons = ap (λ (row : List ℕ). wanted_to journal row (length rs)) swept_reasons ∙ picked_on [] rs refl refl
