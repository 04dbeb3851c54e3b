-- The chain of a recorded query: what 02 says of it holds, and of no other row; by itself it is a row of good records.
-- Assumes nothing.
use Prim.Native.Nat.{ℕ, ◌<◌}
use mathlib.Core.Path.{◌≡◌, refl, sym, ◌∙◌, ap, subst}
use mathlib.Core.Logic.{◌⊎◌, inl, inr, ⊎_elim}
use mathlib.Core.Bool.{Bool, true, false, cond, ◌&&◌, ◌||◌, or-false, false≢true}
use mathlib.Core.List.Memᴰ
use mathlib.Core.List.{List, [], ◌∷◌, ◌++◌, append-nil, append_assoc, Memᴰ, nil≢cons, head-eq_of_cons-eq, tail-eq_of_cons-eq}
use lib.ListN.{length}
use lib.Dec.{eqb}
use borrow.Author.Tests.{eqb-true, eq-eqb, lt-ltb}
use Rattle.infon.specs.declared.Way.{Way}
use Rattle.infon.specs.declared.Way.TheVariants.{Hypothesis, Given, Weaken, Left, Right, Both, Apply, Attach}
use Rattle.infon.specs.declared.Record.{Record}
use Rattle.infon.specs.Bytes.{some_of}
use Rattle.infon.specs.Formula.{Formula}
use Rattle.infon.specs.Journal.{is_recorded, is_for, premises_in, is_good}
use Rattle.infon.specs.Reasons.{is_premise, is_used, reasons, Within, at_end, taken, passed, IsChain}
use Rattle.std.proofs.lemmas.Bool.{and_parts, and_from, or_right, or_cases, or_parts, cases_Bool, false_from_ne_true}
use Rattle.infon.proofs.Rows.{some_of_witness, witness_some_of}
use Rattle.infon.proofs.Sound.{by_recorded}
use Rattle.infon.proofs.Grown.{GoodRow, stop, more, good_parts, good_first, good_fresh, recorded_by}

-- How the reasons are taken, from the last record to the first.
data Reasoned (fs : List Formula) (x : Formula) : List Record → List Record → Type 0 where
  none_left : Reasoned fs x [] []
  listed : (r : Record) (rest row : List Record) → is_for fs x r || is_used r.formula row ≡ true → Reasoned fs x rest row
      → Reasoned fs x (r ∷ rest) (r ∷ row)
  left_out : (r : Record) (rest row : List Record) → is_for fs x r || is_used r.formula row ≡ false → Reasoned fs x rest row
      → Reasoned fs x (r ∷ rest) row

reasoned : (fs : List Formula) (x : Formula) (rest : List Record) → Reasoned fs x rest (reasons fs x rest)
unfolding reasons
reasoned fs x [] = none_left
reasoned fs x (r ∷ rest) = onwards (is_for fs x r || is_used r.formula (reasons fs x rest)) refl (reasoned fs x rest)
  where
    onwards : (b : Bool) → is_for fs x r || is_used r.formula (reasons fs x rest) ≡ b → Reasoned fs x rest (reasons fs x rest)
        → Reasoned fs x (r ∷ rest) (cond b (r ∷ reasons fs x rest) (reasons fs x rest))
    onwards true e later = listed r rest (reasons fs x rest) e later
    onwards false e later = left_out r rest (reasons fs x rest) e later

reasoned_is : (fs : List Formula) (x : Formula) (rest row : List Record) → Reasoned fs x rest row → row ≡ reasons fs x rest
unfolding reasons
reasoned_is fs x rest row none_left = refl
reasoned_is fs x rest row (listed r later behind e m) = let same = reasoned_is fs x later behind m in rw (← same, e)
reasoned_is fs x rest row (left_out r later behind e m) = let same = reasoned_is fs x later behind m in rw (← same, e)

one_of_two : (p q s : ℕ) (done : List Record) → is_recorded q done && is_recorded s done ≡ true → eqb p q || eqb p s ≡ true → is_recorded p done ≡ true
one_of_two p q s done all one =
    let both = and_parts (is_recorded q done) (is_recorded s done) all in
    ⊎_elim (λ (e : eqb p q ≡ true). rw (eqb-true p q e) both.0) (λ (e : eqb p s ≡ true). rw (eqb-true p s e) both.1)
    (or_cases (eqb p q) (eqb p s) one)

-- a premise of a way is recorded where all are
premise_recorded : (p : ℕ) (w : Way) (done : List Record) → premises_in w done ≡ true → is_premise p w ≡ true → is_recorded p done ≡ true
unfolding premises_in is_premise
premise_recorded p Hypothesis done all one = absurd (false≢true one)
premise_recorded p Given done all one = absurd (false≢true one)
premise_recorded p (Weaken q) done all one = rw (eqb-true p q one) all
premise_recorded p (Left q) done all one = rw (eqb-true p q one) all
premise_recorded p (Right q) done all one = rw (eqb-true p q one) all
premise_recorded p (Both q s) done all one = one_of_two p q s done all one
premise_recorded p (Apply q s) done all one = one_of_two p q s done all one
premise_recorded p (Attach q) done all one = rw (eqb-true p q one) all

-- and all are where each is
all_recorded : (w : Way) (done : List Record) → ((p : ℕ) → is_premise p w ≡ true → is_recorded p done ≡ true) → premises_in w done ≡ true
unfolding premises_in is_premise
all_recorded Hypothesis done each = refl
all_recorded Given done each = refl
all_recorded (Weaken p) done each = each p (eq-eqb p p refl)
all_recorded (Left p) done each = each p (eq-eqb p p refl)
all_recorded (Right p) done each = each p (eq-eqb p p refl)
all_recorded (Both p q) done each = and_from _ _ (each p (rw (eq-eqb p p refl))) (each q (or_right (eqb q p) _ (eq-eqb q q refl)))
all_recorded (Apply p q) done each = and_from _ _ (each p (rw (eq-eqb p p refl))) (each q (or_right (eqb q p) _ (eq-eqb q q refl)))
all_recorded (Attach p) done each = each p (eq-eqb p p refl)

-- the record is for the number
abbrev records : ℕ → Record → Bool
records p r = eqb p r.formula

-- what is recorded in two rows, one behind the other, is in one of them, and back
recorded_cases : (p : ℕ) (one two : List Record) → is_recorded p (one ++ two) ≡ true → (is_recorded p one ≡ true) ⊎ (is_recorded p two ≡ true)
unfolding is_recorded
recorded_cases p one two h =
    let test = records p in
    let found = some_of_witness test (one ++ two) h in
    ⊎_elim (λ (m : Memᴰ found.0 one). inl (witness_some_of test m found.1.1))
    (λ (m : Memᴰ found.0 two). inr (witness_some_of test m found.1.1))
    (Memᴰ.append_cases one found.1.0)

recorded_first : (p : ℕ) (one two : List Record) → is_recorded p one ≡ true → is_recorded p (one ++ two) ≡ true
unfolding is_recorded
recorded_first p one two h =
    let test = records p in
    let found = some_of_witness test one h in
    witness_some_of test (Memᴰ.append_left two found.1.0) found.1.1

recorded_second : (p : ℕ) (one two : List Record) → is_recorded p two ≡ true → is_recorded p (one ++ two) ≡ true
unfolding is_recorded
recorded_second p one two h =
    let test = records p in
    let found = some_of_witness test two h in
    witness_some_of test (Memᴰ.append_right one found.1.0) found.1.1

-- what one record alone records is its own number
recorded_alone : (p : ℕ) (r : Record) → is_recorded p (r ∷ []) ≡ true → p ≡ r.formula
recorded_alone p r h = let found = recorded_by p (r ∷ []) h in found.1.1 ∙ ap (λ (q : Record). q.formula) (Memᴰ.eq_of_singleton found.1.0)

-- a record within a row stands in it
within_mem : (row rest : List Record) → Within row rest → (r : Record) → Memᴰ r row → Memᴰ r rest
within_mem row rest at_end r m = m
within_mem row rest (taken q one other w) r (Memᴰ.head e) = Memᴰ.head e
within_mem row rest (taken q one other w) r (Memᴰ.tail m) = Memᴰ.tail (within_mem one other w r m)
within_mem row rest (passed q one other w) r m = Memᴰ.tail (within_mem one other w r m)

-- where a record stands in a row
splits : {r : Record} {row : List Record} → Memᴰ r row → (before : List Record) × ((after : List Record) × (row ≡ before ++ (r ∷ after)))
splits (Memᴰ.head {xs = rest} e) = ([], (rest, ap (λ (q : Record). q ∷ rest) (sym e)))
splits (Memᴰ.tail {x = q} m) = let found = splits m in (q ∷ found.0, (found.1.0, ap (λ (row : List Record). q ∷ row) found.1.1))

stands : (before after : List Record) (r : Record) (row : List Record) → row ≡ before ++ (r ∷ after) → Memᴰ r row
stands before after r row e = subst (Memᴰ r) (sym e) (Memᴰ.append_right before (Memᴰ.head refl))

-- a row that ends has one last record
ends : (row : List Record) (r : Record) → [] ≡ row ++ (r ∷ []) → ⊥
ends [] r e = nil≢cons e
ends (q ∷ row) r e = nil≢cons e

one_last : (row other : List Record) (r s : Record) → row ++ (r ∷ []) ≡ other ++ (s ∷ []) → r ≡ s
one_last [] [] r s e = head-eq_of_cons-eq e
one_last [] (q ∷ other) r s e = absurd (ends other s (tail-eq_of_cons-eq e))
one_last (q ∷ row) [] r s e = absurd (ends row r (sym (tail-eq_of_cons-eq e)))
one_last (p ∷ row) (q ∷ other) r s e = one_last row other r s (tail-eq_of_cons-eq e)

last_of : (r : Record) (rest : List Record) → (before : List Record) × ((l : Record) × (r ∷ rest ≡ before ++ (l ∷ [])))
last_of r [] = ([], (r, refl))
last_of r (s ∷ rest) = let found = last_of s rest in (r ∷ found.0, (found.1.0, ap (λ (row : List Record). r ∷ row) found.1.1))

module _ (hyps fs : List Formula) where
  -- a record of a good row is fresh after what is done before the row, and its number is on the list
  later_fresh : (done rest : List Record) → GoodRow hyps fs done rest → (r : Record) → Memᴰ r rest
      → (is_recorded r.formula done ≡ true → ⊥) × (r.formula < length fs)
  later_fresh done rest (stop _) r m = elim m [ ]
  later_fresh done rest (more _ q later good goods) r (Memᴰ.head e) =
      let parts = good_parts hyps fs done q good in
      (λ h. false≢true (sym parts.1 ∙ subst (λ (s : Record). is_recorded s.formula done ≡ true) e h), subst (λ (s : Record). s.formula < length fs) (sym e) parts.0)
  later_fresh done rest (more _ q later good goods) r (Memᴰ.tail m) =
      let found = later_fresh (done ++ (q ∷ [])) later goods r m in
      (λ h. found.0 (recorded_first r.formula done (q ∷ []) h), found.1)

reasoned_within : (fs : List Formula) (x : Formula) (rest row : List Record) → Reasoned fs x rest row → Within row rest
reasoned_within fs x rest row none_left = at_end
reasoned_within fs x rest row (listed r later behind e m) = taken r behind later (reasoned_within fs x later behind m)
reasoned_within fs x rest row (left_out r later behind e m) = passed r behind later (reasoned_within fs x later behind m)

-- nothing is listed behind the last record that is for the formula, ..
none_behind : (fs : List Formula) (x : Formula) (rest row : List Record) → Reasoned fs x rest row → some_of (is_for fs x) rest ≡ false → row ≡ []
unfolding some_of is_used
none_behind fs x rest row none_left h = refl
none_behind fs x rest row (listed r later behind e m) h =
    let both = or_parts (is_for fs x r) (some_of (is_for fs x) later) h in
    let empty = none_behind fs x later behind m both.1 in
    absurd (false≢true (rw (both.0, empty) at e))
none_behind fs x rest row (left_out r later behind e m) h =
    none_behind fs x later behind m (or_parts (is_for fs x r) (some_of (is_for fs x) later) h).1

-- .. which is listed itself, so that it is last.
own_listed : (fs : List Formula) (x : Formula) (rest row : List Record) → Reasoned fs x rest row → some_of (is_for fs x) rest ≡ true
    → (before : List Record) × ((r : Record) × ((row ≡ before ++ (r ∷ [])) × (is_for fs x r ≡ true)))
unfolding some_of
own_listed fs x rest row none_left h = absurd (false≢true h)
own_listed fs x rest row (listed q later behind e m) h =
    ⊎_elim
    (λ (other : some_of (is_for fs x) later ≡ true).
    let found = own_listed fs x later behind m other in
    (q ∷ found.0, (found.1.0, (ap (λ (rest : List Record). q ∷ rest) found.1.1.0, found.1.1.1))))
    (λ (none : some_of (is_for fs x) later ≡ false).
    ([], (q, (ap (λ (rest : List Record). q ∷ rest) (none_behind fs x later behind m none), sym (or-false (is_for fs x q)) ∙ rw none at h))))
    (cases_Bool (some_of (is_for fs x) later))
own_listed fs x rest row (left_out q later behind e m) h =
    own_listed fs x later behind m (rw (or_parts (is_for fs x q) (is_used q.formula behind) e).0 at h)

-- a record that has a number as its premise uses it
uses : (p : ℕ) (before after : List Record) (r : Record) (row : List Record) → row ≡ before ++ (r ∷ after) → is_premise p r.way ≡ true → is_used p row ≡ true
unfolding is_used
uses p before after r row e h = witness_some_of (λ (q : Record). is_premise p q.way) (stands before after r row e) h

module _ (hyps fs : List Formula) (x : Formula) where
  -- each premise of a listed record was done before, or is listed before it
  listed_closed : (done rest row : List Record) → GoodRow hyps fs done rest → Reasoned fs x rest row → (before after : List Record) (r : Record)
      → row ≡ before ++ (r ∷ after) → (p : ℕ) → is_premise p r.way ≡ true → (is_recorded p done ≡ true) ⊎ (is_recorded p before ≡ true)
  listed_closed done rest row goods none_left [] after r e p h = absurd (nil≢cons e)
  listed_closed done rest row goods none_left (q ∷ before) after r e p h = absurd (nil≢cons e)
  listed_closed done rest row goods (listed q later behind t m) [] after r e p h =
      let same : q ≡ r = head-eq_of_cons-eq e in
      let good = good_parts hyps fs done q (good_first hyps fs done q later goods).0 in
      inl (premise_recorded p q.way done good.2 (rw same h))
  listed_closed done rest row goods (listed q later behind t m) (s ∷ before) after r e p h =
      let same : q ≡ s = head-eq_of_cons-eq e in
      ⊎_elim
      (λ (early : is_recorded p (done ++ (q ∷ [])) ≡ true).
      ⊎_elim (λ (first : is_recorded p done ≡ true). inl first)
      (λ (own : is_recorded p (q ∷ []) ≡ true). inr (recorded_first p (s ∷ []) before (rw (← same) own)))
      (recorded_cases p done (q ∷ []) early))
      (λ (late : is_recorded p before ≡ true). inr (recorded_second p (s ∷ []) before late))
      (listed_closed (done ++ (q ∷ [])) later behind (good_first hyps fs done q later goods).1 m before after r (tail-eq_of_cons-eq e) p h)
  listed_closed done rest row goods (left_out q later behind t m) before after r e p h =
      ⊎_elim
      (λ (early : is_recorded p (done ++ (q ∷ [])) ≡ true).
      ⊎_elim (λ (first : is_recorded p done ≡ true). inl first)
      (λ (own : is_recorded p (q ∷ []) ≡ true).
      let unused = (or_parts (is_for fs x q) (is_used q.formula behind) t).1 in
      absurd (false≢true (sym unused ∙ rw (← recorded_alone p q own) (uses p before after r behind e h))))
      (recorded_cases p done (q ∷ []) early))
      (λ (late : is_recorded p before ≡ true). inr late)
      (listed_closed (done ++ (q ∷ [])) later behind (good_first hyps fs done q later goods).1 m before after r e p h)

  -- no two numbers of the list stand for the formula
  abbrev pub Once : Type 0
  Once = (r s : Record) → r.formula < length fs → s.formula < length fs → is_for fs x r ≡ true → is_for fs x s ≡ true → r.formula ≡ s.formula

  -- so no two records of a good row are for it
  own_once : Once → (done rest : List Record) (r : Record) → GoodRow hyps fs done (r ∷ rest) → is_for fs x r ≡ true → some_of (is_for fs x) rest ≡ true → ⊥
  own_once once done rest r goods own other =
      let found = some_of_witness (is_for fs x) rest other in
      let first = good_first hyps fs done r rest goods in
      let fresh = later_fresh hyps fs (done ++ (r ∷ [])) rest first.1 found.0 found.1.0 in
      let same = once r found.0 (good_parts hyps fs done r first.0).0 fresh.1 own found.1.1 in
      fresh.0 (recorded_second found.0.formula done (r ∷ []) (rw (← same) (by_recorded r (r ∷ []) (Memᴰ.head refl))))

  -- every listed record but the last is used behind
  listed_needed : Once → (done rest row : List Record) → GoodRow hyps fs done rest → Reasoned fs x rest row → (before after : List Record) (r next : Record)
      → row ≡ before ++ (r ∷ (next ∷ after)) → is_used r.formula (next ∷ after) ≡ true
  listed_needed once done rest row goods none_left [] after r next e = absurd (nil≢cons e)
  listed_needed once done rest row goods none_left (q ∷ before) after r next e = absurd (nil≢cons e)
  listed_needed once done rest row goods (listed q later behind t m) [] after r next e =
      let same : q ≡ r = head-eq_of_cons-eq e in
      let then : behind ≡ next ∷ after = tail-eq_of_cons-eq e in
      ⊎_elim
      (λ (own : is_for fs x q ≡ true).
      ⊎_elim (λ (other : some_of (is_for fs x) later ≡ true). absurd (own_once once done later q goods own other))
      (λ (none : some_of (is_for fs x) later ≡ false). absurd (nil≢cons (sym (none_behind fs x later behind m none) ∙ then)))
      (cases_Bool (some_of (is_for fs x) later)))
      (λ (used : is_used q.formula behind ≡ true). rw (← same, ← then) used)
      (or_cases (is_for fs x q) (is_used q.formula behind) t)
  listed_needed once done rest row goods (listed q later behind t m) (s ∷ before) after r next e =
      listed_needed once (done ++ (q ∷ [])) later behind (good_first hyps fs done q later goods).1 m before after r next (tail-eq_of_cons-eq e)
  listed_needed once done rest row goods (left_out q later behind t m) before after r next e =
      listed_needed once (done ++ (q ∷ [])) later behind (good_first hyps fs done q later goods).1 m before after r next e

  -- The reasons are what 02 says of them, ..
  pub reasons_chain : Once → (kept : List Record) → GoodRow hyps fs [] kept → some_of (is_for fs x) kept ≡ true → IsChain fs x kept (reasons fs x kept)
  unfolding is_recorded some_of
  reasons_chain once kept goods own =
      let how = reasoned fs x kept in
      let row = reasons fs x kept in
      record {
        journal_order = reasoned_within fs x kept row how;
        own_last = own_listed fs x kept row how own;
        premises_before =
            λ before after r e.
            all_recorded r.way before
            (λ (p : ℕ) (h : is_premise p r.way ≡ true).
            ⊎_elim (λ (early : is_recorded p [] ≡ true). absurd (false≢true early)) (λ (late : is_recorded p before ≡ true). late)
            (listed_closed [] kept row goods how before after r e p h));
        each_needed = listed_needed once [] kept row goods how;
      }

  -- What is known of a row within what is left, when a part of both has been gone through: what that part of the row has is done, its
  -- records are on the list, and one is for the formula where nothing of the row is left.
  record Gone (part done row : List Record) : Type 0 where
    done_too : (p : ℕ) → is_recorded p part ≡ true → is_recorded p done ≡ true
    numbers : (r : Record) → Memᴰ r done → r.formula < length fs
    own_gone : row ≡ [] → some_of (is_for fs x) done ≡ true
    premises : (before after : List Record) (r : Record) → row ≡ before ++ (r ∷ after) → premises_in r.way (part ++ before) ≡ true
    last : (before : List Record) (r : Record) → row ≡ before ++ (r ∷ []) → is_for fs x r ≡ true
    needed : (before after : List Record) (r next : Record) → row ≡ before ++ (r ∷ (next ∷ after)) → is_used r.formula (next ∷ after) ≡ true

  -- one record further, which is in the row ..
  gone_taken : (part done row : List Record) (r : Record) → is_good hyps fs done r ≡ true → Gone part done (r ∷ row)
      → Gone (part ++ (r ∷ [])) (done ++ (r ∷ [])) row
  gone_taken part done row r good gone =
      record {
        done_too =
            λ p h.
            ⊎_elim (λ (first : is_recorded p part ≡ true). recorded_first p done (r ∷ []) (gone.done_too p first))
            (λ (own : is_recorded p (r ∷ []) ≡ true). recorded_second p done (r ∷ []) own) (recorded_cases p part (r ∷ []) h);
        numbers =
            λ q m.
            ⊎_elim (λ (early : Memᴰ q done). gone.numbers q early)
            (λ (own : Memᴰ q (r ∷ [])). rw (Memᴰ.eq_of_singleton own) (good_parts hyps fs done r good).0)
            (Memᴰ.append_cases done m);
        own_gone =
            λ empty. witness_some_of (is_for fs x) (Memᴰ.append_right done (Memᴰ.head refl)) (gone.last [] r (ap (λ (rest : List Record). r ∷ rest) empty));
        premises = λ before after q e. rw append_assoc (gone.premises (r ∷ before) after q (ap (λ (rest : List Record). r ∷ rest) e));
        last = λ before q e. gone.last (r ∷ before) q (ap (λ (rest : List Record). r ∷ rest) e);
        needed = λ before after q next e. gone.needed (r ∷ before) after q next (ap (λ (rest : List Record). r ∷ rest) e);
      }

  -- .. or is not
  gone_passed : (part done row : List Record) (r : Record) → is_good hyps fs done r ≡ true → Gone part done row → Gone part (done ++ (r ∷ [])) row
  gone_passed part done row r good gone =
      record {
        done_too = λ p h. recorded_first p done (r ∷ []) (gone.done_too p h);
        numbers =
            λ q m.
            ⊎_elim (λ (early : Memᴰ q done). gone.numbers q early)
            (λ (own : Memᴰ q (r ∷ [])). rw (Memᴰ.eq_of_singleton own) (good_parts hyps fs done r good).0)
            (Memᴰ.append_cases done m);
        own_gone =
            λ empty.
            let found = some_of_witness (is_for fs x) done (gone.own_gone empty) in
            witness_some_of (is_for fs x) (Memᴰ.append_left (r ∷ []) found.1.0) found.1.1;
        premises = gone.premises;
        last = gone.last;
        needed = gone.needed;
      }

  -- a record of the row is listed: it is used behind, or the last and for the formula
  taken_listed : (part done row : List Record) (r : Record) → Gone part done (r ∷ row) → is_for fs x r || is_used r.formula row ≡ true
  taken_listed part done [] r gone = rw (gone.last [] r refl)
  taken_listed part done (s ∷ after) r gone = or_right (is_for fs x r) _ (gone.needed [] after r s refl)

  -- a record that the row passes over is not for the formula, since another one is, ..
  passed_other : Once → (part done row rest : List Record) (r : Record) → Within row rest → GoodRow hyps fs done (r ∷ rest) → Gone part done row
      → is_for fs x r ≡ true → ⊥
  passed_other once part done [] rest r w goods gone own =
      let found = some_of_witness (is_for fs x) done (gone.own_gone refl) in
      let parts = good_parts hyps fs done r (good_first hyps fs done r rest goods).0 in
      let same = once r found.0 parts.0 (gone.numbers found.0 found.1.0) own found.1.1 in
      false≢true (sym parts.1 ∙ rw same (by_recorded found.0 done found.1.0))
  passed_other once part done (s ∷ after) rest r w goods gone own =
      let end = last_of s after in
      let stand = within_mem (s ∷ after) rest w end.1.0 (stands end.0 [] end.1.0 (s ∷ after) end.1.1) in
      own_once once done rest r goods own (witness_some_of (is_for fs x) stand (gone.last end.0 end.1.0 end.1.1))

  -- .. and is not used, since what is used stands before in the row
  passed_unused : (part done row rest : List Record) (r : Record) → Within row rest → GoodRow hyps fs done (r ∷ rest) → Gone part done row
      → is_used r.formula row ≡ true → ⊥
  unfolding is_used
  passed_unused part done row rest r w goods gone used =
      let found = some_of_witness (λ (q : Record). is_premise r.formula q.way) row used in
      let place = splits found.1.0 in
      let first = good_first hyps fs done r rest goods in
      let recorded = premise_recorded r.formula found.0.way (part ++ place.0) (gone.premises place.0 place.1.0 found.0 place.1.1) found.1.1 in
      ⊎_elim (λ (early : is_recorded r.formula part ≡ true). false≢true (sym (good_parts hyps fs done r first.0).1 ∙ gone.done_too r.formula early))
      (λ (late : is_recorded r.formula place.0 ≡ true).
      let other = recorded_by r.formula place.0 late in
      let stand = within_mem row rest w other.0 (subst (Memᴰ other.0) (sym place.1.1) (Memᴰ.append_left (found.0 ∷ place.1.0) other.1.0)) in
      (later_fresh hyps fs (done ++ (r ∷ [])) rest first.1 other.0 stand).0
      (recorded_second other.0.formula done (r ∷ []) (rw (← other.1.1) (by_recorded r (r ∷ []) (Memᴰ.head refl)))))
      (recorded_cases r.formula part place.0 recorded)

  chain_reasoned : Once → (part done row rest : List Record) → Within row rest → GoodRow hyps fs done rest → Gone part done row → Reasoned fs x rest row
  chain_reasoned once part done row rest at_end goods gone = none_left
  chain_reasoned once part done row rest (taken r behind later w) goods gone =
      let first = good_first hyps fs done r later goods in
      listed r later behind (taken_listed part done behind r gone)
      (chain_reasoned once (part ++ (r ∷ [])) (done ++ (r ∷ [])) behind later w first.1 (gone_taken part done behind r first.0 gone))
  chain_reasoned once part done row rest (passed r behind later w) goods gone =
      let first = good_first hyps fs done r later goods in
      left_out r later behind
      (false_from_ne_true (is_for fs x r || is_used r.formula behind)
      (λ (h : is_for fs x r || is_used r.formula behind ≡ true).
      ⊎_elim (passed_other once part done behind later r w goods gone) (passed_unused part done behind later r w goods gone)
      (or_cases (is_for fs x r) (is_used r.formula behind) h)))
      (chain_reasoned once part (done ++ (r ∷ [])) behind later w first.1 (gone_passed part done behind r first.0 gone))

  gone_nothing : (kept row : List Record) → IsChain fs x kept row → Gone [] [] row
  gone_nothing kept row chain =
      let own = chain.own_last in
      record {
        done_too = λ p h. h;
        numbers = λ r m. elim m [ ];
        own_gone = λ empty. absurd (ends own.0 own.1.0 (sym empty ∙ own.1.1.0));
        premises = chain.premises_before;
        last = λ before r e. rw (one_last before own.0 r own.1.0 (sym e ∙ own.1.1.0)) own.1.1.1;
        needed = chain.each_needed;
      }

  -- .. and any row of which it holds is the reasons.
  pub chain_reasons : Once → (kept row : List Record) → GoodRow hyps fs [] kept → IsChain fs x kept row → row ≡ reasons fs x kept
  chain_reasons once kept row goods chain =
      reasoned_is fs x kept row (chain_reasoned once [] [] row kept chain.journal_order goods (gone_nothing kept row chain))

  -- Such a row by itself is a row of good records.
  within_good : (part done row rest : List Record) → Within row rest → GoodRow hyps fs done rest → Gone part done row → GoodRow hyps fs part row
  unfolding is_good
  within_good part done row rest at_end goods gone = stop part
  within_good part done row rest (taken r behind later w) goods gone =
      let first = good_first hyps fs done r later goods in
      let parts = good_parts hyps fs done r first.0 in
      let fresh : is_recorded r.formula part ≡ false =
      false_from_ne_true (is_recorded r.formula part) (λ (h : is_recorded r.formula part ≡ true). false≢true (sym parts.1 ∙ gone.done_too r.formula h)) in
      let premises = rw append-nil at (gone.premises [] behind r refl) in
      more part r behind (rw (lt-ltb r.formula (length fs) parts.0, fresh, premises, parts.3))
      (within_good (part ++ (r ∷ [])) (done ++ (r ∷ [])) behind later w first.1 (gone_taken part done behind r first.0 gone))
  within_good part done row rest (passed r behind later w) goods gone =
      let first = good_first hyps fs done r later goods in
      within_good part (done ++ (r ∷ [])) behind later w first.1 (gone_passed part done behind r first.0 gone)

  pub chain_good : (kept row : List Record) → GoodRow hyps fs [] kept → IsChain fs x kept row → GoodRow hyps fs [] row
  chain_good kept row goods chain = within_good [] [] row kept chain.journal_order goods (gone_nothing kept row chain)

  -- It holds the query's own record.
  pub own_stands : (kept row : List Record) → IsChain fs x kept row → some_of (is_for fs x) row ≡ true
  own_stands kept row chain =
      let own = chain.own_last in
      witness_some_of (is_for fs x) (stands own.0 [] own.1.0 row own.1.1.0) own.1.1.1

-- ---- What is used is used behind

-- a reason among some records and later ones is one of the first or a reason among the later
reasons_split : (fs : List Formula) (x : Formula) (front rest : List Record) (s : Record) → Memᴰ s (reasons fs x (front ++ rest))
    → Memᴰ s front ⊎ Memᴰ s (reasons fs x rest)
unfolding reasons
reasons_split fs x [] rest s m = inr m
reasons_split fs x (r ∷ front) rest s m =
    let behind = reasons fs x (front ++ rest) in
    let test = is_for fs x r || is_used r.formula behind in
    let later : Memᴰ s behind → Memᴰ s (r ∷ front) ⊎ Memᴰ s (reasons fs x rest) =
    λ (n : Memᴰ s behind).
    ⊎_elim (λ (early : Memᴰ s front). inl (Memᴰ.tail early)) (λ (late : Memᴰ s (reasons fs x rest)). inr late)
    (reasons_split fs x front rest s n) in
    ⊎_elim
    (λ (h : test ≡ true).
    ⊎_elim (λ (e : s ≡ r). inl (Memᴰ.head e)) later (Memᴰ.cases_cons (rw h at m)))
    (λ (h : test ≡ false). later (rw h at m))
    (cases_Bool test)

-- and a reason among the later is one among all
reasons_more : (fs : List Formula) (x : Formula) (front rest : List Record) (s : Record) → Memᴰ s (reasons fs x rest)
    → Memᴰ s (reasons fs x (front ++ rest))
unfolding reasons
reasons_more fs x [] rest s m = m
reasons_more fs x (r ∷ front) rest s m =
    let behind = reasons fs x (front ++ rest) in
    let test = is_for fs x r || is_used r.formula behind in
    let later = reasons_more fs x front rest s m in
    ⊎_elim (λ (h : test ≡ true). rw h (Memᴰ.tail later)) (λ (h : test ≡ false). rw h later) (cases_Bool test)

module _ (hyps fs : List Formula) where
  -- the premises of a good row's records, up to one, are recorded before that one
  premises_early : (done row rest : List Record) (r s : Record) → GoodRow hyps fs done (row ++ (r ∷ rest)) → Memᴰ s (row ++ (r ∷ [])) → (p : ℕ)
      → is_premise p s.way ≡ true → is_recorded p (done ++ row) ≡ true
  premises_early done [] rest r s goods m p h =
      let good = good_parts hyps fs done r (good_first hyps fs done r rest goods).0 in
      rw append-nil (premise_recorded p r.way done good.2 (rw (Memᴰ.eq_of_singleton m) at h))
  premises_early done (q ∷ row) rest r s goods m p h =
      let first = good_first hyps fs done q (row ++ (r ∷ rest)) goods in
      ⊎_elim
      (λ (e : s ≡ q).
      recorded_first p done (q ∷ row) (premise_recorded p q.way done (good_parts hyps fs done q first.0).2 (rw e at h)))
      (λ (n : Memᴰ s (row ++ (r ∷ []))). rw append_assoc at (premises_early (done ++ (q ∷ [])) row rest r s first.1 n p h))
      (Memᴰ.cases_cons m)

  -- A record of a good row is used by the reasons exactly where it is by those behind it.
  pub used_behind : (x : Formula) (front rest : List Record) (r : Record) → GoodRow hyps fs [] (front ++ (r ∷ rest))
      → is_used r.formula (reasons fs x (front ++ (r ∷ rest))) ≡ is_used r.formula (reasons fs x rest)
  unfolding is_used
  used_behind x front rest r goods =
      let whole : front ++ (r ∷ rest) ≡ (front ++ (r ∷ [])) ++ rest = sym (append_assoc front (r ∷ []) rest) in
      ⊎_elim
      (λ (h : some_of (λ (q : Record). is_premise r.formula q.way) (reasons fs x rest) ≡ true).
      let found = some_of_witness (λ (q : Record). is_premise r.formula q.way) (reasons fs x rest) h in
      witness_some_of (λ (q : Record). is_premise r.formula q.way) (subst (λ (rows : List Record). Memᴰ found.0 (reasons fs x rows)) (sym whole)
      (reasons_more fs x (front ++ (r ∷ [])) rest found.0 found.1.0)) found.1.1 ∙ sym h)
      (λ (h : some_of (λ (q : Record). is_premise r.formula q.way) (reasons fs x rest) ≡ false).
      false_from_ne_true (some_of (λ (q : Record). is_premise r.formula q.way) (reasons fs x (front ++ (r ∷ rest))))
      (λ (used : some_of (λ (q : Record). is_premise r.formula q.way) (reasons fs x (front ++ (r ∷ rest))) ≡ true).
      let found = some_of_witness (λ (q : Record). is_premise r.formula q.way) (reasons fs x (front ++ (r ∷ rest))) used in
      ⊎_elim
      (λ (early : Memᴰ found.0 (front ++ (r ∷ []))).
      false≢true (sym (good_fresh hyps fs [] front rest r goods) ∙ premises_early [] front rest r found.0 goods early r.formula found.1.1))
      (λ (late : Memᴰ found.0 (reasons fs x rest)).
      false≢true (sym h ∙ witness_some_of (λ (q : Record). is_premise r.formula q.way) late found.1.1))
      (reasons_split fs x (front ++ (r ∷ [])) rest found.0
      (subst (λ (rows : List Record). Memᴰ found.0 (reasons fs x rows)) whole found.1.0)))
      ∙ sym h)
      (cases_Bool (some_of (λ (q : Record). is_premise r.formula q.way) (reasons fs x rest)))

  -- the number of each of its records is on the list
  pub good_number : (done front rest : List Record) (r : Record) → GoodRow hyps fs done (front ++ (r ∷ rest)) → r.formula < length fs
  good_number done front rest r goods = (later_fresh hyps fs done (front ++ (r ∷ rest)) goods r (stands front rest r (front ++ (r ∷ rest)) refl)).1
