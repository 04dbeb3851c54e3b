-- Counts: a row of good records has no number twice and so at most L records; a run adds as many records as its limit allows or
-- as are missing, the smaller, and ends finished exactly if its limit allows as many as are missing.
-- Assumes nothing.
use Prim.Native.Nat.{ℕ, zero, suc, ◌+◌, ◌≤◌, ◌<◌, min}
use native.Mathlib.Nat.{zero-min, suc-min-suc, min-zero}
use native.Mathlib.Omega.{arith}
use mathlib.Core.Path.{◌≡◌, refl, sym, ◌∙◌, ap, subst}
use mathlib.Core.Logic.{◌⊎◌, inl, inr, ⊎_elim, ◌↔◌}
use mathlib.Core.Bool.{Bool, true, false, ◌&&◌, ◌||◌, not, or-true, or-false, and-false, false≢true}
use Rattle.std.proofs.lemmas.List.Folds.{list_any-append}
use Rattle.std.specs.Prelude.{Option, None, Some}
use mathlib.Core.List.{List, [], ◌∷◌, ◌++◌, append-nil, append_assoc}
use lib.ListN.{length, length-append}
use lib.Dec.{eqb}
use borrow.Author.Tests.{eq-eqb, ne_eqb}
use Rattle.infon.specs.declared.Record.{Record}
use Rattle.infon.specs.Bytes.{some_of}
use Rattle.infon.specs.Formula.{Formula}
use Rattle.infon.specs.Calculus.{Derives}
use Rattle.infon.specs.Rules.{numbered}
use Rattle.infon.specs.Journal.{is_recorded, is_good, numbers_from, next, is_finished, grown}
use Rattle.std.specs.Prelude.{is_none}
use Rattle.infon.specs.Run.{Missing, no_more, recorded, underivable, missing}
use Rattle.std.proofs.lemmas.Bool.{cases_Bool}
use Rattle.infon.proofs.Counting.{count_of, count_passed, count_failed, count_alike, count_at_most, count_gained, from_above, from_length}
use Rattle.infon.proofs.Grown.{GoodRow, stop, more, grown_good, good_append, finished_grown, grown_full, grown_some, finished_add, next_good}
use Rattle.infon.proofs.Sound.{Sound, good_is, good_derives, premise_derived, sound_more, sound_row, sound_empty}
use Rattle.infon.proofs.Finished.{List-of, derivable_recorded_number}

count_nothing : (ns : List ℕ) → count_of (λ (n : ℕ). false) ns ≡ 0
unfolding count_of
count_nothing [] = refl
count_nothing (n ∷ rest) = count_nothing rest

pub recorded_more : (n : ℕ) (done : List Record) (r : Record) → is_recorded n (done ++ (r ∷ [])) ≡ is_recorded n done || eqb n r.formula
unfolding is_recorded some_of
recorded_more n done r =
    list_any-append (λ (s : Record). eqb n s.formula) done (r ∷ [])
    ∙ ap (λ (b : Bool). some_of (λ (s : Record). eqb n s.formula) done || b) (or-false (eqb n r.formula))

pub recorded_now : (done : List Record) (r : Record) → is_recorded r.formula (done ++ (r ∷ [])) ≡ true
recorded_now done r =
    recorded_more r.formula done r
    ∙ (ap (λ (b : Bool). is_recorded r.formula done || b) (eq-eqb r.formula r.formula refl) ∙ or-true (is_recorded r.formula done))

pub recorded_other : (n : ℕ) (done : List Record) (r : Record) → (n ≡ r.formula → ⊥) → is_recorded n (done ++ (r ∷ [])) ≡ is_recorded n done
recorded_other n done r apart =
    recorded_more n done r
    ∙ (ap (λ (b : Bool). is_recorded n done || b) (ne_eqb n r.formula apart) ∙ or-false (is_recorded n done))

module _ (hyps fs : List Formula) where
  -- how many numbers of the list the records have
  recorded_count : List Record → ℕ
  recorded_count done = count_of (λ (n : ℕ). is_recorded n done) (numbers_from 0 (length fs))

  recorded_gained : (done : List Record) (r : Record) → is_good hyps fs done r ≡ true
      → recorded_count (done ++ (r ∷ [])) ≡ suc (recorded_count done)
  unfolding recorded_count
  recorded_gained done r h =
      let good = good_is hyps fs done r h in
      count_gained (λ (n : ℕ). is_recorded n done) (λ (n : ℕ). is_recorded n (done ++ (r ∷ []))) 0 (length fs) r.formula (omega arith)
      (let low = good.below in omega arith) good.fresh (recorded_now done r) (λ m apart. sym (recorded_other m done r apart))

  row_count : (done rest : List Record) → GoodRow hyps fs done rest → recorded_count (done ++ rest) ≡ recorded_count done + length rest
  row_count done rest (stop d) = ap recorded_count (append-nil done) ∙ omega arith
  row_count done rest (more d r later h row) =
      let step = recorded_gained done r h in
      let after = row_count (done ++ (r ∷ [])) later row in
      let together = ap recorded_count (append_assoc done (r ∷ []) later) in
      omega arith

  none_recorded : recorded_count [] ≡ 0
  unfolding recorded_count is_recorded some_of
  none_recorded = count_nothing (numbers_from 0 (length fs))

  -- a row of good records never has more than L records
  pub row_short : (rs : List Record) → GoodRow hyps fs [] rs → length rs ≤ length fs
  unfolding recorded_count
  row_short rs row =
      let count = row_count [] rs row in
      let before = none_recorded in
      let most = count_at_most (λ (n : ℕ). is_recorded n rs) (numbers_from 0 (length fs)) in
      let long = from_length 0 (length fs) in
      omega arith

  -- what such a row grows to does not either
  pub grown_short : (done : List Record) → GoodRow hyps fs [] done → (n : ℕ) → length done + length (grown hyps fs done n) ≤ length fs
  grown_short done row n =
      let more = grown hyps fs done n in
      rw (← length-append done more) (row_short (done ++ more) (good_append hyps fs [] done more row (grown_good hyps fs done n)))

  finished_or_next : (done : List Record) → (is_finished hyps fs done ≡ true) ⊎ ((r : Record) × (next hyps fs done ≡ Some r))
  unfolding is_finished
  finished_or_next done = by (next hyps fs done) refl
    where
      by : (o : Option Record) → next hyps fs done ≡ o → (is_none (next hyps fs done) ≡ true) ⊎ ((r : Record) × (next hyps fs done ≡ Some r))
      by None e = inl (ap is_none e)
      by (Some r) e = inr (r, e)

  -- what a limit of L or more leaves is finished
  pub grown_all : (done : List Record) (n : ℕ) → GoodRow hyps fs [] done → length fs ≤ n
      → is_finished hyps fs (done ++ grown hyps fs done n) ≡ true
  grown_all done n row enough =
      let most = grown_short done row (suc n) in
      grown_full hyps fs done n (omega arith)

module _ (hyps fs : List Formula) (lists : List-of hyps fs) where
  -- the finished journal from empty decides which formulas are derivable
  final : List Record
  final = grown hyps fs [] (length fs)

  row_sound : (done : List Record) → GoodRow hyps fs [] done → Sound hyps fs done
  row_sound done row = sound_row hyps fs [] done (sound_empty hyps fs) row

  final_sound : Sound hyps fs final
  unfolding final
  final_sound = row_sound (grown hyps fs [] (length fs)) (grown_good hyps fs [] (length fs))

  final_finished : is_finished hyps fs final ≡ true
  unfolding final
  final_finished = grown_all hyps fs [] (length fs) (stop []) (omega arith)

  derivable_final : (n : ℕ) → n < length fs → Derives hyps (numbered fs n) → is_recorded n final ≡ true
  derivable_final n low d = derivable_recorded_number hyps fs lists final n final_sound final_finished low d

  is_missing : List Record → ℕ → Bool
  is_missing done n = is_recorded n final && not (is_recorded n done)

  missing_count : List Record → ℕ
  missing_count done = count_of (is_missing done) (numbers_from 0 (length fs))

  none_missing : (done : List Record) → Sound hyps fs done → is_finished hyps fs done ≡ true → missing_count done ≡ 0
  unfolding missing_count is_missing
  none_missing done sound finished =
      count_alike (is_missing done) (λ (n : ℕ). false) (numbers_from 0 (length fs))
      (λ n m.
      let low : n < length fs = let b = from_above 0 (length fs) n m in omega arith in
      ⊎_elim
      (λ (yes : is_recorded n final ≡ true).
      rw (yes, derivable_recorded_number hyps fs lists done n sound finished low (premise_derived hyps fs final n final_sound yes)))
      (λ (other : is_recorded n final ≡ false). rw other)
      (cases_Bool (is_recorded n final)))
      ∙ count_nothing (numbers_from 0 (length fs))

  one_less : (done : List Record) (r : Record) → Sound hyps fs done → is_good hyps fs done r ≡ true
      → missing_count done ≡ suc (missing_count (done ++ (r ∷ [])))
  unfolding missing_count is_missing
  one_less done r sound h =
      let good = good_is hyps fs done r h in
      let found = derivable_final r.formula good.below (good_derives hyps fs done r sound h) in
      count_gained (is_missing (done ++ (r ∷ []))) (is_missing done) 0 (length fs) r.formula (omega arith)
      (let low = good.below in omega arith) (rw (found, recorded_now done r)) (rw (found, good.fresh))
      (λ m apart. ap (λ (b : Bool). is_recorded m final && not b) (recorded_other m done r apart))

  grown_count : (done : List Record) (n : ℕ) → Sound hyps fs done → length (grown hyps fs done n) ≡ min n (missing_count done)
  unfolding grown
  grown_count done zero sound = sym (zero-min (missing_count done))
  grown_count done (suc n) sound =
      ⊎_elim
      (λ finished.
      ap length (finished_grown hyps fs done (suc n) finished)
      ∙ sym (ap (min (suc n)) (none_missing done sound finished) ∙ min-zero (suc n)))
      (λ due.
      let r = due.0 in
      let h = next_good hyps fs done r due.1 in
      ap length (grown_some hyps fs done n r due.1)
      ∙ (ap suc (grown_count (done ++ (r ∷ [])) n (sound_more hyps fs done r sound h))
      ∙ (sym (suc-min-suc n (missing_count (done ++ (r ∷ [])))) ∙ ap (min (suc n)) (sym (one_less done r sound h)))))
      (finished_or_next hyps fs done)

  next_at : (i : ℕ) (x : Formula) (rest : List Formula) → ((k : ℕ) → k < length (x ∷ rest) → numbered (x ∷ rest) k ≡ numbered fs (i + k))
      → (k : ℕ) → k < length rest → numbered rest k ≡ numbered fs (suc i + k)
  unfolding numbered
  next_at i x rest at k low = at (suc k) (omega arith) ∙ ap (numbered fs) (omega arith)

  here_at : (i : ℕ) (x : Formula) (rest : List Formula) → ((k : ℕ) → k < length (x ∷ rest) → numbered (x ∷ rest) k ≡ numbered fs (i + k))
      → x ≡ numbered fs i
  unfolding numbered
  here_at i x rest at = at 0 (omega arith) ∙ ap (numbered fs) (omega arith)

  -- `Missing` and the count say the same of the list from a number on
  missing_counted : (done : List Record) (i : ℕ) (rest : List Formula) (m : ℕ)
      → ((k : ℕ) → k < length rest → numbered rest k ≡ numbered fs (i + k)) → i + length rest ≡ length fs
      → Missing hyps done i rest m → m ≡ count_of (is_missing done) (numbers_from i (length rest))
  unfolding numbers_from count_of is_missing numbered
  missing_counted done i rest m at size (no_more j) = refl
  missing_counted done i rest m at size (recorded j x later k h tail) =
      missing_counted done (suc i) later k (next_at i x later at) (omega arith) tail
      ∙ sym (count_failed (is_missing done) i (numbers_from (suc i) (length later)) (rw h (and-false (is_recorded i final))))
  missing_counted done i rest m at size (underivable j x later k h tail) =
      missing_counted done (suc i) later k (next_at i x later at) (omega arith) tail
      ∙ sym (count_failed (is_missing done) i (numbers_from (suc i) (length later))
      (⊎_elim
      (λ (yes : is_recorded i final ≡ true).
      absurd (h (subst (Derives hyps) (sym (here_at i x later at)) (premise_derived hyps fs final i final_sound yes))))
      (λ (other : is_recorded i final ≡ false). rw other)
      (cases_Bool (is_recorded i final))))
  missing_counted done i rest m at size (missing j x later k fresh d tail) =
      ap suc (missing_counted done (suc i) later k (next_at i x later at) (omega arith) tail)
      ∙ sym (count_passed (is_missing done) i (numbers_from (suc i) (length later))
      (rw (derivable_final i (omega arith) (subst (Derives hyps) (here_at i x later at) d), fresh)))

  some_missing : (done : List Record) (i : ℕ) (rest : List Formula)
      → ((k : ℕ) → k < length rest → numbered rest k ≡ numbered fs (i + k)) → i + length rest ≡ length fs
      → (m : ℕ) × Missing hyps done i rest m
  some_missing done i [] at size = (0, no_more i)
  some_missing done i (x ∷ rest) at size =
      let later = some_missing done (suc i) rest (next_at i x rest at) (omega arith) in
      ⊎_elim
      (λ (yes : is_recorded i done ≡ true). (later.0, recorded i x rest later.0 yes later.1))
      (λ (fresh : is_recorded i done ≡ false).
      ⊎_elim
      (λ (derived : is_recorded i final ≡ true). (
        suc later.0,
        missing i x rest later.0 fresh
            (subst (Derives hyps) (sym (here_at i x rest at)) (premise_derived hyps fs final i final_sound derived))
            later.1,
      ))
      (λ (other : is_recorded i final ≡ false). (
        later.0,
        underivable i x rest later.0
            (λ d.
            false≢true
            (sym other ∙ derivable_final i (omega arith) (subst (Derives hyps) (here_at i x rest at) d)))
            later.1,
      ))
      (cases_Bool (is_recorded i final)))
      (cases_Bool (is_recorded i done))

  missing_is : (done : List Record) (m : ℕ) → Missing hyps done 0 fs m → m ≡ missing_count done
  unfolding missing_count
  missing_is done m h = missing_counted done 0 fs m (λ k low. ap (numbered fs) (omega arith)) (omega arith) h

  -- some number is missing, and no other
  pub missing_exists : (done : List Record) → (m : ℕ) × Missing hyps done 0 fs m
  missing_exists done = some_missing done 0 fs (λ k low. ap (numbered fs) (omega arith)) (omega arith)

  pub missing_once : (done : List Record) (m n : ℕ) → Missing hyps done 0 fs m → Missing hyps done 0 fs n → m ≡ n
  missing_once done m n one other = missing_is done m one ∙ sym (missing_is done n other)

  -- a run adds the smaller of its limit and that number, and ends finished exactly if its limit reaches that number
  pub adds_smaller : (done : List Record) (n m : ℕ) → GoodRow hyps fs [] done → Missing hyps done 0 fs m
      → length (grown hyps fs done n) ≡ min n m
  adds_smaller done n m row h = grown_count done n (row_sound done row) ∙ ap (min n) (sym (missing_is done m h))

  pub finishes_exactly : (done : List Record) (n m : ℕ) → GoodRow hyps fs [] done → Missing hyps done 0 fs m
      → (is_finished hyps fs (done ++ grown hyps fs done n) ≡ true) ↔ (m ≤ n)
  finishes_exactly done n m row h = (
    λ finished.
        let most = adds_smaller done (n + m) m row h in
        let here = adds_smaller done n m row h in
        let same = ap length (finished_add hyps fs done n m finished) in
        omega arith,
    λ enough. let most = adds_smaller done (suc n) m row h in grown_full hyps fs done n (omega arith),
  )
