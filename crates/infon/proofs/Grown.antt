-- Rows of records each good after those before it: the kept part is the longest such row, growth adds such rows one record at
-- a time, and what they spell is kept again.
-- Assumes nothing.
use Prim.Native.Nat.{ℕ, zero, suc, ◌+◌, ◌*◌, ◌≤◌, ◌<◌, suc-le-suc, min}
use native.Mathlib.Nat.{le_of_suc-le-suc, not-suc-le-zero, zero-add, add_comm, suc-add, suc-min-suc, zero-min, min-zero}
use native.Mathlib.Omega.{arith}
use mathlib.Core.Path.{◌≡◌, refl, sym, ◌∙◌, ap}
use mathlib.Core.Logic.{inl, inr}
use mathlib.Core.Bool.{Bool, true, false, ◌&&◌, not, false≢true}
use Rattle.std.specs.Prelude.{Option, None, Some}
use Rattle.std.proofs.lemmas.Option.{none-some}
use mathlib.Core.List.Memᴰ
use mathlib.Core.List.{List, [], ◌∷◌, ◌++◌, map, append_assoc, append-nil, Memᴰ, nil≢cons, cons≢nil, head-eq_of_cons-eq, tail-eq_of_cons-eq}
use lib.ListN.{length, take, drop, take-append-drop}
use lib.Dec.{ltb, eqb}
use lib.Seq.{take-nil, take_all, take-append_seam}
use borrow.Author.Tests.{ltb-true, eqb-true, not-true}
use Rattle.infon.specs.declared.Way.{Way}
use Rattle.infon.specs.declared.Way.TheVariants.{Hypothesis, Given, Weaken, Left, Right, Both, Apply, Attach}
use Rattle.infon.specs.declared.Record.{Record}
use Rattle.infon.specs.Bytes.{first_of}
use Rattle.infon.specs.Formula.{Formula}
use Rattle.infon.specs.Rules.{gives, numbered}
use Rattle.infon.specs.Journal.{record_bytes, is_recorded, premises_in, is_good, no_premise, first_premise, second_premise, spelled, spelled_all, decoded, whole_records, followed, only_good, kept_after, next, is_finished, grown, all_records}
use Rattle.std.specs.Prelude.{is_none}
use Rattle.std.proofs.lemmas.Bool.{and_parts}
use Rattle.infon.proofs.Rows.{some_of_witness}
use Rattle.infon.proofs.Codec.{cond_cases, AreBytes, Small, decoded_spelled_each, spelled_all_decoded, length_whole_records, whole_records_spelled_all}

-- Each of the records is good after `done` and those before it.
pub data GoodRow (hyps fs : List Formula) : List Record → List Record → Type 0 where
  stop : (done : List Record) → GoodRow hyps fs done []
  more : (done : List Record) (r : Record) (rest : List Record) → is_good hyps fs done r ≡ true → GoodRow hyps fs (done ++ (r ∷ [])) rest
      → GoodRow hyps fs done (r ∷ rest)

-- How a row is kept: until the rows of bytes end, or one of them spells no good record.
data Keeping (hyps fs : List Formula) : List Record → List (List ℕ) → List Record → Type 0 where
  through : (done : List Record) → Keeping hyps fs done [] []
  broken : (done : List Record) (s : List ℕ) (cs : List (List ℕ)) → only_good hyps fs done (decoded s) ≡ None → Keeping hyps fs done (s ∷ cs) []
  held : (done : List Record) (s : List ℕ) (cs : List (List ℕ)) (r : Record) (rest : List Record) → only_good hyps fs done (decoded s) ≡ Some r
      → Keeping hyps fs (done ++ (r ∷ [])) cs rest → Keeping hyps fs done (s ∷ cs) (r ∷ rest)

-- How a row grows: "each the next one", until the limit is reached or no record is next.
data Growth (hyps fs : List Formula) : List Record → ℕ → List Record → Type 0 where
  limited : (done : List Record) → Growth hyps fs done 0 []
  none_next : (done : List Record) (n : ℕ) → next hyps fs done ≡ None → Growth hyps fs done n []
  grew : (done : List Record) (n : ℕ) (r : Record) (rest : List Record) → next hyps fs done ≡ Some r → Growth hyps fs (done ++ (r ∷ [])) n rest
      → Growth hyps fs done (suc n) (r ∷ rest)

-- The numbers of all these records are below n.
abbrev pub Below : ℕ → List Record → Type 0
Below n done = (q : Record) → Memᴰ q done → q.formula < n

-- what `first_of` gives passes the test
pub first_of_passes : {A : Type 0} (test : A → Bool) (xs : List A) (x : A) → first_of test xs ≡ Some x → test x ≡ true
unfolding first_of
first_of_passes test [] x e = absurd (none-some x e)
first_of_passes test (y ∷ ys) x e =
    elim (cond_cases (test y) (Some y) (first_of test ys) (Some x) e) [
      | inl passes ↦ let same : y ≡ x = cc in rw (← same) passes.0
      | inr fails ↦ first_of_passes test ys x fails.1
    ]

-- a number that is recorded is some record's
pub recorded_by : (n : ℕ) (done : List Record) → is_recorded n done ≡ true → (r : Record) × (Memᴰ r done × (n ≡ r.formula))
unfolding is_recorded
recorded_by n done h =
    let found = some_of_witness (λ (r : Record). eqb n r.formula) done h in
    (found.0, (found.1.0, eqb-true n found.0.formula found.1.1))

recorded_below : (n p : ℕ) (done : List Record) → Below n done → is_recorded p done ≡ true → p < n
recorded_below n p done below h = let found = recorded_by p done h in rw found.1.1 (below found.0 found.1.0)

-- so each premise of a way fits in two bytes
premises_small : (w : Way) (done : List Record) → Below 65536 done → premises_in w done ≡ true → (first_premise w < 65536) × (second_premise w < 65536)
unfolding premises_in first_premise second_premise no_premise
premises_small Hypothesis done below h = omega arith
premises_small Given done below h = omega arith
premises_small (Weaken p) done below h = (recorded_below 65536 p done below h, omega arith)
premises_small (Left p) done below h = (recorded_below 65536 p done below h, omega arith)
premises_small (Right p) done below h = (recorded_below 65536 p done below h, omega arith)
premises_small (Both p q) done below h =
    let both = and_parts (is_recorded p done) (is_recorded q done) h in
    (recorded_below 65536 p done below both.0, recorded_below 65536 q done below both.1)
premises_small (Apply p q) done below h =
    let both = and_parts (is_recorded p done) (is_recorded q done) h in
    (recorded_below 65536 p done below both.0, recorded_below 65536 q done below both.1)
premises_small (Attach p) done below h = (recorded_below 65536 p done below h, omega arith)

module _ (hyps fs : List Formula) where
  -- "A record is good after given records if" these four hold
  pub good_parts : (done : List Record) (r : Record) → is_good hyps fs done r ≡ true
      → (r.formula < length fs) × (is_recorded r.formula done ≡ false) × (premises_in r.way done ≡ true)
      × (gives hyps fs r.way (numbered fs r.formula) ≡ true)
  unfolding is_good
  good_parts done r h =
      let number = ltb r.formula (length fs) in
      let unrecorded = not (is_recorded r.formula done) in
      let premises = premises_in r.way done in
      let given = gives hyps fs r.way (numbered fs r.formula) in
      let four = and_parts (number && unrecorded && premises) given h in
      let three = and_parts (number && unrecorded) premises four.0 in
      let two = and_parts number unrecorded three.0 in
      (ltb-true r.formula (length fs) two.0, not-true (is_recorded r.formula done) two.1, three.1, four.1)

  -- a row of bytes counts if it spells a record, and that is good
  only_good_some : (done : List Record) (o : Option Record) (r : Record) → only_good hyps fs done o ≡ Some r → (o ≡ Some r) × (is_good hyps fs done r ≡ true)
  unfolding only_good
  only_good_some done None r e = absurd (none-some r e)
  only_good_some done (Some q) r e =
      elim (cond_cases (is_good hyps fs done q) (Some q) None (Some r) e) [
        | inl good ↦ let same : q ≡ r = cc in (good.1, rw (← same) good.0)
        | inr bad ↦ absurd (none-some r bad.1)
      ]

  pub next_good : (done : List Record) (r : Record) → next hyps fs done ≡ Some r → is_good hyps fs done r ≡ true
  unfolding next
  next_good done r e = first_of_passes (is_good hyps fs done) (all_records (length fs)) r e

  kept_keeping : (done : List Record) (cs : List (List ℕ)) → Keeping hyps fs done cs (kept_after hyps fs done cs)
  unfolding kept_after followed
  kept_keeping done [] = through done
  kept_keeping done (s ∷ cs) = onwards (only_good hyps fs done (decoded s)) refl (λ (r : Record). kept_keeping (done ++ (r ∷ [])) cs)
    where
      onwards : (o : Option Record) → only_good hyps fs done (decoded s) ≡ o
          → ((r : Record) → Keeping hyps fs (done ++ (r ∷ [])) cs (kept_after hyps fs (done ++ (r ∷ [])) cs))
          → Keeping hyps fs done (s ∷ cs) (followed o (λ (r : Record). kept_after hyps fs (done ++ (r ∷ [])) cs))
      onwards None e later = broken done s cs e
      onwards (Some r) e later = held done s cs r (kept_after hyps fs (done ++ (r ∷ [])) cs) e (later r)

  grown_growth : (done : List Record) (n : ℕ) → Growth hyps fs done n (grown hyps fs done n)
  unfolding grown followed
  grown_growth done zero = limited done
  grown_growth done (suc n) = onwards (next hyps fs done) refl (λ (r : Record). grown_growth (done ++ (r ∷ [])) n)
    where
      onwards : (o : Option Record) → next hyps fs done ≡ o
          → ((r : Record) → Growth hyps fs (done ++ (r ∷ [])) n (grown hyps fs (done ++ (r ∷ [])) n))
          → Growth hyps fs done (suc n) (followed o (λ (r : Record). grown hyps fs (done ++ (r ∷ [])) n))
      onwards None e later = none_next done (suc n) e
      onwards (Some r) e later = grew done n r (grown hyps fs (done ++ (r ∷ [])) n) e (later r)

  keeping_good : (done : List Record) (cs : List (List ℕ)) (xs : List Record) → Keeping hyps fs done cs xs → GoodRow hyps fs done xs
  keeping_good done cs xs (through _) = stop done
  keeping_good done cs xs (broken _ s rest e) = stop done
  keeping_good done cs xs (held _ s rest r ys e later) =
      more done r ys (only_good_some done (decoded s) r e).1 (keeping_good (done ++ (r ∷ [])) rest ys later)

  growth_good : (done : List Record) (n : ℕ) (xs : List Record) → Growth hyps fs done n xs → GoodRow hyps fs done xs
  growth_good done n xs (limited _) = stop done
  growth_good done n xs (none_next _ _ e) = stop done
  growth_good done n xs (grew _ m r rest e later) = more done r rest (next_good done r e) (growth_good (done ++ (r ∷ [])) m rest later)

  pub kept_good : (done : List Record) (cs : List (List ℕ)) → GoodRow hyps fs done (kept_after hyps fs done cs)
  kept_good done cs = keeping_good done cs (kept_after hyps fs done cs) (kept_keeping done cs)

  pub grown_good : (done : List Record) (n : ℕ) → GoodRow hyps fs done (grown hyps fs done n)
  grown_good done n = growth_good done n (grown hyps fs done n) (grown_growth done n)

  pub good_first : (done : List Record) (r : Record) (rest : List Record) → GoodRow hyps fs done (r ∷ rest)
      → (is_good hyps fs done r ≡ true) × GoodRow hyps fs (done ++ (r ∷ [])) rest
  good_first done r rest (more d q later h row) = (h, row)

  -- a record of a good row is for a formula that none before it is for
  pub good_fresh : (done before after : List Record) (r : Record) → GoodRow hyps fs done (before ++ (r ∷ after))
      → is_recorded r.formula (done ++ before) ≡ false
  good_fresh done [] after r row = rw append-nil (good_parts done r (good_first done r after row).0).1
  good_fresh done (q ∷ before) after r row =
      rw append_assoc at (good_fresh (done ++ (q ∷ [])) before after r (good_first done q (before ++ (r ∷ after)) row).1)

  pub good_append : (done xs ys : List Record) → GoodRow hyps fs done xs → GoodRow hyps fs (done ++ xs) ys → GoodRow hyps fs done (xs ++ ys)
  good_append done xs ys (stop _) goods = rw append-nil at goods
  good_append done xs ys (more _ r rest good later) goods =
      more done r (rest ++ ys) good (good_append (done ++ (r ∷ [])) rest ys later (rw append_assoc goods))

  pub good_take : (done xs : List Record) (n : ℕ) → GoodRow hyps fs done xs → GoodRow hyps fs done (take n xs)
  good_take done xs zero goods = stop done
  good_take done xs (suc n) (stop _) = stop done
  good_take done xs (suc n) (more _ r rest good later) = more done r (take n rest) good (good_take (done ++ (r ∷ [])) rest n later)

  keeping_decoded : (done : List Record) (cs : List (List ℕ)) (xs : List Record) → Keeping hyps fs done cs xs → map decoded (take (length xs) cs) ≡ map Some xs
  keeping_decoded done cs xs (through _) = refl
  keeping_decoded done cs xs (broken _ s rest e) = refl
  keeping_decoded done cs xs (held _ s rest r ys e later) =
      rw ((only_good_some done (decoded s) r e).0, keeping_decoded (done ++ (r ∷ [])) rest ys later)

  keeping_short : (done : List Record) (cs : List (List ℕ)) (xs : List Record) → Keeping hyps fs done cs xs → length xs ≤ length cs
  keeping_short done cs xs (through _) = omega arith
  keeping_short done cs xs (broken _ s rest e) = omega arith
  keeping_short done cs xs (held _ s rest r ys e later) = suc-le-suc (keeping_short (done ++ (r ∷ [])) rest ys later)

  -- no more is kept than there are rows
  pub kept_short : (done : List Record) (n : ℕ) (s : List ℕ) → length (kept_after hyps fs done (whole_records n s)) ≤ n
  kept_short done n s =
      let short = keeping_short done (whole_records n s) (kept_after hyps fs done (whole_records n s)) (kept_keeping done (whole_records n s)) in
      let rows = length_whole_records n s in
      omega arith

  -- what is kept is what the rows of bytes spell
  pub kept_decoded : (done : List Record) (cs : List (List ℕ))
      → map decoded (take (length (kept_after hyps fs done cs)) cs) ≡ map Some (kept_after hyps fs done cs)
  kept_decoded done cs = keeping_decoded done cs (kept_after hyps fs done cs) (kept_keeping done cs)

  -- the kept part's bytes are what its records spell
  pub kept_spelled : (done : List Record) (n : ℕ) (s : List ℕ) → AreBytes s → record_bytes * n ≤ length s
      → take (record_bytes * length (kept_after hyps fs done (whole_records n s))) s ≡ spelled_all (kept_after hyps fs done (whole_records n s))
  kept_spelled done n s bytes h = spelled_all_decoded (kept_after hyps fs done (whole_records n s)) n s bytes h (kept_decoded done (whole_records n s))

  kept_some : (done : List Record) (s : List ℕ) (cs : List (List ℕ)) (r : Record) → decoded s ≡ Some r → is_good hyps fs done r ≡ true
      → kept_after hyps fs done (s ∷ cs) ≡ r ∷ kept_after hyps fs (done ++ (r ∷ [])) cs
  unfolding kept_after only_good followed
  kept_some done s cs r e good = rw (e, good)

  -- good records in front are kept, and what follows is kept after them
  pub kept_append : (done xs : List Record) (front later : List (List ℕ)) → GoodRow hyps fs done xs → map decoded front ≡ map Some xs
      → kept_after hyps fs done (front ++ later) ≡ xs ++ kept_after hyps fs (done ++ xs) later
  kept_append done xs [] later (stop _) e = rw append-nil
  kept_append done xs (s ∷ front) later (stop _) e = absurd (cons≢nil e)
  kept_append done xs [] later (more _ r rest good goods) e = absurd (nil≢cons e)
  kept_append done xs (s ∷ front) later (more _ r rest good goods) e =
      rw (
        kept_some done s (front ++ later) r (head-eq_of_cons-eq e) good,
        kept_append (done ++ (r ∷ [])) rest front later goods (tail-eq_of_cons-eq e),
        append_assoc,
      )

  -- the kept part is the longest: a row of good records that the rows of bytes begin with is a beginning of it
  pub kept_longest : (done xs : List Record) (cs : List (List ℕ)) → GoodRow hyps fs done xs → map decoded (take (length xs) cs) ≡ map Some xs
      → take (length xs) (kept_after hyps fs done cs) ≡ xs
  kept_longest done xs cs goods e =
      ap (λ (rows : List (List ℕ)). take (length xs) (kept_after hyps fs done rows)) (sym (take-append-drop (length xs) cs))
      ∙ ap (take (length xs)) (kept_append done xs (take (length xs) cs) (drop (length xs) cs) goods e)
      ∙ take-append_seam xs (kept_after hyps fs (done ++ xs) (drop (length xs) cs))

  -- growth stops where no record is next, and goes on behind the next one
  grown_none : (done : List Record) (n : ℕ) → next hyps fs done ≡ None → grown hyps fs done n ≡ []
  unfolding grown followed
  grown_none done zero e = refl
  grown_none done (suc n) e = rw e

  pub grown_some : (done : List Record) (n : ℕ) (r : Record) → next hyps fs done ≡ Some r → grown hyps fs done (suc n) ≡ r ∷ grown hyps fs (done ++ (r ∷ [])) n
  unfolding grown followed
  grown_some done n r e = rw e

  pub finished_none : (done : List Record) → is_finished hyps fs done ≡ true → next hyps fs done ≡ None
  unfolding is_finished
  finished_none done e = none_left (next hyps fs done) e
    where
      none_left : (o : Option Record) → is_none o ≡ true → o ≡ None
      none_left None e = refl
      none_left (Some r) e = absurd (false≢true e)

  pub none_finished : (done : List Record) → next hyps fs done ≡ None → is_finished hyps fs done ≡ true
  unfolding is_finished
  none_finished done e = rw e

  pub finished_grown : (done : List Record) (n : ℕ) → is_finished hyps fs done ≡ true → grown hyps fs done n ≡ []
  finished_grown done n e = grown_none done n (finished_none done e)

  growth_add : (done xs : List Record) (a b : ℕ) → Growth hyps fs done a xs → grown hyps fs done (a + b) ≡ xs ++ grown hyps fs (done ++ xs) b
  growth_add done xs a b (limited _) = rw (zero-add, append-nil)
  growth_add done xs a b (none_next _ _ e) = rw (append-nil, grown_none done (a + b) e, grown_none done b e)
  growth_add done xs a b (grew _ n r rest e later) =
      rw (suc-add, grown_some done (n + b) r e, growth_add (done ++ (r ∷ [])) rest n b later, append_assoc)

  growth_finished : (done xs : List Record) (n : ℕ) → Growth hyps fs done n xs → length xs < n → is_finished hyps fs (done ++ xs) ≡ true
  growth_finished done xs n (limited _) h = absurd (not-suc-le-zero h)
  growth_finished done xs n (none_next _ _ e) h = rw append-nil (none_finished done e)
  growth_finished done xs n (grew _ m r rest e later) h =
      rw append_assoc at (growth_finished (done ++ (r ∷ [])) rest m later (le_of_suc-le-suc h))

  growth_take : (done xs : List Record) (k n : ℕ) → Growth hyps fs done n xs → take k xs ≡ grown hyps fs done (min k n)
  unfolding grown
  growth_take done xs k n (limited _) = rw (take-nil, min-zero)
  growth_take done xs k n (none_next _ _ e) = rw (take-nil, grown_none done (min k n) e)
  growth_take done xs zero n (grew _ m r rest e later) = rw zero-min
  growth_take done xs (suc k) n (grew _ m r rest e later) =
      rw (suc-min-suc, grown_some done (min k m) r e, growth_take (done ++ (r ∷ [])) rest k m later)

  -- what a and then b records add is what a + b records add
  pub grown_add : (done : List Record) (a b : ℕ) → grown hyps fs done (a + b) ≡ grown hyps fs done a ++ grown hyps fs (done ++ grown hyps fs done a) b
  grown_add done a b = growth_add done (grown hyps fs done a) a b (grown_growth done a)

  -- a row that stays below its limit ends finished
  pub grown_finished : (done : List Record) (n : ℕ) → length (grown hyps fs done n) < n → is_finished hyps fs (done ++ grown hyps fs done n) ≡ true
  grown_finished done n = growth_finished done (grown hyps fs done n) n (grown_growth done n)

  pub take_grown : (done : List Record) (k n : ℕ) → take k (grown hyps fs done n) ≡ grown hyps fs done (min k n)
  take_grown done k n = growth_take done (grown hyps fs done n) k n (grown_growth done n)

  -- where a limit greater by one would not be reached, a row ends finished
  pub grown_full : (done : List Record) (n : ℕ) → length (grown hyps fs done (suc n)) ≤ n → is_finished hyps fs (done ++ grown hyps fs done n) ≡ true
  grown_full done n h =
      let longer = grown hyps fs done (suc n) in
      let same : longer ≡ grown hyps fs done n = sym (take_all n longer h) ∙ take_grown done n (suc n) ∙ ap (grown hyps fs done) (omega arith) in
      rw (← same) (grown_finished done (suc n) (suc-le-suc h))

  pub finished_add : (done : List Record) (m n : ℕ) → is_finished hyps fs (done ++ grown hyps fs done m) ≡ true → grown hyps fs done (m + n) ≡ grown hyps fs done m
  finished_add done m n e = rw (grown_add done m n, finished_grown (done ++ grown hyps fs done m) n e, append-nil)

  -- two rows grown from the same records that both end finished are the same
  pub finished_unique : (done : List Record) (m n : ℕ) → is_finished hyps fs (done ++ grown hyps fs done m) ≡ true
      → is_finished hyps fs (done ++ grown hyps fs done n) ≡ true → grown hyps fs done m ≡ grown hyps fs done n
  finished_unique done m n first second = sym (finished_add done m n first) ∙ ap (grown hyps fs done) (add_comm m n) ∙ finished_add done n m second

  module _ (short : length fs ≤ 4096) where
    below_snoc : (done : List Record) (r : Record) → Below (length fs) done → is_good hyps fs done r ≡ true → Below (length fs) (done ++ (r ∷ []))
    below_snoc done r below good q m =
        elim (Memᴰ.append_cases done m) [
          | inl early ↦ below q early
          | inr last ↦ rw (Memᴰ.eq_of_singleton last) (good_parts done r good).0
        ]

    good_small : (done : List Record) (r : Record) → Below (length fs) done → is_good hyps fs done r ≡ true → Small r
    good_small done r below good =
        let parts = good_parts done r good in
        let premises = premises_small r.way done (λ (q : Record) (m : Memᴰ q done). omega (arith, below q m)) parts.2 in
        record { number = omega arith; first = premises.0; second = premises.1 }

    row_small_after : (done xs : List Record) → Below (length fs) done → GoodRow hyps fs done xs → (q : Record) → Memᴰ q xs → Small q
    row_small_after done xs below (stop _) q m = absurd (Memᴰ.not-nil m)
    row_small_after done xs below (more _ r rest good later) q m =
        elim (Memᴰ.cases_cons m) [
          | inl here ↦ rw here (good_small done r below good)
          | inr there ↦ row_small_after (done ++ (r ∷ [])) rest (below_snoc done r below good) later q there
        ]

    -- the numbers of good records fit in their bytes
    pub row_small : (xs : List Record) → GoodRow hyps fs [] xs → (q : Record) → Memᴰ q xs → Small q
    row_small xs = row_small_after [] xs (λ (q : Record) (m : Memᴰ q []). absurd (Memᴰ.not-nil m))

    -- what good records spell is kept, up to any of them
    pub kept_of_spelled : (rs : List Record) (t : List ℕ) (n : ℕ) → GoodRow hyps fs [] rs → n ≤ length rs
        → kept_after hyps fs [] (whole_records n (spelled_all rs ++ t)) ≡ take n rs
    unfolding kept_after
    kept_of_spelled rs t n goods h =
        let xs = take n rs in
        let rows = map spelled xs in
        let goods_taken = good_take [] rs n goods in
        let read_back = decoded_spelled_each xs (row_small xs goods_taken) in
        rw (whole_records_spelled_all n rs t h, ← append-nil rows) (kept_append [] xs rows [] goods_taken read_back ∙ append-nil xs)
