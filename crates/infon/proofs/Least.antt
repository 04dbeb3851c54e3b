-- The next record is the least good one in the order formula, rule, first premise, second premise.
-- Assumes nothing.
use Prim.Native.Nat.{ℕ, zero, suc, ◌≤◌, ◌<◌}
use mathlib.Core.Path.{◌≡◌, refl, sym, ◌∙◌, ap, subst}
use mathlib.Core.Logic.{◌⊎◌, inl, inr, ⊎_elim}
use mathlib.Core.List.Memᴰ
use mathlib.Core.List.{List, [], ◌∷◌, ◌++◌, map, Memᴰ}
use native.Mathlib.Omega.{arith}
use Rattle.infon.specs.declared.Way.{Way}
use Rattle.infon.specs.declared.Way.TheVariants.{Hypothesis, Given, Weaken, Left, Right, Both, Apply, Attach}
use Rattle.infon.specs.declared.Record.{Record}
use Rattle.infon.specs.Journal.{rule_of, first_premise, second_premise, numbers_from, each_pair, all_ways, records_for, all_records}
use Rattle.infon.proofs.Counting.{from_above, from_has}
use Rattle.infon.proofs.Ascending.{Ascending, ascending_append, ascending_map}

-- the order of ways: the rule, then the first premise, then the second
abbrev pub WayBefore : Way → Way → Type 0
WayBefore v w =
    (rule_of v < rule_of w)
    ⊎ ((rule_of v ≡ rule_of w)
    × ((first_premise v < first_premise w) ⊎ ((first_premise v ≡ first_premise w) × (second_premise v < second_premise w))))

-- the order of records: the formula's number, then the way
abbrev pub Before : Record → Record → Type 0
Before r s = (r.formula < s.formula) ⊎ ((r.formula ≡ s.formula) × WayBefore r.way s.way)

Less : ℕ → ℕ → Type 0
Less m n = m < n

numbers_ascend : (i k : ℕ) → Ascending Less (numbers_from i k)
unfolding numbers_from Less
numbers_ascend i zero = tt
numbers_ascend i (suc k) = (λ n m. (from_above (suc i) k n m).0, numbers_ascend (suc i) k)

-- ways of one rule, in order
pub record Block (k : ℕ) (ws : List Way) : Type 0 where
  pub rule : (w : Way) → Memᴰ w ws → rule_of w ≡ k
  pub ascends : Ascending WayBefore ws

-- ways of a rule and later ones, in order
pub record Since (k : ℕ) (ws : List Way) : Type 0 where
  pub rule : (w : Way) → Memᴰ w ws → k ≤ rule_of w
  pub ascends : Ascending WayBefore ws

block_since : (k : ℕ) (ws vs : List Way) → Block k ws → Since (suc k) vs → Since k (ws ++ vs)
block_since k ws vs here later =
    record {
      rule =
          λ w m.
          ⊎_elim
          (λ (i : Memᴰ w ws). let e = here.rule w i in omega arith)
          (λ (i : Memᴰ w vs). let e = later.rule w i in omega arith)
          (Memᴰ.append_cases ws m);
      ascends =
          ascending_append WayBefore ws vs here.ascends later.ascends
          (λ v w i j. inl (let e = here.rule v i in let f = later.rule w j in omega arith));
    }

one_block : (k : ℕ) (rule : ℕ → Way) (ns : List ℕ) → ((p : ℕ) → rule_of (rule p) ≡ k) → ((p : ℕ) → first_premise (rule p) ≡ p)
    → Ascending Less ns → Block k (map rule ns)
unfolding Less
one_block k rule ns is first up =
    record {
      rule = λ w m. let there = Memᴰ.of_map rule ns m in ap rule_of (sym there.2) ∙ is there.0;
      ascends =
          ascending_map rule Less WayBefore
          (λ p q less. inr (is p ∙ sym (is q), inl (let a = first p in let b = first q in omega arith))) ns up;
    }

pair_mem : (rule : ℕ → ℕ → Way) (ps qs : List ℕ) (w : Way) → Memᴰ w (each_pair rule ps qs)
    → (p : ℕ) × (Memᴰ p ps × ((q : ℕ) × (Memᴰ q qs × (w ≡ rule p q))))
unfolding each_pair
pair_mem rule [] qs w m = absurd (Memᴰ.not-nil m)
pair_mem rule (p ∷ ps) qs w m =
    ⊎_elim
    (λ (i : Memᴰ w (map (rule p) qs)). let there = Memᴰ.of_map (rule p) qs i in (p, (Memᴰ.head refl, (there.0, (there.1, sym there.2)))))
    (λ (i : Memᴰ w (each_pair rule ps qs)).
    let there = pair_mem rule ps qs w i in
    (there.0, (Memᴰ.tail there.1.0, there.1.1)))
    (Memᴰ.append_cases (map (rule p) qs) m)

mem_pair : (rule : ℕ → ℕ → Way) (p q : ℕ) (ps qs : List ℕ) → Memᴰ p ps → Memᴰ q qs
    → Memᴰ (rule p q) (each_pair rule ps qs)
unfolding each_pair
mem_pair rule p q [] qs i j = absurd (Memᴰ.not-nil i)
mem_pair rule p q (n ∷ ps) qs i j =
    ⊎_elim
    (λ (e : p ≡ n).
    Memᴰ.append_left (each_pair rule ps qs) (subst (λ (m : ℕ). Memᴰ (rule p q) (map (rule m) qs)) e (Memᴰ.map (rule p) j)))
    (λ (t : Memᴰ p ps). Memᴰ.append_right (map (rule n) qs) (mem_pair rule p q ps qs t j))
    (Memᴰ.cases_cons i)

two_block : (k : ℕ) (rule : ℕ → ℕ → Way) (ps qs : List ℕ) → ((p q : ℕ) → rule_of (rule p q) ≡ k)
    → ((p q : ℕ) → first_premise (rule p q) ≡ p) → ((p q : ℕ) → second_premise (rule p q) ≡ q) → Ascending Less ps
    → Ascending Less qs → Block k (each_pair rule ps qs)
unfolding each_pair Less
two_block k rule [] qs is first second up across = record { rule = λ w m. absurd (Memᴰ.not-nil m); ascends = tt }
two_block k rule (p ∷ ps) qs is first second up across =
    let later = two_block k rule ps qs is first second up.1 across in
    record {
      rule =
          λ w m.
          let there = pair_mem rule (p ∷ ps) qs w m in
          ap rule_of there.1.1.1.1 ∙ is there.0 there.1.1.0;
      ascends =
          ascending_append WayBefore (map (rule p) qs) (each_pair rule ps qs)
          (ascending_map (rule p) Less WayBefore
          (λ a b less.
          inr
          (is p a ∙ sym (is p b), inr (first p a ∙ sym (first p b), let x = second p a in let y = second p b in omega arith)))
          qs across)
          later.ascends
          (λ v w i j.
          let from = Memᴰ.of_map (rule p) qs i in
          let to = pair_mem rule ps qs w j in
          let ev = sym from.2 in
          let ew = to.1.1.1.1 in
          let less = up.0 to.0 to.1.0 in
          inr (
            (ap rule_of ev ∙ is p from.0) ∙ sym (ap rule_of ew ∙ is to.0 to.1.1.0),
            inl
                (let a = ap first_premise ev ∙ first p from.0 in
                let b = ap first_premise ew ∙ first to.0 to.1.1.0 in
                omega arith),
          ));
    }

ways_ascend : (ns : List ℕ) → Ascending Less ns → Ascending WayBefore (all_ways ns)
unfolding all_ways rule_of first_premise second_premise
ways_ascend ns up =
    let attach = one_block 8 Attach ns (λ p. refl) (λ p. refl) up in
    let since8 : Since 8 (map Attach ns) =
    record { rule = λ w m. let e = attach.rule w m in omega arith; ascends = attach.ascends } in
    let since7 =
    block_since 7 (each_pair Apply ns ns) (map Attach ns)
    (two_block 7 Apply ns ns (λ p q. refl) (λ p q. refl) (λ p q. refl) up up) since8 in
    let since6 =
    block_since 6 (each_pair Both ns ns) (each_pair Apply ns ns ++ map Attach ns)
    (two_block 6 Both ns ns (λ p q. refl) (λ p q. refl) (λ p q. refl) up up) since7 in
    let since5 = block_since 5 (map Right ns) (each_pair Both ns ns ++ (each_pair Apply ns ns ++ map Attach ns))
    (one_block 5 Right ns (λ p. refl) (λ p. refl) up) since6 in
    let since4 = block_since 4 (map Left ns) (map Right ns ++ (each_pair Both ns ns ++ (each_pair Apply ns ns ++ map Attach ns)))
    (one_block 4 Left ns (λ p. refl) (λ p. refl) up) since5 in
    let since3 = block_since 3 (map Weaken ns)
    (map Left ns ++ (map Right ns ++ (each_pair Both ns ns ++ (each_pair Apply ns ns ++ map Attach ns))))
    (one_block 3 Weaken ns (λ p. refl) (λ p. refl) up) since4 in (
      λ w m.
          ⊎_elim
          (λ (e : w ≡ Given). inl (subst (λ (v : Way). 1 < rule_of v) (sym e) (omega arith)))
          (λ (i : Memᴰ w _). inl (let b = since3.rule w i in omega arith))
          (Memᴰ.cases_cons m),
      (λ w m. inl (let b = since3.rule w m in omega arith), since3.ascends),
    )

record_mem : (ways : List Way) (ns : List ℕ) (r : Record) → Memᴰ r (records_for ways ns)
    → Memᴰ r.formula ns × Memᴰ r.way ways
unfolding records_for
record_mem ways [] r m = absurd (Memᴰ.not-nil m)
record_mem ways (n ∷ ns) r m =
    ⊎_elim
    (λ (i : Memᴰ r (map (λ (w : Way). record { formula = n; way = w }) ways)).
    let there = Memᴰ.of_map (λ (w : Way). record { formula = n; way = w }) ways i in (
      Memᴰ.head (ap (λ (s : Record). s.formula) (sym there.2)),
      subst (λ (w : Way). Memᴰ w ways) (ap (λ (s : Record). s.way) there.2) there.1,
    ))
    (λ (i : Memᴰ r (records_for ways ns)).
    let there = record_mem ways ns r i in
    (Memᴰ.tail there.0, there.1))
    (Memᴰ.append_cases (map (λ (w : Way). record { formula = n; way = w }) ways) m)

mem_record : (ways : List Way) (ns : List ℕ) (r : Record) → Memᴰ r.formula ns → Memᴰ r.way ways
    → Memᴰ r (records_for ways ns)
unfolding records_for
mem_record ways [] r i j = absurd (Memᴰ.not-nil i)
mem_record ways (n ∷ ns) r i j =
    ⊎_elim
    (λ (e : r.formula ≡ n).
    Memᴰ.append_left (records_for ways ns)
    (subst (λ (m : ℕ). Memᴰ r (map (λ (w : Way). record { formula = m; way = w }) ways)) e
    (Memᴰ.map (λ (w : Way). record { formula = r.formula; way = w }) j)))
    (λ (t : Memᴰ r.formula ns).
    Memᴰ.append_right (map (λ (w : Way). record { formula = n; way = w }) ways) (mem_record ways ns r t j))
    (Memᴰ.cases_cons i)

records_ascend : (ways : List Way) (ns : List ℕ) → Ascending WayBefore ways → Ascending Less ns
    → Ascending Before (records_for ways ns)
unfolding records_for Less
records_ascend ways [] up across = tt
records_ascend ways (n ∷ ns) up across =
    ascending_append Before (map (λ (w : Way). record { formula = n; way = w }) ways) (records_for ways ns)
    (ascending_map (λ (w : Way). record { formula = n; way = w }) WayBefore Before (λ v w before. inr (refl, before)) ways up)
    (records_ascend ways ns up across.1)
    (λ r s i j.
    let from = Memᴰ.of_map (λ (w : Way). record { formula = n; way = w }) ways i in
    let e = ap (λ (t : Record). t.formula) from.2 in
    let less = across.0 s.formula (record_mem ways ns s j).0 in
    inl (omega arith))

pub all_ascend : (n : ℕ) → Ascending Before (all_records n)
unfolding all_records
all_ascend n =
    let up = numbers_ascend 0 n in
    records_ascend (all_ways (numbers_from 0 n)) (numbers_from 0 n) (ways_ascend (numbers_from 0 n) up) up

-- every premise that the way has is a number below n
abbrev pub PremisesBelow : ℕ → Way → Type 0
PremisesBelow n Hypothesis = Unit {0}
PremisesBelow n Given = Unit {0}
PremisesBelow n (Weaken p) = p < n
PremisesBelow n (Left p) = p < n
PremisesBelow n (Right p) = p < n
PremisesBelow n (Both p q) = (p < n) × (q < n)
PremisesBelow n (Apply p q) = (p < n) × (q < n)
PremisesBelow n (Attach p) = p < n

pub way_mem : (n : ℕ) (w : Way) → PremisesBelow n w → Memᴰ w (all_ways (numbers_from 0 n))
unfolding all_ways
way_mem n Hypothesis b = Memᴰ.head refl
way_mem n Given b = Memᴰ.tail (Memᴰ.head refl)
way_mem n (Weaken p) b =
    Memᴰ.tail (Memᴰ.tail (Memᴰ.append_left _ (Memᴰ.map Weaken (from_has 0 n p (omega arith) (omega arith)))))
way_mem n (Left p) b =
    Memᴰ.tail
    (Memᴰ.tail
    (Memᴰ.append_right (map Weaken (numbers_from 0 n))
    (Memᴰ.append_left _ (Memᴰ.map Left (from_has 0 n p (omega arith) (omega arith))))))
way_mem n (Right p) b =
    Memᴰ.tail
    (Memᴰ.tail
    (Memᴰ.append_right (map Weaken (numbers_from 0 n))
    (Memᴰ.append_right (map Left (numbers_from 0 n))
    (Memᴰ.append_left _ (Memᴰ.map Right (from_has 0 n p (omega arith) (omega arith)))))))
way_mem n (Both p q) b =
    Memᴰ.tail
    (Memᴰ.tail
    (Memᴰ.append_right (map Weaken (numbers_from 0 n))
    (Memᴰ.append_right (map Left (numbers_from 0 n))
    (Memᴰ.append_right (map Right (numbers_from 0 n))
    (Memᴰ.append_left _
    (mem_pair Both p q (numbers_from 0 n) (numbers_from 0 n) (from_has 0 n p (omega arith) (omega arith))
    (from_has 0 n q (omega arith) (omega arith))))))))
way_mem n (Apply p q) b =
    Memᴰ.tail
    (Memᴰ.tail
    (Memᴰ.append_right (map Weaken (numbers_from 0 n))
    (Memᴰ.append_right (map Left (numbers_from 0 n))
    (Memᴰ.append_right (map Right (numbers_from 0 n))
    (Memᴰ.append_right (each_pair Both (numbers_from 0 n) (numbers_from 0 n))
    (Memᴰ.append_left _
    (mem_pair Apply p q (numbers_from 0 n) (numbers_from 0 n) (from_has 0 n p (omega arith) (omega arith))
    (from_has 0 n q (omega arith) (omega arith)))))))))
way_mem n (Attach p) b =
    Memᴰ.tail
    (Memᴰ.tail
    (Memᴰ.append_right (map Weaken (numbers_from 0 n))
    (Memᴰ.append_right (map Left (numbers_from 0 n))
    (Memᴰ.append_right (map Right (numbers_from 0 n))
    (Memᴰ.append_right (each_pair Both (numbers_from 0 n) (numbers_from 0 n))
    (Memᴰ.append_right (each_pair Apply (numbers_from 0 n) (numbers_from 0 n))
    (Memᴰ.map Attach (from_has 0 n p (omega arith) (omega arith)))))))))

-- every record whose numbers are below n is among the candidates
pub all_has : (n : ℕ) (r : Record) → r.formula < n → PremisesBelow n r.way → Memᴰ r (all_records n)
unfolding all_records
all_has n r f b =
    mem_record (all_ways (numbers_from 0 n)) (numbers_from 0 n) r (from_has 0 n r.formula (omega arith) (omega arith))
    (way_mem n r.way b)
