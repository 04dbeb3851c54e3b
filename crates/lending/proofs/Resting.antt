-- What is known of a kept part and of a number on the list is what the choice of the reasons asks.
-- Assumes nothing.
use Prim.Native.Nat.{ℕ, zero, suc, ◌+◌, ◌*◌, ◌/◌, ◌≤◌, ◌<◌}
use native.Mathlib.Omega.{arith}
use mathlib.Core.Path.{◌≡◌, refl, sym, ◌∙◌, ap, ap₂, subst}
use mathlib.Core.Bool.{Bool, false, ◌||◌, or-false}
use Rattle.std.specs.Prelude.{Some}
use mathlib.Core.List.{List, [], ◌∷◌, ◌++◌, map, nil≢cons, head-eq_of_cons-eq, tail-eq_of_cons-eq}
use lib.ListN.{length, take, drop, set, replicate, length-set, length-drop, length-replicate, get_or-replicate}
use lib.Dec.{eqb}
use lib.Seq.{drop-drop}
use borrow.Author.Tests.{lt-ltb, le-ltb, eqb-true, eq-eqb}
use Rattle.infon.specs.declared.Record.{Record}
use Rattle.infon.specs.declared.Chained.{Chained}
use Rattle.infon.specs.Codes.{when, settled}
use Rattle.infon.specs.Formula.{Formula}
use Rattle.infon.specs.Rules.{numbered}
use Rattle.infon.specs.Journal.{is_for, record_bytes, decoded, whole_records, spelled_all, kept_of}
use Rattle.infon.specs.Run.{written}
use Rattle.infon.specs.Chain.{code33, chain_refusal, lent}
use Rattle.infon.specs.Reasons.{reasons}
use Rattle.infon.proofs.Grown.{GoodRow, kept_good, kept_decoded, kept_short}
use Rattle.infon.proofs.Reasons.{good_number}
use Rattle.reader.specs.Decoded.{record_at}
use Rattle.formulas.specs.Table.{number_in, table_rows}
use Rattle.formulas.proofs.Numbers.{same_test, number_in_numbered, numbered_listed, same_numbers}
use Rattle.reasons.specs.Wanted.{is_wanted, swept_down, found_down, wanted_to, Chooses}
use Rattle.reasons.proofs.Joined.{wanted_set, Asks, found_reasons, wanted_reasons}
use Rattle.lending.specs.Lending.{lent_as, Rests}

-- the record with a count that whole records spell is what is read at its place
read_at : (k : ℕ) (s : List ℕ) (rs front rest : List Record) (r : Record) → record_bytes * k ≤ length s
    → map decoded (take (length rs) (whole_records k s)) ≡ map Some rs → rs ≡ front ++ (r ∷ rest) → record_at s (record_bytes * length front) ≡ Some r
unfolding whole_records record_at
read_at zero s rs [] rest r long spell e = absurd (nil≢cons (rw e at spell))
read_at zero s rs (q ∷ front) rest r long spell e = absurd (nil≢cons (rw e at spell))
read_at (suc k) s rs [] rest r long spell e =
    let same = rw e at spell in
    rw (le-ltb (length s) record_bytes (omega arith)) (head-eq_of_cons-eq same)
read_at (suc k) s rs (q ∷ front) rest r long spell e =
    let same = rw e at spell in
    let size = length-drop record_bytes s in
    let later = read_at k (drop record_bytes s) (front ++ (r ∷ rest)) front rest r (omega arith) (tail-eq_of_cons-eq same) refl in
    let places : record_bytes + record_bytes * length front ≡ record_bytes * suc (length front) = omega arith in
    let behind : drop (record_bytes * length front) (drop record_bytes s) ≡ drop (record_bytes * suc (length front)) s =
    drop-drop (record_bytes * length front) record_bytes s ∙ ap (λ (n : ℕ). drop n s) places in
    rw behind at later

none_wanted : (p : ℕ) → p < table_rows → is_wanted (replicate table_rows 0) p ≡ false
unfolding is_wanted
none_wanted p low = rw (get_or-replicate {A = ℕ} table_rows p 0 0 low)

-- only the number is wanted at first
only_number : (number p : ℕ) → p < table_rows → is_wanted (set (replicate table_rows 0) number 1) p ≡ eqb p number
only_number number p low =
    wanted_set (replicate table_rows 0) number p (rw (length-replicate {A = ℕ} table_rows 0) low)
    ∙ (ap (λ (b : Bool). eqb p number || b) (none_wanted p low) ∙ or-false (eqb p number))

eqb_swap : (a b : ℕ) → eqb a b ≡ eqb b a
eqb_swap a b = same_test (eqb a b) (eqb b a) (λ h. eq-eqb b a (sym (eqb-true a b h))) (λ h. eq-eqb a b (sym (eqb-true b a h)))

module _ {hyps fs : List Formula} {x : Formula} {journal : List ℕ} {used kept number : ℕ} (rests : Rests hyps fs x journal used kept number) where
  abbrev rs : List Record
  rs = kept_of hyps fs journal used

  pub rests_good : GoodRow hyps fs [] rs
  unfolding kept_of
  rests_good = kept_good hyps fs [] (whole_records (used / record_bytes) journal)

  -- the formula is the record's exactly where the number is
  own_number : (r : Record) → r.formula < length fs → is_for fs x r ≡ eqb r.formula number
  own_number r low =
      same_numbers fs x (numbered fs r.formula) rests.listed (numbered_listed fs r.formula low)
      ∙ (ap (eqb (number_in fs x)) (number_in_numbered fs rests.once r.formula low)
      ∙ (eqb_swap (number_in fs x) r.formula ∙ ap (eqb r.formula) (sym rests.number_is)))

  pub rests_asks : Asks fs x number rs journal (set (replicate table_rows 0) number 1)
  unfolding kept_of
  rests_asks =
      let size = length-set {A = ℕ} (replicate table_rows 0) number 1 ∙ length-replicate {A = ℕ} table_rows 0 in
      record {
        reads =
            λ front rest r e.
            read_at (used / record_bytes) journal rs front rest r (let within = rests.inside in omega arith)
            (kept_decoded hyps fs [] (whole_records (used / record_bytes) journal)) e;
        short = omega arith;
        numbers =
            λ front rest r e.
            let low = good_number hyps fs [] front rest r (subst (GoodRow hyps fs []) e rests_good) in let few = rests.few in omega arith;
        own = λ front rest r e. own_number r (good_number hyps fs [] front rest r (subst (GoodRow hyps fs []) e rests_good));
        only = λ p low. only_number number p (omega arith);
      }

  -- the records are inside the journal
  pub rests_inside : record_bytes * kept ≤ length journal
  unfolding kept_of
  rests_inside =
      let short = kept_short hyps fs [] (used / record_bytes) journal in
      let counts = rests.counts in
      let within = rests.inside in
      omega arith

  module _ {wanted : List ℕ} {records : ℕ} {after : List ℕ} (asked : wanted ≡ set (replicate table_rows 0) number 1)
      (chooses : Chooses journal kept wanted records after) where
    records_are : records ≡ length (reasons fs x rs)
    records_are =
        chooses.counted
        ∙ (ap₂ (found_down journal) rests.counts asked
        ∙ found_reasons fs x number rs journal (set (replicate table_rows 0) number 1) rests_asks)

    wanted_are : wanted_to journal after kept ≡ reasons fs x rs
    wanted_are =
        ap (λ (row : List ℕ). wanted_to journal row kept) chooses.wishes
        ∙ (ap₂ (λ (k : ℕ) (row : List ℕ). wanted_to journal (swept_down journal k row) k) rests.counts asked
        ∙ wanted_reasons fs x number rs journal (set (replicate table_rows 0) number 1) rests_asks hyps rests_good)

    -- the wanted ones fit where so many records do
    pub lend_room : (out : List ℕ) → record_bytes * records ≤ length out → record_bytes * length (wanted_to journal after kept) ≤ length out
    lend_room out room = let count = records_are in let row = ap length wanted_are in omega arith

    pub unfit : (out : List ℕ) {told : Chained} → length out < record_bytes * records → told ≡ (chain_refusal 33 0 []).told
        → lent_as told out ≡ settled (code33 (reasons fs x rs) out) (λ (code place : ℕ). chain_refusal code place out) (lent (reasons fs x rs) out)
    unfolding settled code33 when chain_refusal
    unfit out short e =
        let over = lt-ltb (length out) (record_bytes * length (reasons fs x rs)) (let count = records_are in omega arith) in
        rw (over, e)

    pub fit : (out : List ℕ) {put : List ℕ} → record_bytes * records ≤ length out → put ≡ written out 0 (spelled_all (wanted_to journal after kept))
        → lent_as (record { code = 0; place = 0; records = records }) put
        ≡ settled (code33 (reasons fs x rs) out) (λ (code place : ℕ). chain_refusal code place out) (lent (reasons fs x rs) out)
    unfolding settled code33 when lent
    fit out room e =
        let within = le-ltb (length out) (record_bytes * length (reasons fs x rs)) (let count = records_are in omega arith) in
        rw (within, e, wanted_are, records_are)
