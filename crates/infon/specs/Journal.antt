-- 01, "The journal": records, their nine bytes, which are good, which are kept, the next one.
--
--   bytes 0 and 1   the mark 4C 51
--   byte 2          the rule, 1 to 8
--   bytes 3 and 4   the formula's number, high byte first
--   bytes 5 and 6   the first premise's number, or FF FF
--   bytes 7 and 8   the second premise's number, or FF FF
use Rattle.std.specs.Prelude.{ℕ, zero, suc, ◌+◌, ◌*◌, ◌/◌, ◌%◌, Bool, true, cond, ◌&&◌, not, List, [], ◌∷◌, ◌++◌, map, length, take, drop, get_or, ltb, eqb, Option, None, Some, option_map, flat_map, is_none}
use Rattle.infon.specs.declared.Way.{Way}
use Rattle.infon.specs.declared.Way.TheVariants.{Hypothesis, Given, Weaken, Left, Right, Both, Apply, Attach}
use Rattle.infon.specs.declared.Record.{Record}
use Rattle.infon.specs.Bytes.{some_of, first_of}
use Rattle.infon.specs.Formula.{Formula, same}
use Rattle.infon.specs.Rules.{numbered, gives}

-- "Nine bytes a record, high byte first: the mark 4C 51, the rule (one byte), the formula's number, first premise, second
-- premise (two bytes each). .. FF FF stands for no premise."
abbrev pub record_bytes : ℕ
record_bytes = 9

abbrev pub mark_high : ℕ
mark_high = 0x4C

abbrev pub mark_low : ℕ
mark_low = 0x51

unfoldable pub no_premise : ℕ
no_premise = 0xFFFF

unfoldable pub rule_of : Way → ℕ
rule_of Hypothesis = 1
rule_of Given = 2
rule_of (Weaken p) = 3
rule_of (Left p) = 4
rule_of (Right p) = 5
rule_of (Both p q) = 6
rule_of (Apply p q) = 7
rule_of (Attach p) = 8

unfoldable pub first_premise : Way → ℕ
first_premise Hypothesis = no_premise
first_premise Given = no_premise
first_premise (Weaken p) = p
first_premise (Left p) = p
first_premise (Right p) = p
first_premise (Both p q) = p
first_premise (Apply p q) = p
first_premise (Attach p) = p

unfoldable pub second_premise : Way → ℕ
second_premise Hypothesis = no_premise
second_premise Given = no_premise
second_premise (Weaken p) = no_premise
second_premise (Left p) = no_premise
second_premise (Right p) = no_premise
second_premise (Both p q) = q
second_premise (Apply p q) = q
second_premise (Attach p) = no_premise

unfoldable pub two_bytes : ℕ → List ℕ
two_bytes n = n / 256 % 256 ∷ (n % 256 ∷ [])

unfoldable pub spelled : Record → List ℕ
spelled r =
    mark_high ∷ (mark_low ∷ (rule_of r.way ∷ (two_bytes r.formula ++ (two_bytes (first_premise r.way) ++ two_bytes (second_premise r.way)))))

unfoldable pub spelled_all : List Record → List ℕ
spelled_all rs = flat_map spelled rs

-- the way that a rule's number and two premises spell: "its rule is 1 to 8", "each that it lacks is FF FF"
unfoldable pub alone : ℕ → ℕ → Way → Option Way
alone p q way = cond (eqb p no_premise && eqb q no_premise) (Some way) None

unfoldable pub with_one : ℕ → Way → Option Way
with_one q way = cond (eqb q no_premise) (Some way) None

unfoldable pub way_of : ℕ → ℕ → ℕ → Option Way
way_of rule p q =
    cond (eqb rule 1) (alone p q Hypothesis)
    (cond (eqb rule 2) (alone p q Given)
    (cond (eqb rule 3) (with_one q (Weaken p))
    (cond (eqb rule 4) (with_one q (Left p))
    (cond (eqb rule 5) (with_one q (Right p))
    (cond (eqb rule 6) (Some (Both p q))
    (cond (eqb rule 7) (Some (Apply p q))
    (cond (eqb rule 8) (with_one q (Attach p)) None)))))))

unfoldable pub number_at : List ℕ → ℕ → ℕ
number_at s i = get_or s i 0 * 256 + get_or s (i + 1) 0

-- the record that nine bytes spell, if they do
unfoldable pub decoded : List ℕ → Option Record
decoded s =
    cond (eqb (get_or s 0 0) mark_high && eqb (get_or s 1 0) mark_low)
    (option_map (λ (way : Way). record { formula = number_at s 3; way = way }) (way_of (get_or s 2 0) (number_at s 5) (number_at s 7)))
    None

-- the formula's number stands in one of the records
unfoldable pub is_recorded : ℕ → List Record → Bool
is_recorded n done = some_of (λ (r : Record). eqb n r.formula) done

-- the record is for the formula
abbrev pub is_for : List Formula → Formula → Record → Bool
is_for fs x r = same x (numbered fs r.formula)

-- "each premise that the rule has is recorded earlier"; "A premise is given by its formula's number on the list, not by the place
-- of its record."
unfoldable pub premises_in : Way → List Record → Bool
premises_in Hypothesis done = true
premises_in Given done = true
premises_in (Weaken p) done = is_recorded p done
premises_in (Left p) done = is_recorded p done
premises_in (Right p) done = is_recorded p done
premises_in (Both p q) done = is_recorded p done && is_recorded q done
premises_in (Apply p q) done = is_recorded p done && is_recorded q done
premises_in (Attach p) done = is_recorded p done

-- "A record is good after given records if .. its formula's number is below L and not recorded before, each premise that the
-- rule has is recorded earlier, .. and the rule gives that formula from them." The mark, the rule's number and the premises
-- that it lacks are the decoder's, above.
unfoldable pub is_good : List Formula → List Formula → List Record → Record → Bool
is_good hyps fs done r =
    ltb r.formula (length fs) && not (is_recorded r.formula done) && premises_in r.way done
    && gives hyps fs r.way (numbered fs r.formula)

-- "A reader goes through the journal record by record": the whole nine-byte records in front of a row of bytes
unfoldable pub whole_records : ℕ → List ℕ → List (List ℕ)
whole_records zero s = []
whole_records (suc n) s = take record_bytes s ∷ whole_records n (drop record_bytes s)

-- a record, and what comes after it; nothing where there is none
unfoldable pub followed : Option Record → (Record → List Record) → List Record
followed None more = []
followed (Some r) more = r ∷ more r

unfoldable pub only_good : List Formula → List Formula → List Record → Option Record → Option Record
only_good hyps fs done None = None
only_good hyps fs done (Some r) = cond (is_good hyps fs done r) (Some r) None

-- "The kept part is the longest row of whole nine-byte records at the journal's start, inside the used length, each good after
-- those before it." What is kept of the rows after the records `done`.
unfoldable pub kept_after : List Formula → List Formula → List Record → List (List ℕ) → List Record
kept_after hyps fs done [] = []
kept_after hyps fs done (s ∷ rest) =
    followed (only_good hyps fs done (decoded s)) (λ (r : Record). kept_after hyps fs (done ++ (r ∷ [])) rest)

unfoldable pub kept_of : List Formula → List Formula → List ℕ → ℕ → List Record
kept_of hyps fs journal used = kept_after hyps fs [] (whole_records (used / record_bytes) journal)

-- "The next record, if any: among all good records choose the least formula number, then the least rule, first premise and
-- second premise." All records over the first n numbers, in that order.
unfoldable pub numbers_from : ℕ → ℕ → List ℕ
numbers_from i zero = []
numbers_from i (suc n) = i ∷ numbers_from (suc i) n

unfoldable pub each_pair : (ℕ → ℕ → Way) → List ℕ → List ℕ → List Way
each_pair rule firsts seconds = flat_map (λ (p : ℕ). map (rule p) seconds) firsts

unfoldable pub all_ways : List ℕ → List Way
all_ways ns =
    Hypothesis ∷ (Given ∷ (map Weaken ns ++ (map Left ns ++ (map Right ns ++ (each_pair Both ns ns ++ (each_pair Apply ns ns ++ map Attach ns))))))

unfoldable pub records_for : List Way → List ℕ → List Record
records_for ways numbers = flat_map (λ (n : ℕ). map (λ (w : Way). record { formula = n; way = w }) ways) numbers

unfoldable pub all_records : ℕ → List Record
all_records n = records_for (all_ways (numbers_from 0 n)) (numbers_from 0 n)

unfoldable pub next : List Formula → List Formula → List Record → Option Record
next hyps fs done = first_of (is_good hyps fs done) (all_records (length fs))

-- "A journal with no next record is finished."
unfoldable pub is_finished : List Formula → List Formula → List Record → Bool
is_finished hyps fs done = is_none (next hyps fs done)

-- what at most n records, "each the next one", add to the records `done`
unfoldable pub grown : List Formula → List Formula → List Record → ℕ → List Record
grown hyps fs done zero = []
grown hyps fs done (suc n) = followed (next hyps fs done) (λ (r : Record). grown hyps fs (done ++ (r ∷ [])) n)
