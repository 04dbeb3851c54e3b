-- 01, "From the desk, on both sides": the starred cases as one table, and 02's chain on the second. A row that is wrong is refused at
-- its own place.
-- Assumes nothing.
use Prim.Native.Nat.{ℕ, zero, suc, ◌/◌, ◌%◌, ◌^◌}
use Prim.Native.String.{String}
use mathlib.Core.Path.{◌≡◌, refl}
use mathlib.Core.Bool.{Bool, true, false}
use mathlib.Core.List.{List, [], ◌∷◌, ◌++◌, map}
use lib.ListN.{length, take, drop, replicate}
use Rattle.infon.specs.declared.Answer.{Answer}
use Rattle.infon.specs.declared.Answer.TheVariants.{No, Yes, Open}
use Rattle.infon.specs.declared.Report.{Report}
use Rattle.infon.specs.Bytes
use Rattle.infon.specs.Formula
use Rattle.infon.specs.Codes
use Rattle.infon.specs.Policy
use Rattle.infon.specs.Listing
use Rattle.infon.specs.Rules
use Rattle.infon.specs.Journal
use Rattle.infon.specs.Run
use Rattle.infon.specs.Reasons
use Rattle.infon.specs.Chain
use Rattle.infon.specs.Run.{Outcome}

-- A row of the table. `asked`: run from an empty journal to the end, the file's queries get these answers. `listed`: the file's
-- list is spelled so. `run_on`: over these journal bytes a run to the end keeps and adds so many records and leaves these bytes.
-- `stopped`: over these journal bytes a run with this limit keeps and adds so many records, leaves these bytes, is not finished, and
-- gives the file's queries these answers. `refuses`: a journal buffer of so many bytes and this used length get this code, at place
-- 0, and both buffers stay as they were. `rests_on`: over these journal bytes the query with this count gets this chain in a lent
-- buffer of so many bytes; `has_none_lem`: it gets this code, at place 0, and the buffer stays as it was.
pub data Row : Type 0 where
  asked : String → List Answer → Row
  listed : String → List String → Row
  run_on : String → List ℕ → ℕ → ℕ → List ℕ → Row
  stopped : String → List ℕ → ℕ → ℕ → ℕ → List ℕ → List Answer → Row
  refuses : String → ℕ → ℕ → ℕ → Row
  rests_on : String → List ℕ → ℕ → ℕ → List ℕ → Row
  has_none_lem : String → List ℕ → ℕ → ℕ → ℕ → Row

-- the bytes of a number, the highest first
unfoldable pub high_first : ℕ → ℕ → List ℕ
high_first zero n = []
high_first (suc k) n = n / 256 ^ k % 256 ∷ high_first k n

unfoldable pub rows : List ℕ → List ℕ
rows [] = []
rows (n ∷ rest) = high_first 9 n ++ rows rest

-- Both buffers are longer than what stands in them; the bytes behind are none that these records and answers have.
unfoldable pub filled : ℕ → List ℕ → List ℕ
filled size front = front ++ drop (length front) (replicate size 0xEE)

-- A limit that no row reaches.
unfoldable pub enough : ℕ
enough = 20

unfoldable pub outcome : String → List ℕ → Outcome
unfolding Bytes.bytes Bytes.line_feed Bytes.space Bytes.alike Bytes.every Bytes.some_of Bytes.first_of Formula.is_name_byte Formula.is_name Formula.is_named Formula.letter_of Formula.words Formula.joined Formula.spelling Formula.onto Formula.tokens Formula.join_two Formula.quote Formula.take_word Formula.read_words Formula.only_one Formula.formula_of Formula.same_told Formula.same_quotation Formula.same Formula.nodes Formula.depth Policy.cut Policy.placed Policy.lines_of Policy.before_feed Policy.read Policy.sentence_of Policy.is_well_formed Policy.with_entry Policy.entries_from Policy.entries_of Policy.formula_in Policy.hypotheses_of Policy.queries_of Codes.when Codes.and_then Codes.tried Codes.settled Policy.code1 Policy.code2_from Policy.code2 Policy.most_nodes Policy.code3_from Policy.code3 Policy.most_depth Policy.code4 Listing.wrap Listing.weaker_told Listing.inside Listing.inside_each Listing.weaker_prefixes Listing.weakened Listing.weakened_bases Listing.is_listed Listing.enlist Listing.list_from Listing.list_of Listing.most_listed Listing.code5_from Listing.code5 Rules.shape_under Rules.shape_of Rules.prefix_under Rules.core_of Rules.weakenings Rules.is_truth Rules.is_left Rules.is_right Rules.are_both Rules.is_conclusion Rules.is_condition Rules.numbered Rules.gives Journal.is_recorded Journal.premises_in Journal.is_good Journal.no_premise Journal.rule_of Journal.first_premise Journal.second_premise Journal.two_bytes Journal.spelled Journal.spelled_all Journal.alone Journal.with_one Journal.way_of Journal.number_at Journal.decoded Journal.whole_records Journal.followed Journal.only_good Journal.kept_after Journal.kept_of Journal.numbers_from Journal.each_pair Journal.all_ways Journal.records_for Journal.all_records Journal.next Journal.is_finished Journal.grown Run.answer_byte Run.answer_of Run.is_on_record Run.answers_of Run.file_codes Run.code6 Run.code7 Run.code8 Run.code9 Run.refusal Run.written Run.success Run.run Reasons.is_premise Reasons.is_used Reasons.reasons Chain.query_of Chain.code31 Chain.code32 Chain.code33 Chain.chain_refusal Chain.lent Chain.chain
outcome file used = Run.run (Bytes.bytes file) (filled 72 used) (length used) enough (filled 5 [])

unfoldable pub reported : Bool → ℕ → ℕ → List ℕ → Report
reported finished kept added after = record { code = 0; place = 0; kept = kept; added = added; finished = finished; used = length after }

abbrev pub Holds : Row → Type 0
Holds (asked file answers) =
    ((outcome file []).report.finished ≡ true) × ((outcome file []).answers ≡ filled 5 (map Run.answer_byte answers))
Holds (listed file fs) = map Formula.spelling (Listing.list_of (Policy.entries_of (Bytes.bytes file))) ≡ map Bytes.bytes fs
Holds (run_on file used kept added after) =
    ((outcome file used).report ≡ reported true kept added after) × ((outcome file used).journal ≡ filled 72 after)
Holds (stopped file used limit kept added after answers) =
    Run.run (Bytes.bytes file) (filled 72 used) (length used) limit (filled 5 [])
    ≡ record { report = reported false kept added after; journal = filled 72 after; answers = filled 5 (map Run.answer_byte answers) }
Holds (refuses file size used code) =
    Run.run (Bytes.bytes file) (filled size []) used enough (filled 5 [])
    ≡ record {
      report = record { code = code; place = 0; kept = 0; added = 0; finished = false; used = used };
      journal = filled size [];
      answers = filled 5 [];
    }
Holds (rests_on file used count size row) =
    Chain.chain (Bytes.bytes file) (filled 72 used) (length used) count (filled size [])
    ≡ record { told = record { code = 0; place = 0; records = length row }; out = filled size (rows row) }
Holds (has_none_lem file used count size code) =
    Chain.chain (Bytes.bytes file) (filled 72 used) (length used) count (filled size [])
    ≡ record { told = record { code = code; place = 0; records = 0 }; out = filled size [] }

abbrev pub Each : List Row → Type 0
Each [] = Unit {0}
Each (row ∷ rest) = Holds row × Each rest

-- Case 2 and its four records, as 01 prints them.
abbrev pub case2 : String
case2 = "H > S bank paid paid\nH S bank paid\nQ paid\nQ P bank paid\nQ S bank lien\n"

abbrev pub r1 : ℕ
r1 = 0x4C51_01_0000_FFFF_FFFF

abbrev pub r2 : ℕ
r2 = 0x4C51_01_0001_FFFF_FFFF

abbrev pub r3 : ℕ
r3 = 0x4C51_03_0002_0001_FFFF

abbrev pub r4 : ℕ
r4 = 0x4C51_07_0003_0001_0000

unfoldable pub whole : List ℕ
whole = rows (r1 ∷ (r2 ∷ (r3 ∷ (r4 ∷ []))))

unfoldable pub exchanged : List ℕ
exchanged = rows (r2 ∷ (r1 ∷ (r3 ∷ (r4 ∷ []))))

-- The rows that 01 stars, in its order; and others that it names beside them: the two of case 11, rule 3 under an implication, a
-- premise that comes later, answers that the limit leaves open, the order of the codes, and that of weaker prefixes.
unfoldable pub table : List Row
table =
    -- 1: the empty file has nothing on its list, and its journal is finished
    listed "" [] ∷
    (run_on "" [] 0 0 [] ∷
    -- 2
    (asked case2 (Yes ∷ (Yes ∷ (No ∷ []))) ∷
    -- 3: under a quotation, T is given too
    (asked "Q S a T\n" (Yes ∷ []) ∷
    -- 4: put does not go up to said; said goes down to put
    (asked "H P a b\nQ S a b\n" (No ∷ []) ∷
    (asked "H S a b\nQ P a b\n" (Yes ∷ []) ∷
    -- 5, 6 and 7: an implication follows from its conclusion, and from nothing else
    (asked "H b\nQ > c b\n" (Yes ∷ []) ∷
    (asked "Q > b b\n" (No ∷ []) ∷
    (asked "H > b c\nH > c d\nQ > b d\n" (No ∷ []) ∷
    -- 8
    (asked "H + S a b S a c\nQ S a + b c\n" (Yes ∷ []) ∷
    -- 9: the list has what no line spells
    (asked "H S a > b c\nH P a b\nQ P a c\nQ S a c\n" (Yes ∷ (No ∷ [])) ∷
    -- 10
    (asked "H P a S c b\nQ S a P c b\n" (No ∷ []) ∷
    -- 11: a quotation is not dropped; a hypothesis below a query counts for it
    (asked "H S a + b c\nQ b\n" (No ∷ []) ∷
    (asked "Q b\nH b\n" (Yes ∷ []) ∷
    -- rule 3 touches only the outermost row of quotations
    (asked "H > c S a b\nQ > c P a b\n" (No ∷ []) ∷
    -- 2: its list, its journal from empty, cut to 20 bytes, with its first two records exchanged, with only its fourth record
    (listed case2 ("> S bank paid paid" ∷ ("S bank paid" ∷ ("P bank paid" ∷ ("paid" ∷ ("S bank lien" ∷ ("P bank lien" ∷ [])))))) ∷
    (run_on case2 [] 0 4 whole ∷
    (run_on case2 (take 20 whole) 2 2 whole ∷
    (run_on case2 exchanged 4 0 exchanged ∷
    (run_on case2 (rows (r4 ∷ [])) 0 4 whole ∷
    -- 2: its fourth record stands before one of its premises, and the reader stops there
    (run_on case2 (rows (r2 ∷ (r4 ∷ (r1 ∷ (r3 ∷ []))))) 1 3 exchanged ∷
    -- 2: with a limit of 2 no query is recorded yet; with one record more the second is
    (stopped case2 [] 2 0 2 (take 18 whole) (Open ∷ (Open ∷ (Open ∷ []))) ∷
    (stopped case2 (take 18 whole) 1 2 1 (take 27 whole) (Open ∷ (Yes ∷ (Open ∷ []))) ∷
    -- 2: a buffer of 53 bytes is shorter than 9 × 6 and than the used length: the earlier code is given
    (refuses case2 53 54 6 ∷
    -- the outermost place weighs most
    (listed "Q S a S b c\n" ("S a S b c" ∷ ("S a P b c" ∷ ("P a S b c" ∷ ("P a P b c" ∷ [])))) ∷
    -- 2: what each yes rests on, in the journal's order
    (rests_on case2 whole 1 27 (r1 ∷ (r2 ∷ (r4 ∷ []))) ∷
    (rests_on case2 whole 2 40 (r2 ∷ (r3 ∷ [])) ∷
    (rests_on case2 exchanged 1 40 (r2 ∷ (r1 ∷ (r4 ∷ []))) ∷
    -- 2: there are queries 1 to 3, the third is not recorded, and the first is not before its record stands; 26 bytes are too few
    (has_none_lem case2 whole 0 40 31 ∷
    (has_none_lem case2 whole 4 40 31 ∷
    (has_none_lem case2 whole 3 40 32 ∷
    (has_none_lem case2 (take 35 whole) 1 40 32 ∷
    (has_none_lem case2 whole 1 26 33 ∷ []))))))))))))))))))))))))))))))))

pub every_row : Each table
unfolding table outcome filled enough reported rows high_first whole exchanged Run.answer_byte
every_row = (
  refl,
  (
    (refl, refl),
    (
      (refl, refl),
      (
        (refl, refl),
        (
          (refl, refl),
          (
            (refl, refl),
            (
              (refl, refl),
              (
                (refl, refl),
                (
                  (refl, refl),
                  (
                    (refl, refl),
                    (
                      (refl, refl),
                      (
                        (refl, refl),
                        (
                          (refl, refl),
                          (
                            (refl, refl),
                            (
                              (refl, refl),
                              (
                                refl,
                                (
                                  (refl, refl),
                                  (
                                    (refl, refl),
                                    ((refl, refl), ((refl, refl), ((refl, refl), (refl, (refl, (refl, (refl, (refl, (refl, (refl, (refl, (refl, (refl, (refl, (refl, tt))))))))))))))),
                                  ),
                                ),
                              ),
                            ),
                          ),
                        ),
                      ),
                    ),
                  ),
                ),
              ),
            ),
          ),
        ),
      ),
    ),
  ),
)
