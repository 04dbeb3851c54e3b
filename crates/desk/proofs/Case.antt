-- 01, "Case 2 prints, whole": the desk's text for that file, from the definitions.
-- Assumes nothing.
use mathlib.Core.Path.{◌≡◌, refl}
use Rattle.infon.specs.Bytes
use Rattle.infon.specs.Formula
use Rattle.infon.specs.Codes
use Rattle.infon.specs.Policy
use Rattle.infon.specs.Listing
use Rattle.infon.specs.Rules
use Rattle.infon.specs.Journal
use Rattle.infon.specs.Run
use Rattle.infon.proofs.Cases.{case2}
use Rattle.writing.specs.Texts
use Rattle.printing.specs.Printed
use Rattle.desk.specs.Desk.{desk_run, desk_text}

pub case_2_printed : desk_text (Bytes.bytes case2) ≡ Bytes.bytes "1 yes\n2 yes\n3 no\n"
unfolding Bytes.bytes Bytes.line_feed Bytes.space Bytes.alike Bytes.every Bytes.some_of Bytes.first_of Formula.is_name_byte Formula.is_name Formula.is_named Formula.letter_of Formula.words Formula.joined Formula.spelling Formula.onto Formula.tokens Formula.join_two Formula.quote Formula.take_word Formula.read_words Formula.only_one Formula.formula_of Formula.same_told Formula.same_quotation Formula.same Formula.nodes Formula.depth Policy.cut Policy.placed Policy.lines_of Policy.before_feed Policy.read Policy.sentence_of Policy.is_well_formed Policy.with_entry Policy.entries_from Policy.entries_of Policy.formula_in Policy.hypotheses_of Policy.queries_of Codes.when Codes.and_then Codes.tried Codes.settled Policy.code1 Policy.code2_from Policy.code2 Policy.most_nodes Policy.code3_from Policy.code3 Policy.most_depth Policy.code4 Listing.wrap Listing.weaker_told Listing.inside Listing.inside_each Listing.weaker_prefixes Listing.weakened Listing.weakened_bases Listing.is_listed Listing.enlist Listing.list_from Listing.list_of Listing.most_listed Listing.code5_from Listing.code5 Rules.shape_under Rules.shape_of Rules.prefix_under Rules.core_of Rules.weakenings Rules.is_truth Rules.is_left Rules.is_right Rules.are_both Rules.is_conclusion Rules.is_condition Rules.numbered Rules.gives Journal.is_recorded Journal.premises_in Journal.is_good Journal.no_premise Journal.rule_of Journal.first_premise Journal.second_premise Journal.two_bytes Journal.spelled Journal.spelled_all Journal.alone Journal.with_one Journal.way_of Journal.number_at Journal.decoded Journal.whole_records Journal.followed Journal.only_good Journal.kept_after Journal.kept_of Journal.numbers_from Journal.each_pair Journal.all_ways Journal.records_for Journal.all_records Journal.next Journal.is_finished Journal.grown Run.answer_byte Run.answer_of Run.is_on_record Run.answers_of Run.file_codes Run.code6 Run.code7 Run.code8 Run.code9 Run.refusal Run.written Run.success Run.run desk_run desk_text Texts.digits_of Texts.decimal_of Texts.word_of Texts.line_of Printed.behind_of Printed.printed_from Printed.printed_answers Printed.printed_run Printed.printed_of
case_2_printed = refl
