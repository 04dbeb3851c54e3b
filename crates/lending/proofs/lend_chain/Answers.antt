-- `lending::lend_chain` meets its contract: each code in its turn, and otherwise the reasons.
use Rattle.lending.proofs.Chaining.{at_7, none_asked, beyond_asked, number_below, at_32, rests_for, at_end}
use Rattle.std.proofs.Math.Nat.{pos_of_ne-zero}
use native.Mathlib.Omega.{arith}
use Rattle.lending.proofs.lend_chain.Goals as goal
use Rattle.lending.proofs.lend_chain.Goals.{then-count-eq0-via-then-count-eq0, then-count-eq0-via-else-count-eq0+then-queries-count}

pub returns-then-journal-used : goal.returns-then-journal-used
returns-then-journal-used c = λ file for_file. at_7 file _ _ _ _ for_file.accepted c.if-journal-used.true c.refused.ensures

pub returns-then-count-eq0 : goal.returns-then-count-eq0
returns-then-count-eq0 c =
    λ file for_file.
    let are = for_file.prepared.asked_are in
    elim c.then-count-eq0.branch [
      | then-count-eq0-via-then-count-eq0 w ↦
          none_asked file _ _ _ _ for_file.accepted c.if-journal-used.false w.if-count-eq0.true c.refused-then-count-eq0.ensures
      | then-count-eq0-via-else-count-eq0+then-queries-count w ↦
          beyond_asked file _ _ _ _ for_file.accepted c.if-journal-used.false (omega (arith, w.if-queries-count.true)) c.refused-then-count-eq0.ensures
    ]

pub bounds-marks-number : goal.bounds-marks-number
bounds-marks-number c =
    number_below _ _ _ _ _ c.requires.for_file c.args.journal.now _ _ c.if-journal-used.false (pos_of_ne-zero c.if-count-eq0.false)
    c.if-queries-count.false c.from-number.ensures

pub returns-then-marks-number-ne1 : goal.returns-then-marks-number-ne1
returns-then-marks-number-ne1 c =
    λ file for_file.
    at_32 _ _ _ _ _ for_file _ _ _ c.if-journal-used.false (pos_of_ne-zero c.if-count-eq0.false) c.if-queries-count.false c.from-number.ensures
    c.keep-kept.ensures _ c.if-marks-number-ne1.true c.refused-then-marks-number-ne1.ensures

pub lend_reasons-requires : goal.lend_reasons-requires
lend_reasons-requires c = record {
  hyps = _;
  fs = _;
  x = _;
  used = _;
  rests =
      rests_for _ _ _ _ _ c.requires.for_file _ _ _ c.if-journal-used.false (pos_of_ne-zero c.if-count-eq0.false) c.if-queries-count.false
      c.from-number.ensures c.keep-kept.ensures;
}

pub returns : goal.returns
returns c =
    λ file for_file.
    at_end _ _ _ _ _ for_file _ _ _ c.if-journal-used.false (pos_of_ne-zero c.if-count-eq0.false) c.if-queries-count.false c.from-number.ensures
    c.keep-kept.ensures _ c.if-marks-number-ne1.false
    (c.lend_reasons.ensures _ _ _ _
    (rests_for _ _ _ _ _ for_file _ _ _ c.if-journal-used.false (pos_of_ne-zero c.if-count-eq0.false) c.if-queries-count.false
    c.from-number.ensures c.keep-kept.ensures))
