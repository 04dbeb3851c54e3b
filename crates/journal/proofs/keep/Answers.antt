-- `journal::keep` meets its contract: each turn of the loop keeps one record more, or is the last.
use Rattle.std.proofs.Common.{ℕ, List, Option, ◌≡◌, ◌*◌, ap, sym, ◌∙◌, arith}
use Rattle.infon.specs.declared.Record.{Record}
use Rattle.formulas.proofs.Given.{good_below}
use Rattle.reader.specs.Decoded.{record_at}
use Rattle.journal.proofs.Keeping.{begin, turn, unread, not_good, over}
use Rattle.journal.proofs.keep.Goals as goal

-- what the reader found stands in the journal at the place behind what is kept
found : {o : Option Record} {row journal : List ℕ} {at : ℕ} (kept : ℕ) → o ≡ record_at row at → row ≡ journal → at ≡ kept * 9
    → record_at journal (kept * 9) ≡ o
found kept e same behind = rw (sym same, sym behind) (sym e)

pub loop-kept-init : goal.loop-kept-init
loop-kept-init c =
    let made = c.at-reader.ensures in
    record { going = begin c.requires.inside; row = ap (λ j. j.now) made.0; at = made.1 }

pub returns-in_default : goal.returns-in_default
returns-in_default c =
    let inv = c.loop-kept.invariant in
    unread inv.going c.loop-kept-test.true (found _ c.in_default.ensures inv.row inv.at)

pub returns-then-not-is_good : goal.returns-then-not-is_good
returns-then-not-is_good c =
    let inv = c.loop-kept.invariant in
    not_good inv.going _ c.loop-kept-test.true (found _ c.in-Some.ensures inv.row inv.at) (sym c.is_good.ensures ∙ c.if-not-is_good.true)

pub bounds-marks-r : goal.bounds-marks-r
bounds-marks-r c =
    let low = good_below _ _ _ _ (sym c.is_good.ensures ∙ c.if-not-is_good.false) in
    let long = c.loop-kept.invariant.going.long in omega (arith, low, long, c.args.list.few)

pub loop-kept-preserved : goal.loop-kept-preserved
loop-kept-preserved c =
    let inv = c.loop-kept.invariant in
    let next = c.moved-reader.ensures in
    record {
      going =
          turn inv.going _ c.loop-kept-test.true (found _ c.in-Some.ensures inv.row inv.at) (sym c.is_good.ensures ∙ c.if-not-is_good.false);
      row = ap (λ j. j.now) next.0 ∙ inv.row;
      at = omega (arith, next.1, inv.at);
    }

pub returns : goal.returns
returns c = over c.loop-kept.invariant.going c.loop-kept-test.false
