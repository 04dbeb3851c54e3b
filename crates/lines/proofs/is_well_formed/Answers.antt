-- `lines::is_well_formed` meets its contract: each outcome is that of the tests that lead there, and the part that is handed on is
-- the formula's text.
use mathlib.Core.Path.{sym, ◌∙◌}
use Rattle.spelling.proofs.Breaks.{until_fits}
use Rattle.lines.specs.Lining.{is_feed}
use Rattle.lines.proofs.Feeds.{line_unended, line_short, line_opened, line_unopened}
use native.Mathlib.Omega.{arith}
use Rattle.lines.proofs.is_well_formed.Goals as goal

pub returns-then-end-file : goal.returns-then-end-file
returns-then-end-file c = line_unended c.args.file.now c.args.start c.args.end c.requires.inside c.requires.ended (omega (arith, c.requires.inside, c.if-end-file.true))

pub returns-then-end-start-lt2 : goal.returns-then-end-start-lt2
returns-then-end-start-lt2 c =
    line_short c.args.file.now c.args.start c.args.end c.requires.inside c.requires.ended c.if-end-start-lt2.true

pub bounds-file-start-2 : goal.bounds-file-start-2
bounds-file-start-2 c =
    omega (arith, until_fits is_feed c.args.file.now c.args.start (omega arith), c.requires.ended)

pub slice_bounds-is_formula-end : goal.slice_bounds-is_formula-end
slice_bounds-is_formula-end c =
    omega (arith, until_fits is_feed c.args.file.now c.args.start (omega arith), c.requires.ended)

pub returns-then-is_opening : goal.returns-then-is_opening
returns-then-is_opening c =
    let file = c.args.file.now in
    let from = c.args.start in
    let fits = until_fits is_feed file from (omega arith) in
    c.is_formula.ensures
    ∙ line_opened file from c.args.end c.requires.inside c.requires.ended (omega (arith, fits, c.requires.ended, c.if-end-file.false))
    c.if-end-start-lt2.false (sym c.is_opening.ensures ∙ c.if-is_opening.true)

pub returns-else-is_opening : goal.returns-else-is_opening
returns-else-is_opening c =
    let file = c.args.file.now in
    let from = c.args.start in
    let fits = until_fits is_feed file from (omega arith) in
    c.if-is_opening.false
    ∙ line_unopened file from c.args.end c.requires.inside c.requires.ended (omega (arith, fits, c.requires.ended, c.if-end-file.false))
    c.if-end-start-lt2.false (sym c.is_opening.ensures ∙ c.if-is_opening.false)
