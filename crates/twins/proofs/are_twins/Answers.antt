-- `twins::are_twins` meets its contract: each test that fails shows the nodes apart, and where all pass the principals decide.
use native.Mathlib.Omega.{arith}
use mathlib.Core.Path.{sym, ◌∙◌, ap₂}
use Rattle.prefix.specs.declared.Prefix.{Prefix}
use Rattle.prefix.specs.Places.{used}
use Rattle.prefix.proofs.Shown.{count_few, readable}
use Rattle.twins.specs.Twins.{same_places}
use Rattle.twins.proofs.Same.{depths_apart, texts_fail, texts_pass, places_asked}
use Rattle.twins.proofs.are_twins.Goals as goal

pub cell_at-requires : goal.cell_at-requires
cell_at-requires c = omega (arith, count_few _ _ c.args.held.held)

pub cell_at-requires-2 : goal.cell_at-requires-2
cell_at-requires-2 c = omega (arith, count_few _ _ c.args.held.held)

pub returns-then-cell_at : goal.returns-then-cell_at
returns-then-cell_at c =
    let p = c.args.held in
    sym (depths_apart _ _ p.held c.args.i c.args.j c.requires.0 c.requires.1 c.cell_at.ensures c.cell_at-2.ensures c.if-cell_at.true)

pub returns-then-not-are_alike : goal.returns-then-not-are_alike
returns-then-not-are_alike c =
    let p = c.args.held in
    sym
    (texts_fail _ _ p.held c.args.i c.args.j c.requires.0 c.requires.1 _ _ _ c.text_of-mine.ensures
    c.text_of-other.ensures c.are_alike.ensures (c.if-not-are_alike.true))

pub prefix_of-p-requires : goal.prefix_of-p-requires
prefix_of-p-requires c = readable _ _ c.args.held.held c.args.i c.requires.0

pub prefix_of-q-requires : goal.prefix_of-q-requires
prefix_of-q-requires c = readable _ _ c.args.held.held c.args.j c.requires.1

pub same_principals-requires : goal.same_principals-requires
same_principals-requires c =
    let p = c.args.held in
    rw (c.prefix_of-p.ensures, c.prefix_of-q.ensures)
    (places_asked _ _ p.held c.args.i c.args.j c.requires.0 c.requires.1 c.cell_at.ensures c.cell_at-2.ensures c.if-cell_at.false)

pub returns : goal.returns
returns c =
    let p = c.args.held in
    c.same_principals.ensures
    ∙ ap₂ (λ (v w : Prefix). same_places p.file.now p.nodes.now (used v) (used w)) c.prefix_of-p.ensures c.prefix_of-q.ensures
    ∙ sym
    (texts_pass _ _ p.held c.args.i c.args.j c.requires.0 c.requires.1 _ _ _ c.text_of-mine.ensures
    c.text_of-other.ensures c.are_alike.ensures (c.if-not-are_alike.false))
