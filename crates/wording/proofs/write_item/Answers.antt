-- `wording::write_item` meets its contract: a word is put, a formula as far as it begins, in its brackets.
use native.Mathlib.Omega.{arith}
use mathlib.Core.Path.{◌∙◌, ap}
use Rattle.infon.specs.Bytes.{bytes}
use Rattle.nodes.specs.Columns.{kind_by}
use Rattle.prefix.proofs.Shown.{count_few, kind_cell}
use Rattle.wording.proofs.Itemed.{word_written, bare_ready, bare_written, closing_room, closed_ready, closed_written}
use Rattle.wording.proofs.write_item.Goals as goal

pub returns-in-Word : goal.returns-in-Word
returns-in-Word c =
    let ready = rw c.in-Word.is at c.requires.ready in
    rw c.in-Word.is (word_written _ c.in-Word.word ready c.put_between.ensures)

pub kind_at-requires : goal.kind_at-requires
kind_at-requires c =
    let below = rw c.in-Formula.is at c.requires.there in
    omega (arith, below, count_few _ _ c.args.held.held)

pub write_node-requires : goal.write_node-requires
write_node-requires c =
    let below = rw c.in-Formula.is at c.requires.there in
    let ready = rw c.in-Formula.is at c.requires.ready in
    rw c.from-node.ensures (below, bare_ready _ c.in-Formula.node below c.in-Formula.around ready)

pub returns-then-not-needs_brackets : goal.returns-then-not-needs_brackets
returns-then-not-needs_brackets c =
    let below = rw c.in-Formula.is at c.requires.there in
    let ready = rw c.in-Formula.is at c.requires.ready in
    let kind = (rw c.from-node.ensures at c.kind_at.ensures) ∙ ap kind_by (kind_cell _ _ c.args.held.held c.in-Formula.node below) in
    let written = rw c.from-node.ensures at c.write_node.ensures in
    rw c.in-Formula.is
    (bare_written _ c.in-Formula.node below c.in-Formula.around ready (c.needs_brackets.ensures _ kind) c.if-not-needs_brackets.true written)

pub push-requires : goal.push-requires
push-requires c =
    let below = rw c.in-Formula.is at c.requires.there in
    let ready = rw c.in-Formula.is at c.requires.ready in
    closing_room _ c.in-Formula.node below c.in-Formula.around ready

pub write_node-requires-in-Formula : goal.write_node-requires-in-Formula
unfolding bytes
write_node-requires-in-Formula c =
    let below = rw c.in-Formula.is at c.requires.there in
    let ready = rw c.in-Formula.is at c.requires.ready in
    rw c.from-node.ensures (below, closed_ready _ c.in-Formula.node below c.in-Formula.around ready c.put_some-inside.ensures c.push.ensures)

pub returns-else-not-needs_brackets : goal.returns-else-not-needs_brackets
unfolding bytes
returns-else-not-needs_brackets c =
    let below = rw c.in-Formula.is at c.requires.there in
    let ready = rw c.in-Formula.is at c.requires.ready in
    let kind = (rw c.from-node.ensures at c.kind_at.ensures) ∙ ap kind_by (kind_cell _ _ c.args.held.held c.in-Formula.node below) in
    let written = rw c.from-node.ensures at c.write_node-in-Formula.ensures in
    rw c.in-Formula.is
    (closed_written _ c.in-Formula.node below c.in-Formula.around ready c.put_some-inside.ensures c.push.ensures (c.needs_brackets.ensures _ kind)
    c.if-not-needs_brackets.false written)
