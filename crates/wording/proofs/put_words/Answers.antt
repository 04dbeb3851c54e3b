-- `wording::put_words` meets its contract: one item after the other is written, until none waits.
use native.Mathlib.Omega.{arith}
use mathlib.Core.Path.{◌∙◌, ap}
use mathlib.Core.List.{List, ◌∷◌}
use borrow.Author.Rules.{rules}
use Rattle.prefix.proofs.Shown.{count_few}
use Rattle.wording.specs.declared.Brackets.TheVariants.{Never}
use Rattle.wording.specs.declared.Item.{Item}
use Rattle.wording.specs.declared.Item.TheVariants as Of
use Rattle.wording.proofs.Waited.{none_wait}
use Rattle.wording.proofs.Going.{going_begins, going_over, next_ready, going_on, going_down}
use Rattle.wording.proofs.put_words.Goals as goal

pub overflow_cast-node : goal.overflow_cast-node
overflow_cast-node c = omega (arith, c.requires.0, count_few _ _ c.args.held.held)

pub loop-next-init : goal.loop-next-init
loop-next-init c =
    let p = c.args.held in
    going_begins _ _ p.held c.args.around c.args.node c.requires.0 _ _
    (c.push.ensures ∙ ap (λ (l : List Item). Of.Formula c.args.around c.args.node ∷ l) (none_wait 3072 (Of.Formula Never 0)))

pub write_item-end-requires-clause-ready : goal.write_item-end-requires-clause-ready
write_item-end-requires-clause-ready c = next_ready c.loop-next.invariant c.in-Some.ensures c.requires.1

pub loop-next-smaller : goal.loop-next-smaller
loop-next-smaller c = going_down c.loop-next.invariant c.in-Some.ensures c.write_item-end.ensures

pub loop-next-preserved : goal.loop-next-preserved
loop-next-preserved c = going_on c.loop-next.invariant c.in-Some.ensures c.write_item-end.ensures c.requires.1

pub returns : goal.returns
returns c = going_over c.loop-next.invariant (search rules)
