use Rattle.nodes.specs.Nodes.{nodes_of}
use Rattle.wording.specs.declared.Item.TheVariants as Of
use Rattle.wording.specs.Waiting.{item_text, waiting_weight}
use Rattle.wording.proofs.Going.{Going}
use Rattle.wording.proofs.put_words.Given as goal

abbrev pub invariant-loop-next : goal.invariant-loop-next
invariant-loop-next l = Going l.held.file.now (item_text (nodes_of l.held.file.now) (Of.Formula l.fn.around l.node)) l.initial.out l.at l.waiting l.out l.end

abbrev pub decreases-loop-next : goal.decreases-loop-next
decreases-loop-next l = waiting_weight (nodes_of l.held.file.now) l.waiting
