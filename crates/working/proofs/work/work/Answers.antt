-- `working::work::work` meets its contract: the links, the kept part, the growth and the answers, each as its function ensures.
use Rattle.std.proofs.Common.{arith}
use Rattle.working.proofs.Working.{ready, grow_roomy, answerable, works, all_few}
use Rattle.working.proofs.work.work.Goals as goal

pub invariant_of-search : goal.invariant_of-search
invariant_of-search c = record { ready = ready c.requires.prepared c.link.ensures }

pub grow-growth-requires : goal.grow-growth-requires
grow-growth-requires c = grow_roomy c.requires.prepared c.keep-kept.ensures _ c.requires.room

pub answer_all-requires : goal.answer_all-requires
answer_all-requires c = answerable c.requires.prepared c.keep-kept.ensures c.grow-growth.ensures _ c.requires.enough

pub overflow_add-result : goal.overflow_add-result
overflow_add-result c = omega (arith, all_few c.requires.prepared c.keep-kept.ensures c.grow-growth.ensures)

pub overflow_mul-result : goal.overflow_mul-result
overflow_mul-result c = omega (arith, all_few c.requires.prepared c.keep-kept.ensures c.grow-growth.ensures)

pub returns : goal.returns
returns c = λ hyps fs queries prepared. works prepared c.keep-kept.ensures c.grow-growth.ensures _ _ c.answer_all.ensures
