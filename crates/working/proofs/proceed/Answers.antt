-- `working::proceed` meets its contract: a code of the sizes is given where one applies, and otherwise the work is done.
use Rattle.working.proofs.Proceeding.{refused_by_size, workable, done}
use Rattle.working.proofs.proceed.Goals as goal

pub work-requires : goal.work-requires
work-requires c = workable _ _ _ _ _ 0 _ c.check_sizes.ensures c.in-Ok.is c.requires

pub returns-in-Ok : goal.returns-in-Ok
returns-in-Ok c = done _ _ _ _ _ _ _ c.check_sizes.ensures c.in-Ok.is _ _ _ c.work.ensures

pub returns-in-Err : goal.returns-in-Err
returns-in-Err c = refused_by_size _ _ _ _ _ _ _ c.check_sizes.ensures c.in-Err.is _ c.refusal.ensures
