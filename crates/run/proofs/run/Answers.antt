-- `run::run` meets its contract: a refusal of the file, or what comes of the list that is prepared.
use lib.Seq.{length-take-le}
use mathlib.Core.Path.{sym}
use Rattle.formulas.specs.Prepared.{PreparedFor}
use Rattle.journal.proofs.Prepared.{few, wide, only_asked}
use Rattle.accept.proofs.Accepting.{prepared_for}
use Rattle.run.proofs.Accepting.{file_refuses}
use borrow.Author.Rules.{rules}
use Rattle.run.proofs.run.Goals as goal
use Rattle.run.proofs.run.Goals.{In-Ok}

-- the list and the queries of an accepted file
ready : (c : In-Ok) → PreparedFor c.args.file.now c.accept.new.table c.in-Ok.accepted.formulas c.accept.new.queries c.in-Ok.accepted.queries
ready c = prepared_for c.in-Ok.ensures (search rules)

pub slice_bounds-queries-end : goal.slice_bounds-queries-end
slice_bounds-queries-end c = (ready (goal.at.slice_bounds-queries-end c).In-Ok).prepared.numbers_long

pub slice_bounds-asked-end : goal.slice_bounds-asked-end
slice_bounds-asked-end c = sym (length-take-le _ _ (ready (goal.at.slice_bounds-asked-end c).In-Ok).prepared.numbers_long)

pub invariant_of-list : goal.invariant_of-list
invariant_of-list c =
    let prepared = (ready (goal.at.invariant_of-list c).In-Ok).prepared in
    record { few = few prepared; long = wide prepared }

pub proceed-requires : goal.proceed-requires
proceed-requires c = record { file = _; for_file = only_asked (ready (goal.at.proceed-requires c).In-Ok) }

pub returns-in-Ok : goal.returns-in-Ok
returns-in-Ok c = c.proceed.ensures _ (only_asked (ready (goal.at.returns-in-Ok c).In-Ok))

pub returns-in-Err : goal.returns-in-Err
returns-in-Err c = file_refuses c.in-Err.ensures _ _ _ _ _ c.refusal.ensures
