-- `growth::add_next` meets its contract: the search, the record's nine bytes, its mark and the widened set, each as its function ensures.
use lib.ListN.{length-set}
use native.Mathlib.Omega.{arith}
use Rattle.growth.proofs.Adding.{none_added, listed, mark_place, one_added}
use Rattle.growth.proofs.add_next.Goals as goal

pub returns-in_err-r : goal.returns-in_err-r
returns-in_err-r c = rw c.from_residual.ensures (none_added c.requires c.next_record.ensures c.in_err-r.was)

pub bounds-marks-r : goal.bounds-marks-r
bounds-marks-r c = mark_place c.requires c.next_record.ensures _ c.in_ok-r.was

pub touch-requires : goal.touch-requires
touch-requires c =
    let room = c.requires.marks_long in
    (listed c.requires c.next_record.ensures _ c.in_ok-r.was, simp length-set (omega arith))

pub returns : goal.returns
returns c =
    one_added c.requires c.next_record.ensures _ c.in_ok-r.was c.args.search.list.few (omega arith) c.encode.ensures c.touch.ensures
