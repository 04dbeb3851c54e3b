-- `reasons::lend` meets its contract: each turn puts one record more behind the others, where it is wanted.
use Rattle.std.proofs.Common.{◌*◌, ◌+◌, ◌≤◌, length, arith}
use lib.ListN.{length-take, length-drop}
use Rattle.reasons.proofs.Lending.{lending_begins, lending_none, lending_room, lending_one, lending_over}
use Rattle.reasons.proofs.lend.Goals as goal
use Rattle.reasons.proofs.lend.Goals.{In-Some, in-Some, in_default}

-- there is room for the record behind the others
room : (c : In-Some) → 9 * (c.loop-i.count + 1) ≤ length c.loop-i.out
room c = lending_room c.loop-i.invariant c.loop-i-test.true c.requires.1 c.in-Some.ensures c.loop-i.auto.out

pub loop-i-init : goal.loop-i-init
loop-i-init c = lending_begins

pub overflow_mul-at : goal.overflow_mul-at
overflow_mul-at c = omega (arith, room (goal.at.overflow_mul-at c).In-Some)

pub slice_bounds-encode-count : goal.slice_bounds-encode-count
slice_bounds-encode-count c = omega (arith, room (goal.at.slice_bounds-encode-count c).In-Some)

pub slice_bounds-encode-start : goal.slice_bounds-encode-start
slice_bounds-encode-start c = omega (arith, room (goal.at.slice_bounds-encode-start c).In-Some)

pub encode-requires : goal.encode-requires
encode-requires c = let fits = room (goal.at.encode-requires c).In-Some in simp (length-take, length-drop) (omega arith)

pub overflow_add-count : goal.overflow_add-count
overflow_add-count c = omega (arith, room (goal.at.overflow_add-count c).In-Some)

pub loop-i-preserved : goal.loop-i-preserved
loop-i-preserved c =
    elim c.match-wanted_at.branch [
      | in-Some w ↦
          rw (w.out-is, w.count-is)
          (lending_one c.loop-i.invariant c.loop-i-test.true c.requires.1 w.in-Some.ensures c.loop-i.auto.out w.encode.ensures)
      | in_default w ↦
          rw (w.out-is, w.count-is) (lending_none c.loop-i.invariant c.loop-i-test.true c.requires.1 w.in_default.ensures)
    ]

pub returns : goal.returns
returns c = lending_over c.loop-i.invariant c.loop-i-test.false
