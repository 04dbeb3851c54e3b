-- `settling::settle` meets its contract: what the run left, what is shown of it and what was looked at before it settle the call.
use Prim.Native.Nat.{ℕ, ◌≤◌}
use native.Mathlib.Omega.{arith}
use mathlib.Core.Path.{◌≡◌, sym}
use mathlib.Core.List.{List}
use lib.Seq.{length-take-le}
use Rattle.settling.specs.Settled.{answer_room}
use Rattle.settling.proofs.Telling.{room_few}
use Rattle.settling.proofs.Settling.{zeros, shows, settled_so}
use Rattle.settling.proofs.settle.Goals as goal

-- the text has room for at most so many answers as the row has
room_inside : (text : List ℕ) {room : ℕ} → room ≡ answer_room text → room ≤ 1024
room_inside text e = omega (arith, room_few text, e)

pub slice_bounds-row-end : goal.slice_bounds-row-end
slice_bounds-row-end c = room_inside c.args.text.now c.answer_room-room.ensures

pub slice_bounds-answers-end : goal.slice_bounds-answers-end
slice_bounds-answers-end c =
    sym (length-take-le c.answer_room-room.result (zeros 1024) (room_inside c.args.text.now c.answer_room-room.ensures))

pub show-length-requires : goal.show-length-requires
show-length-requires c =
    shows c.args.file.now c.args.journal.now _ _ c.args.asked c.args.text.now c.answer_room-room.result
    c.answer_room-room.ensures c.run-report.result _ _ c.run-report.ensures
    (omega (
      arith,
      c.run-report.auto.answers,
      length-take-le c.answer_room-room.result (zeros 1024) (room_inside c.args.text.now c.answer_room-room.ensures),
      room_inside c.args.text.now c.answer_room-room.ensures,
    ))

pub returns : goal.returns
returns c =
    settled_so c.args.file.now c.args.journal.now c.args.used c.args.limit c.args.asked c.args.text.now c.answer_room-room.result
    c.answer_room-room.ensures c.run-report.result _ _ c.run-report.ensures c.is_begun-begun.result c.is_begun-begun.ensures c.show-length.result _
    c.show-length.ensures c.sum_up.result c.sum_up.ensures
