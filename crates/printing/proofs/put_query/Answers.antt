-- `printing::put_query` meets its contract: by whether the line's letter is that of a query.
use native.Mathlib.Omega.{arith}
use Prim.Native.Nat.{◌≤◌, ◌<◌}
use Rattle.printing.proofs.Turning.{from_places, part_room, not_asking, asking}
use Rattle.printing.proofs.put_query.Goals as goal

pub returns-then-file-start-ne81 : goal.returns-then-file-start-ne81
returns-then-file-start-ne81 c =
    let a = c.args in
    not_asking a.file.now a.start a.end a.asked a.answers.now a.so_far.count a.so_far.at a.out.now c.if-file-start-ne81.true

pub slice_bounds-put_line-count : goal.slice_bounds-put_line-count
slice_bounds-put_line-count c =
    let from_there : (c.args.start < c.behind_from-from.result) × (c.behind_from-from.result ≤ c.args.end) = rw c.behind_from-from.ensures (from_places _ c.args.start c.args.end c.requires.inside.0) in
    omega (arith, from_there.1)

pub slice_bounds-put_line-start : goal.slice_bounds-put_line-start
slice_bounds-put_line-start c =
    let from_there : (c.args.start < c.behind_from-from.result) × (c.behind_from-from.result ≤ c.args.end) = rw c.behind_from-from.ensures (from_places _ c.args.start c.args.end c.requires.inside.0) in
    omega (arith, from_there.1)

pub put_line-next-requires : goal.put_line-next-requires
put_line-next-requires c =
    let a = c.args in
    part_room a.file.now a.start a.end _ a.answers.now a.so_far.count a.so_far.at a.out.now c.if-file-start-ne81.false c.behind_from-from.result
    c.behind_from-from.ensures c.requires.inside.0 c.requires.room

pub returns : goal.returns
returns c =
    let a = c.args in
    asking a.file.now a.start a.end a.asked a.answers.now a.so_far.count a.so_far.at a.out.now c.if-file-start-ne81.false c.behind_from-from.result
    c.behind_from-from.ensures c.requires.inside.0 c.requires.room c.put_line-next.result _ c.put_line-next.ensures
