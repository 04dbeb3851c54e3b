-- `telling::put_next` meets its contract: the tables tell the formula, its line is put, and its place is kept.
use mathlib.Core.Path.{refl}
use Rattle.telling.proofs.Shelved.{shelf_told, shelf_asks}
use Rattle.telling.proofs.put_next.Goals as goal

pub put_record-end-requires : goal.put_record-end-requires
put_record-end-requires c =
    let pre = c.requires in
    (shelf_asks _ _ c.args.policy.held _ pre.0 _ pre.1 c.args.policy.all c.at.ensures c.at-2.ensures, pre.3)

pub returns : goal.returns
returns c =
    let pre = c.requires in
    let line = c.put_record-end.ensures _ (shelf_told _ _ c.args.policy.held _ pre.0 _ pre.1 c.at.ensures c.at-2.ensures) in
    record { puts = rw c.from.ensures at line; placed = refl }
