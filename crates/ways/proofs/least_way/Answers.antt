-- `ways::least_way` meets its contract: rule by rule, the first that leads to f.
use Rattle.ways.proofs.Rulewise.{found, past, all_rules}
use Rattle.ways.proofs.least_way.Goals as goal

pub returns-in-Some : goal.returns-in-Some
returns-in-Some c =
    all_rules _ _ _ _
    (found _ _ _ _ _ _ (c.in-Some.ensures c.args.marks.now))

pub returns-in-Some-along : goal.returns-in-Some-along
returns-in-Some-along c =
    all_rules _ _ _ _
    (past _ _ _ _ _ _ (c.in_default.ensures c.args.marks.now)
    (found _ _ _ _ _ _ c.in-Some-along.ensures))

pub returns-in-Some-along-2 : goal.returns-in-Some-along-2
returns-in-Some-along-2 c =
    all_rules _ _ _ _
    (past _ _ _ _ _ _ (c.in_default.ensures c.args.marks.now)
    (past _ _ _ _ _ _ c.in_default-along.ensures
    (found _ _ _ _ _ _ c.in-Some-along-2.ensures)))

pub returns-in-Some-along-3 : goal.returns-in-Some-along-3
returns-in-Some-along-3 c =
    all_rules _ _ _ _
    (past _ _ _ _ _ _ (c.in_default.ensures c.args.marks.now)
    (past _ _ _ _ _ _ c.in_default-along.ensures
    (past _ _ _ _ _ _ c.in_default-along-2.ensures
    (found _ _ _ _ _ _ c.in-Some-along-3.ensures))))

pub returns-in-Some-combined : goal.returns-in-Some-combined
returns-in-Some-combined c =
    all_rules _ _ _ _
    (past _ _ _ _ _ _ (c.in_default.ensures c.args.marks.now)
    (past _ _ _ _ _ _ c.in_default-along.ensures
    (past _ _ _ _ _ _ c.in_default-along-2.ensures
    (past _ _ _ _ _ _ c.in_default-along-3.ensures
    (found _ _ _ _ _ _ c.in-Some-combined.ensures)))))

pub returns-in-Some-applied : goal.returns-in-Some-applied
returns-in-Some-applied c =
    all_rules _ _ _ _
    (past _ _ _ _ _ _ (c.in_default.ensures c.args.marks.now)
    (past _ _ _ _ _ _ c.in_default-along.ensures
    (past _ _ _ _ _ _ c.in_default-along-2.ensures
    (past _ _ _ _ _ _ c.in_default-along-3.ensures
    (past _ _ _ _ _ _ c.in_default-combined.ensures
    (found _ _ _ _ _ _ c.in-Some-applied.ensures))))))

pub returns : goal.returns
returns c =
    all_rules _ _ _ _
    (past _ _ _ _ _ _ (c.in_default.ensures c.args.marks.now)
    (past _ _ _ _ _ _ c.in_default-along.ensures
    (past _ _ _ _ _ _ c.in_default-along-2.ensures
    (past _ _ _ _ _ _ c.in_default-along-3.ensures
    (past _ _ _ _ _ _ c.in_default-combined.ensures
    (past _ _ _ _ _ _ c.in_default-applied.ensures c.attached.ensures))))))
