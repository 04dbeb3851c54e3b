-- `accept::accept` meets its contract: each code in its turn, as the function that tries it ensures.
use borrow.Author.Rules.{rules}
use mathlib.Core.Path.{◌≡◌}
use lib.ListN.{length}
use Rattle.std.proofs.lemmas.Result.{err_from_is_err_and}
use Rattle.nodes.specs.Nodes.{node_table}
use Rattle.accept.proofs.Accepting.{refused_first, first_passed, deep_asks, refused_fourth, held, refused_fifth, accepted}
use Rattle.accept.proofs.accept.Goals as goal
use Rattle.accept.proofs.accept.Goals.{Start}

long : (c : Start) → length c.args.nodes.now ≡ node_table
long c = search rules

pub returns-in_err-check : goal.returns-in_err-check
returns-in_err-check c =
    let p = err_from_is_err_and c.from_residual.result c.from_residual.ensures.1 in
    rw (p.1, p.2) (refused_first _ _ _ _ c.in_err-check.ensures)

pub fill-count-requires : goal.fill-count-requires
fill-count-requires c =
    let known = first_passed c.args.file.now c.args.nodes.now c.args.table.now c.args.queries.now c.in_ok-check.ensures in
    record { well_formed = known.1.0; few = known.1.1; short = known.0 }

pub deep-requires : goal.deep-requires
deep-requires c =
    deep_asks _ _ c.args.table.now c.args.queries.now c.in_ok-check.ensures (long (goal.at.deep-requires c).Start) c.fill-count.ensures

pub returns-in_err-deep : goal.returns-in_err-deep
returns-in_err-deep c =
    let p = err_from_is_err_and c.from_residual-in_err-deep.result c.from_residual-in_err-deep.ensures.1 in
    rw (p.1, p.2)
    (refused_fourth _ _ _ _ c.in_ok-check.ensures (long (goal.at.returns-in_err-deep c).Start) c.fill-count.ensures c.in_err-deep.ensures)

pub invariant_of-policy : goal.invariant_of-policy
invariant_of-policy c =
    record {
      held =
          held _ _ c.args.table.now c.args.queries.now c.in_ok-check.ensures (long (goal.at.invariant_of-policy c).Start) c.fill-count.ensures
          c.in_ok-deep.ensures;
      all = c.fill-count.ensures.counted;
    }

pub returns-in_err-listed : goal.returns-in_err-listed
returns-in_err-listed c =
    let p = err_from_is_err_and c.from_residual-in_err-listed.result c.from_residual-in_err-listed.ensures.1 in
    rw (p.1, p.2)
    (refused_fifth _ _ _ _ c.in_ok-check.ensures (long (goal.at.returns-in_err-listed c).Start) c.fill-count.ensures c.in_ok-deep.ensures
    c.in_err-listed.ensures)

pub returns : goal.returns
returns c =
    accepted _ _ _ _ c.in_ok-check.ensures (long (goal.at.returns c).Start) c.fill-count.ensures c.in_ok-deep.ensures c.in_ok-listed.ensures
