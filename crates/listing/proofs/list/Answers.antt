-- `listing::list` meets its contract: the nodes are listed, and where that goes through the columns, the hypotheses and the queries follow.
use native.Mathlib.Omega.{arith}
use Prim.Native.Nat.{ℕ, ◌≤◌}
use lib.ListN.{length, length-replicate}
use Rattle.formulas.specs.Table.{table_cells}
use Rattle.infon.specs.Listing.{most_listed}
use Rattle.listing.proofs.Final.{too_many, all_owned, lines_ready, now_clear, all_listed}
use Rattle.std.proofs.lemmas.Result.{err_from_is_err_and}
use borrow.Author.Rules.{rules}
use Rattle.listing.proofs.list.Goals as goal
use Rattle.listing.proofs.list.Goals.{In_ok-n}

pub invariant_of-work : goal.invariant_of-work
unfolding most_listed
invariant_of-work c =
    record {
      cand_long = rw (length-replicate {A = ℕ} 16384 0) (omega arith);
      keys_long = rw (length-replicate {A = ℕ} 4112 0) (omega arith);
      owners_long = rw (length-replicate {A = ℕ} 4112 0) (omega arith);
    }

pub returns-in_err-n : goal.returns-in_err-n
returns-in_err-n c =
    let p = err_from_is_err_and c.from_residual.result c.from_residual.ensures.1 in
    rw (p.1, p.2) (too_many c.in_err-n.ensures)

long : (c : In_ok-n) → table_cells ≤ length c.args.table.now
long c = search rules

pub invariant_of-forms : goal.invariant_of-forms
invariant_of-forms c =
    record { owned = all_owned _ _ c.args.policy.held c.args.table.now c.args.queries.now _ _ _ (long (goal.at.invariant_of-forms c).In_ok-n) _ c.in_ok-n.ensures }

pub fill_hypotheses-requires : goal.fill_hypotheses-requires
fill_hypotheses-requires c =
    let room = long (goal.at.fill_hypotheses-requires c).In_ok-n in
    record {
      ready = lines_ready _ _ c.args.policy.held c.args.table.now c.args.queries.now _ _ _ room _ c.in_ok-n.ensures;
      clear = now_clear _ _ c.args.policy.held c.args.table.now c.args.queries.now _ _ _ room _ c.in_ok-n.ensures c.fill_columns.ensures;
    }

pub fill_queries-asked-requires-clause-ready : goal.fill_queries-asked-requires-clause-ready
fill_queries-asked-requires-clause-ready c =
    lines_ready _ _ c.args.policy.held c.args.table.now c.args.queries.now _ _ _ (long (goal.at.fill_queries-asked-requires-clause-ready c).In_ok-n) _ c.in_ok-n.ensures

pub returns : goal.returns
returns c =
    all_listed _ _ c.args.policy.held c.args.table.now c.args.queries.now _ _ _ (long (goal.at.returns c).In_ok-n) _ c.in_ok-n.ensures c.fill_columns.ensures
    c.fill_hypotheses.ensures c.fill_queries-asked.ensures
