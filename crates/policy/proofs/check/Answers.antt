-- `policy::check` meets its contract: the three codes are tried in the order of the definition.
use mathlib.Core.Path.{sym, ◌∙◌}
use native.Mathlib.Omega.{arith}
use Rattle.std.proofs.lemmas.Result.{err_from_is_err_and}
use Rattle.policy.proofs.Verdicts.{check_long, check_lines, check_nodes}
use Rattle.policy.proofs.check.Goals as goal

pub returns-then-file-gt-MOST_BYTES : goal.returns-then-file-gt-MOST_BYTES
returns-then-file-gt-MOST_BYTES c = check_long c.args.file.now (omega (arith, c.if-file-gt-MOST_BYTES.true))

pub returns-in_err-first_malformed : goal.returns-in_err-first_malformed
returns-in_err-first_malformed c =
    let p = err_from_is_err_and c.from_residual.result c.from_residual.ensures.1 in
    rw (p.1, p.2) (check_lines c.args.file.now c.if-file-gt-MOST_BYTES.false _ _ (sym c.in_err-first_malformed.ensures))

pub returns : goal.returns
returns c =
    c.too_many.ensures ∙ check_nodes c.args.file.now c.if-file-gt-MOST_BYTES.false (sym c.in_ok-first_malformed.ensures)
