-- `wording::put_own` meets its contract: each kind has what its node begins with.
use native.Mathlib.Omega.{arith}
use mathlib.Core.Path.{◌∙◌}
use Rattle.infon.specs.Bytes.{bytes}
use Rattle.prefix.proofs.Shown.{count_few}
use Rattle.writing.proofs.Placing.{some_nothing, some_as}
use Rattle.wording.proofs.Own.{own_true, own_name, own_and, own_rule, own_said, own_put}
use Rattle.wording.proofs.put_own.Goals as goal

pub kind_at-requires : goal.kind_at-requires
kind_at-requires c = omega (arith, count_few _ _ c.args.held.held)

pub returns-in-True : goal.returns-in-True
unfolding bytes
returns-in-True c =
    let p = c.args.held in
    some_as (own_true _ _ p.held c.args.i c.requires.0 c.in-True.ensures) c.put_some.ensures

pub returns-in-Name : goal.returns-in-Name
returns-in-Name c =
    let p = c.args.held in
    some_as (c.text_of.ensures ∙ own_name _ _ p.held c.args.i c.requires.0 c.in-Name.ensures) c.put_some-in-Name.ensures

pub returns-in-And : goal.returns-in-And
returns-in-And c = let p = c.args.held in some_as (own_and _ _ p.held c.args.i c.requires.0 c.in-And.ensures) (some_nothing _ _)

pub returns-in-Implies : goal.returns-in-Implies
unfolding bytes
returns-in-Implies c =
    let p = c.args.held in
    some_as (own_rule _ _ p.held c.args.i c.requires.0 c.in-Implies.ensures) c.put_some-in-Implies.ensures

pub put_quotation-requires : goal.put_quotation-requires
put_quotation-requires c =
    let p = c.args.held in
    ((own_said _ _ p.held c.args.i c.requires.0 c.in-Said.ensures).0, c.requires.1)

pub returns-in-Said : goal.returns-in-Said
returns-in-Said c =
    let p = c.args.held in
    some_as (own_said _ _ p.held c.args.i c.requires.0 c.in-Said.ensures).1 c.put_quotation.ensures

pub put_quotation-requires-in-Put : goal.put_quotation-requires-in-Put
put_quotation-requires-in-Put c =
    let p = c.args.held in
    ((own_put _ _ p.held c.args.i c.requires.0 c.in-Put.ensures).0, c.requires.1)

pub returns-in-Put : goal.returns-in-Put
returns-in-Put c =
    let p = c.args.held in
    some_as (own_put _ _ p.held c.args.i c.requires.0 c.in-Put.ensures).1 c.put_quotation-in-Put.ensures
