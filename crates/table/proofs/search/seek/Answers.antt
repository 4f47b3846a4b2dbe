use Rattle.std.proofs.lemmas.Result.{err_from_is_err_and}
use Rattle.table.proofs.Leasts.{settled_crowded, settled_least}
use Rattle.table.proofs.search.seek.Goals as goal

pub returns-in_err-crowds-clause-shown : goal.returns-in_err-crowds-clause-shown
returns-in_err-crowds-clause-shown c =
    let P = c.args.plan.now in
    let p = err_from_is_err_and c.from_residual-in_err-crowds.result c.from_residual-in_err-crowds.ensures.1 in
    rw (p.1, p.2) (settled_crowded P.parts P.kept c.find.new.table c.in_ok-rounds.rounds c.in_err-crowds.field-0.0 c.in_ok-rounds.ensures.sought c.in_err-crowds.ensures)

pub returns-clause-shown : goal.returns-clause-shown
returns-clause-shown c =
    let P = c.args.plan.now in
    (settled_least P.parts P.kept c.find.new.table c.in_ok-rounds.rounds c.in_ok-rounds.ensures.sought c.in_ok-crowds.ensures).0

pub returns-clause-accepted : goal.returns-clause-accepted
returns-clause-accepted c =
    let P = c.args.plan.now in
    (settled_least P.parts P.kept c.find.new.table c.in_ok-rounds.rounds c.in_ok-rounds.ensures.sought c.in_ok-crowds.ensures).1
