use Rattle.std.proofs.Common.{sym}
use Rattle.std.proofs.lemmas.Result.{err_from_is_err_and}
use Rattle.table.proofs.Crowding.{crowds_from}
use Rattle.table.proofs.crowds.crowds_by.Goals as goal

pub returns-in_err-lines : goal.returns-in_err-lines
returns-in_err-lines c = λ t k.
    let P = c.args.plan.now in
    let p = err_from_is_err_and c.from_residual.result c.from_residual.ensures.1 in
    let e = crowds_from P.parts P.few.0 t c.args.figures.now k in
    rw (p.1, p.2, sym e, sym (c.in_err-lines.ensures))

pub returns : goal.returns
returns c = λ t k.
    let P = c.args.plan.now in
    let e = crowds_from P.parts P.few.0 t c.args.figures.now k in
    rw (sym e, sym (c.in_ok-lines.ensures)) c.regulators.ensures
