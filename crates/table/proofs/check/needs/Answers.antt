use Rattle.std.proofs.Common.{sym}
use Rattle.std.proofs.lemmas.Result.{err_from_is_err_and}
use Rattle.table.proofs.check.needs.Goals as goal

pub returns-in_err-lows : goal.returns-in_err-lows
returns-in_err-lows c =
    let p = err_from_is_err_and c.from_residual.result c.from_residual.ensures.1 in
    let e = rw c.reckon-figures.ensures.gaps at c.in_err-lows.ensures in
    rw (p.1, p.2, sym e)

pub returns : goal.returns
returns c =
    let e = rw c.reckon-figures.ensures.gaps at c.in_ok-lows.ensures in
    rw (sym e) (c.crowds_by.ensures c.args.table.now c.reckon-figures.ensures)
