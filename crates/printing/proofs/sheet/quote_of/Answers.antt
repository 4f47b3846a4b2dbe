use Rattle.std.proofs.Common.{Err, sym, ap, ◌∙◌}
use Rattle.std.proofs.lemmas.Result.{err_from_is_err_and}
use Rattle.printing.specs.Sheets.{of_plan, of_table}
use Rattle.printing.proofs.sheet.quote_of.Goals as goal

pub returns-in_err-quote_by : goal.returns-in_err-quote_by
returns-in_err-quote_by c =
    let p = err_from_is_err_and c.from_residual-in_err-quote_by.result c.from_residual-in_err-quote_by.ensures.1 in
    let e = ap of_plan c.in_ok-planned.ensures ∙ ap of_table (sym c.in_err-quote_by.ensures) in
    rw p.1 (e ∙ ap Err (sym p.2))

pub returns : goal.returns
returns c = ap of_plan c.in_ok-planned.ensures ∙ ap of_table (sym c.in_ok-quote_by.ensures)
