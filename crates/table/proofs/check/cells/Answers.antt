use Rattle.std.proofs.Common.{arith}
use Rattle.std.proofs.lemmas.List.{get_or-take}
use Rattle.std.proofs.lemmas.Result.{err_from_is_err_and}
use Rattle.draft.specs.Plans.{flow_at, no_row, row_at}
use Rattle.table.specs.Checks.{cells_in}
use Rattle.table.proofs.Turns.{rows_at, rows_more}
use Rattle.table.proofs.check.cells.Goals as goal

pub returns-in_err-cells_in : goal.returns-in_err-cells_in
returns-in_err-cells_in c =
    let P = c.args.plan.now.parts in
    let t = c.args.table.now in
    let f = c.loop-f.f in
    let p = err_from_is_err_and c.from_residual.result c.from_residual.ensures.1 in
    let r = get_or-take P.size.flows t.rows f no_row (omega arith) in
    rw (p.1, p.2) (rows_at (λ f. cells_in f (flow_at P f) (row_at t f)) P.size.flows f c.in_err-cells_in.field-0.0 (omega arith) c.loop-f.invariant
    (rw (c.route_of.ensures.number, c.route_of.ensures.flow, r) at c.in_err-cells_in.ensures))

pub loop-f-preserved : goal.loop-f-preserved
loop-f-preserved c =
    let P = c.args.plan.now.parts in
    let t = c.args.table.now in
    let f = c.loop-f.f in
    let r = get_or-take P.size.flows t.rows f no_row (omega arith) in
    rows_more (λ f. cells_in f (flow_at P f) (row_at t f)) f c.loop-f.invariant
    (rw (c.route_of.ensures.number, c.route_of.ensures.flow, r) at c.in_ok-cells_in.ensures)
