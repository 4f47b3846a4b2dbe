use Rattle.std.proofs.lemmas.Result.{err_from_is_err_and}
use Rattle.draft.specs.Plans.{flow_at}
use Rattle.table.specs.Checks.{regulators_in}
use Rattle.table.proofs.Turns.{rows_at}
use Rattle.table.proofs.crowds.regulators.Goals as goal

pub returns-in_err-regulators_in : goal.returns-in_err-regulators_in
returns-in_err-regulators_in c =
    let P = c.args.plan.now.parts in
    let ds = c.args.delays.now.slots in
    let p = err_from_is_err_and c.from_residual.result c.from_residual.ensures.1 in
    rw (p.1, p.2) (rows_at (λ f. regulators_in f (flow_at P f) ds) P.size.flows c.loop-f.f c.in_err-regulators_in.field-0.0 c.loop-f-test.true c.loop-f.invariant
    (rw (c.route_of.ensures.number, c.route_of.ensures.flow) at c.in_err-regulators_in.ensures))
