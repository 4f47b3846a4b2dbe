use Rattle.std.proofs.Common.{sym}
use Rattle.refusal.proofs.Orders.{first_refusal_done, first_refusal_more, first_refusal_stop}
use Rattle.std.proofs.lemmas.Result.{err_from_is_err_and}
use Rattle.plan.specs.Checks.{flow_answer}
use Rattle.plan.proofs.Keeps.{few_flows, simple_flows}
use Rattle.plan.proofs.flows.check_flows.Goals as goal

pub returns-in_err-regulators : goal.returns-in_err-regulators
returns-in_err-regulators c =
    let P = c.args.parts.now in
    let p = err_from_is_err_and c.from_residual.result c.from_residual.ensures.1 in
    rw (p.1, p.2) (record {
      answer = first_refusal_stop (flow_answer P) P.size.flows c.loop-f.f _ c.loop-f-test.true c.loop-f.invariant.0 (sym c.in_err-regulators.ensures);
      few = tt;
      paths = tt;
    })

pub loop-f-preserved : goal.loop-f-preserved
loop-f-preserved c =
    let t = c.in_ok-regulators.ensures in
    (first_refusal_more (flow_answer c.args.parts.now) c.loop-f.f c.loop-f.invariant.0 t.0, t.1, t.2)

pub returns : goal.returns
returns c =
    let P = c.args.parts.now in
    let e = first_refusal_done (flow_answer P) P.size.flows c.loop-f.f c.loop-f-test.false c.loop-f.auto.f-end c.loop-f.invariant.0 in
    record { answer = e; few = few_flows P (sym e); paths = simple_flows P (sym e) }
