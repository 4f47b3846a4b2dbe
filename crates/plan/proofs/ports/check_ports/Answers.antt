use Rattle.std.proofs.Common.{sym}
use Rattle.refusal.proofs.Orders.{first_refusal_done, first_refusal_more, first_refusal_stop}
use Rattle.std.proofs.lemmas.Result.{err_from_is_err_and}
use Rattle.plan.specs.Checks.{port_answer}
use Rattle.plan.proofs.Keeps.{few_ports}
use Rattle.plan.proofs.ports.check_ports.Goals as goal

pub returns-in_err-check_port : goal.returns-in_err-check_port
returns-in_err-check_port c =
    let P = c.args.parts.now in
    let p = err_from_is_err_and c.from_residual.result c.from_residual.ensures.1 in
    rw (p.1, p.2) (record {
      answer = first_refusal_stop (port_answer P) P.size.ports c.loop-p.p _ c.loop-p-test.true c.loop-p.invariant c.in_err-check_port.ensures;
      few = tt;
    })

pub loop-p-preserved : goal.loop-p-preserved
loop-p-preserved c = first_refusal_more (port_answer c.args.parts.now) c.loop-p.p c.loop-p.invariant (sym c.in_ok-check_port.ensures)

pub returns : goal.returns
returns c =
    let P = c.args.parts.now in
    let e = first_refusal_done (port_answer P) P.size.ports c.loop-p.p c.loop-p-test.false c.loop-p.auto.p-end c.loop-p.invariant in
    record { answer = e; few = few_ports P (sym e) }
