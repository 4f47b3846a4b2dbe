use Rattle.std.proofs.Common.{◌≡◌, Ok, rules}
use Rattle.plan.specs.Checks.{limits_answer}
use Rattle.plan.proofs.Keeps.{exact_of}
use Rattle.plan.proofs.plan.check.first_fault.Goals as goal

pub returns-in_err-check_ports : goal.returns-in_err-check_ports
returns-in_err-check_ports c =
    let e : c.from_residual.result ≡ limits_answer c.args.parts.now = search rules in
    record { answer = e; exact = exact_of c.args.parts.now c.from_residual.result e }

pub returns-in_err-check_flows : goal.returns-in_err-check_flows
returns-in_err-check_flows c =
    let r = c.from_residual-in_err-check_flows.result in
    let e : r ≡ limits_answer c.args.parts.now = search rules in
    record { answer = e; exact = exact_of c.args.parts.now r e }

pub returns-in_err-check_rates : goal.returns-in_err-check_rates
returns-in_err-check_rates c =
    let r = c.from_residual-in_err-check_rates.result in
    let e : r ≡ limits_answer c.args.parts.now = search rules in
    record { answer = e; exact = exact_of c.args.parts.now r e }

pub returns : goal.returns
returns c =
    let e : Ok tt ≡ limits_answer c.args.parts.now = search rules in
    record { answer = e; exact = exact_of c.args.parts.now (Ok tt) e }
