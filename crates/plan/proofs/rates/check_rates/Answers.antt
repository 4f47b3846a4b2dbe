use Rattle.std.proofs.Common.{◌≡◌, ◌<◌, ◌≤◌, leb, sym, ap, ◌∙◌, arith}
use Rattle.draft.specs.Plans.{port_at}
use Rattle.draft.specs.declared.port.Port.{Port}
use Rattle.refusal.proofs.Orders.{first_refusal_done, first_refusal_more, first_refusal_stop}
use Rattle.std.proofs.lemmas.Bool.{cond-false, le-leb, lt-leb}
use Rattle.plan.specs.Checks.{rates_answer}
use Rattle.plan.specs.Limits.{rates_through}
use Rattle.plan.specs.declared.fault.PlanFault.TheVariants.{Rates}
use Rattle.plan.proofs.Keeps.{passes}
use Rattle.plan.proofs.rates.check_rates.Goals as goal

pub returns-then-sums-p : goal.returns-then-sums-p
returns-then-sums-p c =
    let P = c.args.parts.now in
    let p = c.loop-p.p in
    let lt : p < P.size.ports = omega (arith, c.ports-port-items.ensures.long, c.loop-p-test.true) in
    let e : c.from.result ≡ (port_at P p).rate = c.from.ensures ∙ ap (λ (q : Port). q.rate) (c.ports-port-items.ensures.each p c.loop-p-test.true) in
    let over : (port_at P p).rate < rates_through P p = omega (arith, c.if-sums-p.true, c.rates-sums.ensures p (omega (arith, lt, c.requires.size.0)), e) in
    first_refusal_stop (rates_answer P) P.size.ports p (Rates p) lt c.loop-p.invariant (sym (cond-false (leb (rates_through P p) (port_at P p).rate) _ _ (lt-leb (rates_through P p) (port_at P p).rate over)))

pub loop-p-preserved : goal.loop-p-preserved
loop-p-preserved c =
    let P = c.args.parts.now in
    let p = c.loop-p.p in
    let lt : p < P.size.ports = omega (arith, c.ports-port-items.ensures.long, c.loop-p-test.true) in
    let e : c.from.result ≡ (port_at P p).rate = c.from.ensures ∙ ap (λ (q : Port). q.rate) (c.ports-port-items.ensures.each p c.loop-p-test.true) in
    let fits : rates_through P p ≤ (port_at P p).rate = omega (arith, c.if-sums-p.false, c.rates-sums.ensures p (omega (arith, lt, c.requires.size.0)), e) in
    first_refusal_more (rates_answer P) p c.loop-p.invariant (passes (leb (rates_through P p) (port_at P p).rate) (Rates p) (le-leb (rates_through P p) (port_at P p).rate fits))

pub returns : goal.returns
returns c =
    let P = c.args.parts.now in
    let long = c.ports-port-items.ensures.long in
    first_refusal_done (rates_answer P) P.size.ports c.loop-p.p (omega (arith, long, c.loop-p-test.false, c.requires.size.0)) (omega (arith, long, c.loop-p.auto.p-end)) c.loop-p.invariant
