use Rattle.std.proofs.Common.{◌≡◌, cond, ap, ◌∙◌, add-one, arith}
use Rattle.draft.specs.Plans.{flow_at}
use Rattle.draft.specs.declared.flow.Flow.{Flow}
use Rattle.plan.specs.Limits.{crosses, rates_of}
use Rattle.plan.proofs.rates.rates_through.Goals as goal

pub loop-flow-preserved : goal.loop-flow-preserved
loop-flow-preserved c =
    let p = c.args.port in
    let w = flow_at c.args.parts.now c.loop-flow.flow-index in
    let e : c.rate_at-sum.result ≡ cond (crosses w p) w.rate 0 =
    c.rate_at-sum.ensures.value ∙ ap (λ (v : Flow). cond (crosses v p) v.rate 0) (c.flows-flow-items.ensures.each c.loop-flow.flow-index c.loop-flow-test.true) in
    (rw add-one (omega (arith, c.loop-flow.invariant.0, e)), omega (arith, c.loop-flow.invariant.1, c.rate_at-sum.ensures.small))

pub returns : goal.returns
returns c =
    let e : c.loop-flow.flow-index ≡ c.args.parts.now.size.flows = omega (arith, c.flows-flow-items.ensures.long, c.requires) in
    c.loop-flow.invariant.0 ∙ ap (rates_of c.args.parts.now c.args.port) e
