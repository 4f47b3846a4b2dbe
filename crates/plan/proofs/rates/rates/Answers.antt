use Rattle.std.proofs.Common.{◌≡◌, ℕ, ◌+◌, ◌<◌, cond, get_or, sym, ap, ◌∙◌, subst, add-one, arith}
use Rattle.draft.specs.Plans.{flow_at}
use Rattle.draft.specs.declared.flow.Flow.{Flow}
use Rattle.plan.specs.Limits.{crosses, rates_of}
use Rattle.plan.specs.Rates.{Simple}
use Rattle.plan.proofs.Sums.{zeros}
use Rattle.plan.proofs.rates.rates.Goals as goal

pub loop-flow-init : goal.loop-flow-init
loop-flow-init c = (λ p lt. zeros 32 p, λ p lt. omega (arith, zeros 32 p))

pub add_rate-requires : goal.add_rate-requires
add_rate-requires c =
    let f = c.loop-flow.flow-index in
    let lt : f < c.args.parts.now.size.flows = omega (arith, c.flows-flow-items.ensures.long, c.loop-flow-test.true) in
    let s = c.requires.paths f lt in
    record {
      path = subst (Simple 32) (sym (c.flows-flow-items.ensures.each f c.loop-flow-test.true)) (record { hops_most = s.hops_most; crossed = λ k l. omega (arith, s.crossed k l, c.requires.size.0); different = s.different });
      few = λ p l. omega (arith, c.loop-flow.invariant.1 p l, c.requires.size.1, lt);
    }

pub loop-flow-preserved : goal.loop-flow-preserved
loop-flow-preserved c =
    let P = c.args.parts.now in
    let f = c.loop-flow.flow-index in
    let e = c.flows-flow-items.ensures.each f c.loop-flow-test.true in (
      λ p lt.
          rw (add-one f)
          (c.add_rate.ensures.value p lt ∙ ap (λ (w : Flow). get_or c.loop-flow.sums p 0 + cond (crosses w p) w.rate 0) e
          ∙ ap (λ (n : ℕ). n + cond (crosses (flow_at P f) p) (flow_at P f).rate 0) (c.loop-flow.invariant.0 p lt)),
      λ p lt. omega (arith, c.add_rate.ensures.few p lt, c.loop-flow.invariant.1 p lt),
    )

pub returns : goal.returns
returns c =
    let P = c.args.parts.now in
    let e : c.loop-flow.flow-index ≡ P.size.flows = omega (arith, c.flows-flow-items.ensures.long, c.requires.size.1) in
    λ p lt. c.loop-flow.invariant.0 p lt ∙ ap (rates_of P p) e
