use Rattle.std.proofs.Common.{◌≡◌, ℕ, ◌+◌, get_or, ap, ◌∙◌, arith}
use Rattle.draft.specs.Plans.{hops}
use Rattle.plan.specs.Rates.{rate_in}
use Rattle.plan.proofs.Sums.{rate_crossing}
use Rattle.plan.proofs.rates.add_rate.Goals as goal

pub returns-clause-value : goal.returns-clause-value
returns-clause-value c =
    let w = c.args.flow.now in
    let e : c.loop-port.port-index ≡ hops w = omega (arith, c.crossed-port-items.ensures.long, c.requires.path.hops_most) in
    λ p lt.
    c.loop-port.invariant.0 p lt ∙ ap (λ (n : ℕ). get_or c.args.sums.now p 0 + rate_in w p n) e
    ∙ ap (λ (n : ℕ). get_or c.args.sums.now p 0 + n) (rate_crossing w 32 c.requires.path p)
