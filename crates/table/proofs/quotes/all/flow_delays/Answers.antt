use Rattle.std.proofs.Common.{ℕ, ◌+◌, ◌-◌, cond, ltb, List, ap, ◌∙◌, arith}
use Rattle.draft.specs.Plans.{flow_at, hops}
use Rattle.plan.proofs.Sums.{zeros}
use Rattle.table.specs.Paths.{delay_along}
use Rattle.table.proofs.Places.{front_filled}
use Rattle.table.proofs.quotes.all.flow_delays.Goals as goal

pub returns : goal.returns
returns c = λ t k f lt.
    let P = c.args.plan.now.parts in
    let by : List ℕ → ℕ → ℕ = λ ds f. delay_along (flow_at P f) ds (hops (flow_at P f)) + (hops (flow_at P f) - 1) in
    front_filled (by c.args.reckoned.now.delays.slots) (λ _. 0) 0 c.loop-f.used _ P.size.flows 64 c.loop-f.invariant.0 (λ j l. c.loop-f.invariant.1 j (omega arith)) (λ j _. zeros 64 j) f lt
    ∙ ap (λ (ds : List ℕ). cond (ltb f P.size.flows) (by ds f) 0) k.delays
