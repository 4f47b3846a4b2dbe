use Rattle.std.proofs.Common.{◌≡◌, ℕ, cond, ltb, get_or, refl, ap, ◌∙◌, arith}
use Rattle.std.proofs.lemmas.List.FromFn.{fill_by_all}
use Rattle.std.proofs.lemmas.Bool.{le-ltb}
use Rattle.draft.specs.Plans.{port_at}
use Rattle.plan.proofs.Sums.{zeros}
use Rattle.table.specs.Loads.{delay, delay_by, delays}
use Rattle.table.proofs.reckons.delays.Goals as goal

pub loop-p-init : goal.loop-p-init
loop-p-init c = rw c.none-found.ensures (refl, λ k lt. rw (le-ltb k 0 (omega arith)) (zeros 32 k))

pub returns : goal.returns
unfolding delays
returns c =
    let P = c.args.plan.now.parts in
    let t = c.args.table.now in
    let bs = c.loads-loads.result.bits in
    let e : c.loop-p.p ≡ P.size.ports = omega arith in
    fill_by_all (delay P t) c.loop-p.found.slots 32 0 c.loop-p.invariant.0 (λ k lt.
    c.loop-p.invariant.1 k lt ∙ ap (λ (n : ℕ). cond (ltb k n) (delay_by (port_at P k) (get_or bs k 0)) 0) e
    ∙ ap (λ (b : ℕ). cond (ltb k P.size.ports) (delay_by (port_at P k) b) 0) (c.loads-loads.ensures k lt))
