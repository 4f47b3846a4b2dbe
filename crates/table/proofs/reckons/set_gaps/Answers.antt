use Rattle.std.proofs.Common.{◌≡◌, ℕ, ◌-◌, ◌<◌, cond, ltb, get_or, ap, ◌∙◌, ⊎_elim, arith}
use Rattle.std.proofs.lemmas.List.FromFn.{fill_by_all}
use Rattle.std.proofs.lemmas.Bool.{cases_lt, lt-ltb}
use Rattle.draft.specs.Plans.{port_at}
use Rattle.table.specs.Loads.{delay_by, gap, gaps}
use Rattle.table.proofs.Rows.{gap_from}
use Rattle.table.proofs.reckons.set_gaps.Goals as goal

pub returns : goal.returns
unfolding gaps
returns c =
    let P = c.args.plan.now.parts in
    let bs = c.args.loads.now.bits in
    let e : c.loop-p.p ≡ P.size.ports = omega arith in
    let was = c.args.found.now.slots in
    let here = λ (k : ℕ). delay_by (port_at P k) (get_or bs k 0) - (port_at P k).stay in
    let value : (k : ℕ) → k < 32 → get_or c.loop-p.found.slots k 0 ≡ cond (ltb k c.loop-p.p) (here k) 0 = λ k lt. c.loop-p.invariant.1 k lt ∙ ⊎_elim
    (λ a. rw (lt-ltb k c.loop-p.p a))
    (λ a. ap (cond (ltb k c.loop-p.p) (here k)) (c.requires k (omega arith) lt))
    (cases_lt k c.loop-p.p) in
    λ t l. fill_by_all (gap P t) c.loop-p.found.slots 32 0 c.loop-p.invariant.0 (λ k lt. value k lt ∙ gap_from P t c.loop-p.p k (get_or bs k 0) e (l k lt))
