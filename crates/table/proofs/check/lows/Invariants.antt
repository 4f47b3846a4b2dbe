use Rattle.std.proofs.Common.{◌≡◌, ◌+◌, ◌*◌, Ok}
use Rattle.refusal.specs.Firsts.{first_refusal}
use Rattle.draft.specs.Plans.{flow_at, row_at}
use Rattle.table.specs.Checks.{lows_in, reaches, unless}
use Rattle.table.specs.Paths.{need_by}
use Rattle.table.specs.declared.fault.TableFault.TheVariants.{Low}
use Rattle.table.proofs.check.lows.Given as goal

abbrev pub invariant-search : goal.invariant-search
invariant-search l =
    (l.answer ≡ Ok tt)
    × (first_refusal (λ f. lows_in f (flow_at l.plan.parts f) l.gaps.slots (row_at l.table f)) l.f ≡ Ok tt)

abbrev pub invariant-loop-k : goal.invariant-loop-k
invariant-loop-k l =
    (l.answer ≡ Ok tt) × (l.need ≡ need_by l.route.flow.now l.gaps.slots (row_at l.table l.f) l.k)
    × (first_refusal (λ k. unless (reaches l.route.flow.now l.gaps.slots (row_at l.table l.f) k) (Low (l.f * 8 + k))) l.k ≡ Ok tt)
