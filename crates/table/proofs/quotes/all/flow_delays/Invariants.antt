use Rattle.std.proofs.Common.{◌≡◌, ℕ, ◌+◌, ◌-◌, ◌<◌, length, get_or}
use Rattle.draft.specs.Plans.{flow_at, hops}
use Rattle.table.specs.Paths.{delay_along}
use Rattle.table.proofs.quotes.all.flow_delays.Given as goal

abbrev pub invariant-loop-f : goal.invariant-loop-f
invariant-loop-f l =
    (length l.used ≡ l.plan.parts.size.flows)
    × ((k : ℕ) → k < l.f → get_or l.used k 0 ≡ delay_along (flow_at l.plan.parts k) l.reckoned.delays.slots (hops (flow_at l.plan.parts k)) + (hops (flow_at l.plan.parts k) - 1))
