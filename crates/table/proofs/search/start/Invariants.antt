use Rattle.std.proofs.Common.{◌≡◌, ℕ, ◌<◌, length, slice_index_or}
use Rattle.draft.specs.Plans.{flow_at, no_row}
use Rattle.table.specs.Rounds.{start_row}
use Rattle.table.proofs.search.start.Given as goal

abbrev pub invariant-loop-f : goal.invariant-loop-f
invariant-loop-f l =
    (length l.used ≡ l.plan.parts.size.flows) × ((g : ℕ) → g < l.f → slice_index_or l.used g no_row ≡ start_row (flow_at l.plan.parts g))
