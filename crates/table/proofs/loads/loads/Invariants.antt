use Rattle.std.proofs.Common.{◌≡◌, ℕ, ◌*◌, ◌<◌, ◌≤◌, get_or}
use Rattle.table.specs.Bounds.{most_row}
use Rattle.table.specs.Loads.{load_of}
use Rattle.table.proofs.loads.loads.Given as goal

abbrev pub invariant-loop-f : goal.invariant-loop-f
invariant-loop-f l =
    ((p : ℕ) → p < 32 → get_or l.sums.bits p 0 ≡ load_of l.plan.parts l.table p l.f)
    × ((p : ℕ) → p < 32 → get_or l.sums.bits p 0 ≤ l.f * most_row)
