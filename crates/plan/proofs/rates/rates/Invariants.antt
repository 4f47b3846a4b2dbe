use Rattle.std.proofs.Common.{◌≡◌, ℕ, ◌*◌, ◌<◌, ◌≤◌, get_or}
use Rattle.plan.specs.Limits.{rates_of}
use Rattle.plan.proofs.rates.rates.Given as goal

abbrev pub invariant-loop-flow : goal.invariant-loop-flow
invariant-loop-flow l =
    ((p : ℕ) → p < 32 → get_or l.sums p 0 ≡ rates_of l.parts p l.flow-index)
    × ((p : ℕ) → p < 32 → get_or l.sums p 0 ≤ l.flow-index * (8 * 4294967295))
