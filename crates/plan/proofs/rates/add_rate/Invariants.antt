use Rattle.std.proofs.Common.{◌≡◌, ℕ, ◌+◌, ◌*◌, ◌<◌, ◌≤◌, length, get_or}
use Rattle.plan.specs.Rates.{rate_in}
use Rattle.plan.proofs.rates.add_rate.Given as goal

abbrev pub invariant-loop-port : goal.invariant-loop-port
invariant-loop-port l =
    ((p : ℕ) → p < 32 → get_or l.sums p 0 ≡ get_or l.initial.sums p 0 + rate_in l.flow p l.port-index)
    × ((p : ℕ) → p < 32 → get_or l.sums p 0 ≤ get_or l.initial.sums p 0 + l.port-index * 4294967295)
    × (length l.sums ≡ 32)
