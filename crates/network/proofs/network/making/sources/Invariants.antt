use Rattle.std.proofs.Common.{◌≡◌, ℕ, ◌*◌, ◌<◌, ◌≤◌, length, replicate}
use Rattle.plan.specs.Limits.{regulators_of}
use Rattle.network.specs.Sources.{first_of, levels}
use Rattle.network.proofs.network.making.sources.Given as goal

abbrev pub invariant-loop-f : goal.invariant-loop-f
invariant-loop-f l =
    (l.n ≡ regulators_of l.plan.parts l.f) × (l.n ≤ 8 * l.f) × (length l.found ≡ 64) × (levels l.found ≡ replicate 64 4294967295)
    × ((g : ℕ) → g < l.f → first_of l.found g ≡ regulators_of l.plan.parts g)
