use Rattle.std.proofs.Common.{◌≡◌, ◌*◌, ◌≤◌}
use Rattle.plan.specs.Limits.{rates_of}
use Rattle.plan.proofs.rates.rates_through.Given as goal

abbrev pub invariant-loop-flow : goal.invariant-loop-flow
invariant-loop-flow l = (l.sum ≡ rates_of l.parts l.port l.flow-index) × (l.sum ≤ 4294967296 * l.flow-index)
