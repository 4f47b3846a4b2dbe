use Rattle.std.proofs.Common.{◌≡◌, ◌+◌, ◌*◌, ◌≤◌, Ok}
use Rattle.refusal.specs.Firsts.{first_refusal}
use Rattle.table.specs.Bounds.{most_delay}
use Rattle.table.specs.Checks.{regulator_fits, unless}
use Rattle.table.specs.Paths.{stretch_by}
use Rattle.table.specs.declared.fault.TableFault.TheVariants.{Crowded}
use Rattle.table.proofs.routes.Route.regulators_in.Given as goal

abbrev pub invariant-loop-k : goal.invariant-loop-k
invariant-loop-k l =
    (l.stretch ≡ stretch_by l.self.flow.now l.delays.slots l.k) × (l.stretch ≤ l.k * (most_delay + 1))
    × (first_refusal (λ k. unless (regulator_fits l.self.flow.now (stretch_by l.self.flow.now l.delays.slots k) k) (Crowded (32 + (l.self.number * 8 + k)))) l.k ≡ Ok tt)
