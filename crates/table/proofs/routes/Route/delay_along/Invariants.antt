use Rattle.std.proofs.Common.{◌≡◌, ◌*◌, ◌≤◌}
use Rattle.table.specs.Bounds.{most_delay}
use Rattle.table.specs.Paths.{delay_along}
use Rattle.table.proofs.routes.Route.delay_along.Given as goal

abbrev pub invariant-loop-k : goal.invariant-loop-k
invariant-loop-k l = (l.sum ≡ delay_along l.self.flow.now l.delays.slots l.k) × (l.sum ≤ l.k * most_delay)
