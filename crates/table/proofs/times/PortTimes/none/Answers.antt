use Rattle.std.proofs.Common.{arith}
use Rattle.plan.proofs.Sums.{zeros}
use Rattle.table.proofs.times.PortTimes.none.Goals as goal

pub invariant_of-result : goal.invariant_of-result
invariant_of-result c = record { few = λ p lt. omega (arith, zeros 32 p) }
