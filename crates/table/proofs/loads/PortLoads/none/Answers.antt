use Rattle.std.proofs.Common.{arith}
use Rattle.plan.proofs.Sums.{zeros}
use Rattle.table.proofs.loads.PortLoads.none.Goals as goal

pub invariant_of-result : goal.invariant_of-result
invariant_of-result c = record { few = λ p lt. omega (arith, zeros 32 p) }

pub returns : goal.returns
returns c = λ p lt. zeros 32 p
