use Rattle.calculus.proofs.Hops.{bucket_waits}
use Rattle.calculus.proofs.regulators.Goals as goal

pub returns : goal.returns
returns c = bucket_waits
