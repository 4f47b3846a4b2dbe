use Rattle.calculus.proofs.Hops.{counts, holds, widens}
use Rattle.calculus.proofs.delays.Goals as goal

pub returns : goal.returns
returns c = record { widens = widens; holds = holds; counts = counts }
