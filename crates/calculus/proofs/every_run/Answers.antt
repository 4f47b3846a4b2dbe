use Rattle.calculus.proofs.Laws.{every_run}
use Rattle.calculus.proofs.every_run.Goals as goal

pub returns : goal.returns
returns c = every_run
