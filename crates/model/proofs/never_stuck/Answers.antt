use Rattle.model.proofs.Progress.{never_stuck}
use Rattle.model.proofs.never_stuck.Goals as goal

pub returns : goal.returns
returns c = never_stuck
