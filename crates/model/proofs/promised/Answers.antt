use Rattle.model.proofs.Promises.{promised}
use Rattle.model.proofs.promised.Goals as goal

pub returns : goal.returns
returns c = promised
