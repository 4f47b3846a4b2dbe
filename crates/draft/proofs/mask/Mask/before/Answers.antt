use Rattle.std.proofs.Common.{add-one, arith}
use Rattle.draft.proofs.mask.Mask.before.Goals as goal

pub loop-hop-preserved : goal.loop-hop-preserved
loop-hop-preserved c = (rw add-one (cc), omega arith)
