use Rattle.std.proofs.Common.{◌*◌, arith}
use Rattle.table.proofs.Scratch.{laid_all}
use Rattle.table.proofs.search.lay.Goals as goal

pub returns : goal.returns
returns c =
    laid_all c.args.table.now c.args.scratch.now c.loop-f.scratch (c.loop-f.f * 8) c.loop-f.auto.scratch c.requires (omega arith) c.loop-f.invariant
