use Rattle.std.proofs.Common.{sym}
use Rattle.line.proofs.Turns.{length_turned}
use Rattle.line.proofs.queue.Queue.len.Goals as goal

pub returns-clause-items : goal.returns-clause-items
returns-clause-items g c =
    let q = c.args.self.now in
    sym (length_turned q.places.now q.first q.count q.starts q.fits)
