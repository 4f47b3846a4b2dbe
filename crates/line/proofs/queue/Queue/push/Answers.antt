use Rattle.std.proofs.Common.{refl, arith}
use Rattle.line.proofs.Turns.{turned_push}
use Rattle.line.proofs.queue.Queue.push.Goals as goal

pub returns-clause-after : goal.returns-clause-after
returns-clause-after g c =
    let q = c.args.self.now in
    let e = turned_push q.places.now q.first q.count c.args.value q.starts (omega arith) in
    (omega arith, cc, refl, refl, cc)
