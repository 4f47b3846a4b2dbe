use Rattle.std.proofs.Common.{get_or, arith}
use Rattle.line.proofs.Turns.{get_or_turned}
use Rattle.line.proofs.queue.Queue.get.Goals as goal

pub returns : goal.returns
returns g c =
    let q = c.args.self.now in
    let v = get_or q.places.now c.place.result c.index-self-place.result in
    let e = get_or_turned q.places.now q.first q.count c.args.i v q.starts (omega arith) q.fits in
    (omega arith, cc)
