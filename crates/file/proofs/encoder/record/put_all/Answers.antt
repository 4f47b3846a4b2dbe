use Rattle.std.proofs.Common.{◌++◌, length, take, sym, ap, ◌∙◌, subst, arith}
use Rattle.std.proofs.lemmas.List.Elements.{All-more}
use Rattle.file.specs.Writers.{in_order}
use Rattle.file.proofs.Writing.{in_order_more, in_order_room, room_left, wrote_more}
use Rattle.file.proofs.encoder.record.put_all.Goals as goal

pub put-requires : goal.put-requires
put-requires g c =
    let l = c.loop-number in
    let f = g.T.Record.bytes in
    let x = c.index-records-number in
    let same = ap (λ y. length (f l.number y)) x.is in
    room_left l.invariant.0 _ (omega (arith, same, in_order_room f c.args.records.now l.number x.result (omega arith)))

pub loop-number-preserved : goal.loop-number-preserved
loop-number-preserved g c =
    let l = c.loop-number in
    let f = g.T.Record.bytes in
    let x = c.index-records-number in
    let more = in_order_more f c.args.records.now l.number x.result (omega arith) in
    let xs = c.args.records.now in
    let full = All-more g.T.Record.full xs l.number x.result (omega arith) l.invariant.1 (subst g.T.Record.full x.is c.put.ensures.full) in
    (wrote_more l.invariant.0 c.put.ensures.after _ (ap (λ y. in_order f 0 (take l.number xs) ++ f l.number y) x.is ∙ sym more), full)
