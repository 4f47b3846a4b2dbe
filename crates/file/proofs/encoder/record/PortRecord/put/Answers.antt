use Rattle.std.proofs.Common.{refl}
use Rattle.file.specs.Writes.{port_record}
use Rattle.file.proofs.Writing.{wrote_more}
use Rattle.file.proofs.encoder.record.PortRecord.put.Goals as goal

pub returns-clause-after : goal.returns-clause-after
returns-clause-after c =
    let latency = wrote_more c.put_letter.ensures.after c.put_number.ensures.after _ refl in
    let stay = wrote_more latency c.put_number-2.ensures.after _ refl in
    let shortest = wrote_more stay c.put_number-3.ensures.after _ refl in
    wrote_more shortest c.put_number-4.ensures.after (port_record c.args.self.now) refl
