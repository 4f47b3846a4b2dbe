use Rattle.std.proofs.Common.{◌++◌, take, refl, sym, ap, rules}
use Rattle.file.specs.Writes.{flow_record}
use Rattle.file.proofs.Returning.{listed_8}
use Rattle.file.proofs.Writing.{wrote_more}
use Rattle.file.proofs.encoder.record.FlowRecord.put.Goals as goal

pub returns-clause-after : goal.returns-clause-after
returns-clause-after c =
    let w = c.args.self.now in
    let burst = wrote_more c.put_letter.ensures.after c.put_number.ensures.after _ refl in
    let shortest = wrote_more burst c.put_number-2.ensures.after _ refl in
    let longest = wrote_more shortest c.put_number-3.ensures.after _ refl in
    let hops = wrote_more longest c.put_number-4.ensures.after _ refl in
    let path = wrote_more hops c.put.ensures.after _ refl in
    wrote_more path c.put-2.ensures.after (flow_record w) (ap (λ l. take 19 (flow_record w) ++ l) (sym (listed_8 w.path.ports (search rules))))
