use Rattle.std.proofs.Common.{◌≡◌, None, refl}
use Rattle.cabinet.proofs.Decisions.{timely_taken}
use Rattle.cabinet.specs.Takes.{hand_answer}
use Rattle.ports.specs.Tables.{owns, table_model}
use Rattle.ports.proofs.TableSteps.{none_own}
use Rattle.ports.proofs.table.Table.hand_where.Goals as goal

pub returns-then-ready : goal.returns-then-ready
returns-then-ready g c =
    let m = table_model c.args.self.now in
    let e : c.leave.result ≡ hand_answer c.args.ready m c.args.port = rw c.if-ready.true c.leave.ensures.answer in
    record {
      answer = e;
      after = c.leave.ensures.after;
      own = c.leave.ensures.own;
      kept = timely_taken m (table_model c.leave.new.self) c.args.port c.args.ready c.leave.result e c.leave.ensures.after;
    }

pub returns-else-ready : goal.returns-else-ready
returns-else-ready g c =
    let m = table_model c.args.self.now in
    let e : None ≡ hand_answer c.args.ready m c.args.port = rw c.if-ready.false in
    record {
      answer = e;
      after = refl;
      own = none_own g.K.Kind.handed c.args.port (owns c.args.self.now);
      kept = timely_taken m m c.args.port c.args.ready None e refl;
    }
