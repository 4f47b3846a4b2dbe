use Rattle.std.proofs.Common.{None, sym, refl, ap, ◌∙◌}
use Rattle.std.proofs.lemmas.List.{length-set}
use Rattle.cabinet.specs.Model.{PortModel, frame_in}
use Rattle.ports.specs.Laws.{whole_at}
use Rattle.ports.proofs.TableSteps.{kept_set, past_own, port_past, take_left, take_own, take_said}
use Rattle.ports.proofs.table.Table.leave.Goals as goal

pub returns-then-port-self : goal.returns-then-port-self
returns-then-port-self g c =
    let t = c.args.self.now in
    record {
      answer = sym (ap (λ (q : PortModel). frame_in q.line 0) (port_past t c.args.port c.if-port-self.true));
      after = refl;
      own = past_own t c.args.port None c.if-port-self.true;
    }

pub take-requires : goal.take-requires
take-requires g c = whole_at c.args.self.now c.args.port c.index-self-port.result c.if-port-self.false

pub invariant_of-self : goal.invariant_of-self
invariant_of-self g c =
    let t = c.args.self.now in
    let k = kept_set t c.args.port c.take.new.self c.if-port-self.false c.take.ensures.whole in
    record {
      sized = length-set t.rows c.args.port c.take.new.self ∙ t.sized;
      few = t.few;
      soon = t.soon;
      figures = k.figures;
      filled = k.filled;
      rises = k.rises;
      kept = k.kept;
    }

pub returns : goal.returns
returns g c =
    let t = c.args.self.now in
    let p = c.args.port in
    let d = c.index-self-port.result in
    let h = c.if-port-self.false in
    record {
      answer = take_said t p d h c.take.result c.take.ensures.answer;
      after = take_left t p d h c.take.new.self c.take.result c.take.ensures.after;
      own = take_own t p d h c.take.new.self c.take.result c.take.ensures.own;
    }
