use Rattle.std.proofs.Common.{◌≤◌, length, refl, ◌∙◌}
use Rattle.std.proofs.lemmas.List.{length-set}
use Rattle.std.proofs.lemmas.Bool.{le-ltb}
use Rattle.ports.specs.Laws.{ports_long, whole_at}
use Rattle.ports.specs.Tables.{table_model}
use Rattle.ports.proofs.TableSteps.{kept_set, put_left, put_own, put_said}
use Rattle.ports.proofs.table.serving.TableCabinet.put.Goals as goal

pub returns-then-port-self : goal.returns-then-port-self
returns-then-port-self g c =
    let m = table_model c.args.self.now in
    let h : length m.ports ≤ c.args.port = rw (ports_long c.args.self.now) c.if-port-self.true in
    rw (le-ltb c.args.port (length m.ports) h) (record { answer = refl; after = refl; own = refl })

pub put-requires : goal.put-requires
put-requires g c =
    (c.args.self.now.soon, whole_at c.args.self.now c.args.port c.index-self-port.result c.if-port-self.false)

pub invariant_of-self : goal.invariant_of-self
invariant_of-self g c =
    let t = c.args.self.now in
    let k = kept_set t c.args.port c.put.new.self c.if-port-self.false c.put.ensures.whole in
    record {
      sized = length-set t.rows c.args.port c.put.new.self ∙ t.sized;
      few = t.few;
      soon = t.soon;
      figures = k.figures;
      filled = k.filled;
      rises = k.rises;
      kept = k.kept;
    }

pub returns : goal.returns
returns g c =
    let t = c.args.self.now in
    let p = c.args.port in
    let d = c.index-self-port.result in
    let h = c.if-port-self.false in
    let e = c.put.ensures in
    record {
      answer = put_said t p d h c.args.frame c.put.result e.answer;
      after = put_left t p d h c.put.new.self c.args.frame c.put.result e.answer e.after;
      own = put_own t p d h c.put.new.self e.own;
    }
