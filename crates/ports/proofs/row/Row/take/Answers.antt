use Rattle.std.proofs.Common.{◌≡◌, true, sym, subst}
use Rattle.cabinet.specs.Model.{PortModel}
use Rattle.ports.specs.Rows.{row_port}
use Rattle.ports.proofs.RowSteps.{leads}
use Rattle.ports.proofs.row.Row.take.Goals as goal

pub returns : goal.returns
returns g c =
    let w = c.args.self.now in
    let q = row_port w in
    let x = c.in_ok-frame.frame in
    let took = c.in_ok-frame.ensures in
    let l = leads g.K.Kind.keeps w c.requires x took.answer in
    let own = c.hand.ensures q l in
    record {
      answer = took.answer;
      after = took.after;
      own = own;
      whole = record {
        sound = took.sound;
        kept = rw own (subst (λ (v : PortModel). g.K.Kind.keeps (g.K.Kind.handed w.own x) v ≡ true) (sym took.after) (g.met.K.Kind.kept_handed w.own q x l));
      };
    }
