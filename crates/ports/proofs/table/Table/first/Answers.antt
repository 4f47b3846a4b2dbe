use Rattle.std.proofs.Common.{leb, sym, ap, ◌∙◌, subst}
use Rattle.cabinet.specs.Model.{port_in}
use Rattle.cabinet.specs.Takes.{passes}
use Rattle.ports.specs.Kinds.{first_stays}
use Rattle.ports.specs.Tables.{table_model}
use Rattle.ports.proofs.TableSteps.{first_tells}
use Rattle.ports.proofs.table.Table.first.Goals as goal

pub returns : goal.returns
returns g c =
    let t = c.args.self.now in
    let told = first_tells t c.args.port in
    let e = c.frame.ensures in
    record {
      value = e;
      earliest = told.0 ∙ ap (passes (λ x. leb x.due t.slot)) (sym e);
      stays = subst (first_stays (port_in (table_model t) c.args.port)) (sym e) told.1;
    }
