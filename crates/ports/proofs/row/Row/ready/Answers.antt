use Rattle.std.proofs.Common.{leb, ap, sym, subst, ◌∙◌}
use Rattle.cabinet.proofs.Decisions.{timely_by, timely_none}
use Rattle.cabinet.specs.Takes.{InTime, passes}
use Rattle.ports.specs.Rows.{row_port}
use Rattle.ports.proofs.RowSteps.{first_owes, leads}
use Rattle.ports.proofs.row.Row.ready.Goals as goal

pub returns-in-Some : goal.returns-in-Some
returns-in-Some g c =
    let w = c.args.self.now in
    let q = row_port w in
    let s = c.args.slot in
    let x = c.in-Some.frame in
    let is = c.in-Some.ensures in
    let l = leads g.K.Kind.keeps w c.requires x is in
    let e = c.ready.ensures q l in
    record {
      value = e ∙ ap (passes (g.K.Kind.ready w.own s q.figures.stay)) is;
      timely = timely_by s q x c.ready.result is
          (first_owes g.K.Kind.keeps w c.requires s ∙ ap (passes (λ y. leb y.due s)) (sym is))
          (subst (InTime s q x) (sym e) (g.met.K.Kind.in_time w.own q s x l));
    }

pub returns-in-None : goal.returns-in-None
returns-in-None g c =
    let q = row_port c.args.self.now in
    record {
      value = ap (passes (g.K.Kind.ready c.args.self.now.own c.args.slot q.figures.stay)) c.in-None.ensures;
      timely = timely_none c.args.slot q c.in-None.ensures;
    }
