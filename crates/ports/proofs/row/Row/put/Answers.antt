use Rattle.std.proofs.Common.{◌≡◌, Bool, true, false, cond, is_ok, refl, sym, subst}
use Rattle.cabinet.specs.Model.{PortModel}
use Rattle.cabinet.specs.Puts.{lined}
use Rattle.ports.specs.Laws.{lane_well}
use Rattle.ports.specs.Rows.{row_port}
use Rattle.ports.proofs.row.Row.put.Goals as goal

-- kept by the port with the frame, and by the port as it was
either : (keeps : PortModel → Bool) (b : Bool) (q v : PortModel) → keeps q ≡ true → keeps v ≡ true → keeps (cond b v q) ≡ true
either keeps true q v a h = h
either keeps false q v a h = a

pub returns : goal.returns
returns g c =
    let w = c.args.self.now in
    let q = row_port w in
    let o = c.requires.1 in
    let keeps = g.K.Kind.keeps w.own in
    let put = g.met.K.Kind.kept_put w.own q c.args.slot c.args.frame (lane_well w.lane o.sound) c.requires.0 o.kept in
    record {
      answer = c.put.ensures.answer;
      after = c.put.ensures.after;
      own = refl;
      whole = record {
        sound = c.put.ensures.sound;
        kept = subst (λ (v : PortModel). keeps v ≡ true) (sym c.put.ensures.after) (either keeps (is_ok c.put.result) q (lined c.args.slot q c.args.frame) o.kept put);
      };
    }
