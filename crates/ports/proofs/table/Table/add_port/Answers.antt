use Rattle.std.proofs.Common.{◌≡◌, ◌+◌, true, map, take, set, sym, ap, ◌∙◌, arith}
use Rattle.std.proofs.lemmas.List.{length-set}
use Rattle.ports.specs.Adds.{may_add}
use Rattle.ports.specs.Rows.{row_port}
use Rattle.ports.specs.Tables.{table_model}
use Rattle.ports.specs.declared.row.Row.{Row}
use Rattle.ports.proofs.Additions.{added_parts}
use Rattle.ports.proofs.TableSteps.{add_kept, add_left, add_own, add_room}
use Rattle.ports.proofs.table.Table.add_port.Goals as goal

pub bounds-self-self : goal.bounds-self-self
bounds-self-self g c = add_room c.args.self.now c.args.figures c.args.own (sym c.if-not-may_add.ensures)

pub invariant_of-self : goal.invariant_of-self
invariant_of-self g c =
    let t = c.args.self.now in
    let q = c.args.figures in
    let e : may_add (table_model t) q (g.K.Kind.fits q c.args.own) ≡ true = sym c.if-not-may_add.ensures in
    let parts = added_parts (table_model t) q (g.K.Kind.fits q c.args.own) e in
    let room = add_room t q c.args.own e in
    let k = rw (← c.new.ensures) at (add_kept t q c.args.own e (g.met.K.Kind.kept_fresh c.args.own q parts.1 parts.0)) in
    record {
      sized = length-set t.rows t.count c.new.result ∙ t.sized;
      few = omega arith;
      soon = t.soon;
      figures = k.figures;
      filled = k.filled;
      rises = k.rises;
      kept = k.kept;
    }

pub returns : goal.returns
returns g c =
    let t = c.args.self.now in
    let q = c.args.figures in
    let e : may_add (table_model t) q (g.K.Kind.fits q c.args.own) ≡ true = sym c.if-not-may_add.ensures in
    record {
      answer = rw e;
      after = ap (λ (v : Row _). record { slot = t.slot; ports = map row_port (take (t.count + 1) (set t.rows t.count v)) }) c.new.ensures
          ∙ add_left t q c.args.own e;
      own = ap (λ (v : Row _). map (λ w. w.own) (take (t.count + 1) (set t.rows t.count v))) c.new.ensures ∙ add_own t q c.args.own e;
    }
