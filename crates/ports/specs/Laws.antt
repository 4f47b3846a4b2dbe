-- The law of every cabinet, proved of tables; and that of the kind that is told.
use Rattle.std.proofs.Common.{◌≡◌, ℕ, ◌+◌, ◌<◌, ◌≤◌, List, [], ◌∷◌, length, get_or, take, ap, ◌∙◌, arith}
use Rattle.std.proofs.lemmas.List.{get_or-map, get_or-take, length-map, length-take}
use Rattle.std.proofs.lemmas.Bool.{and_parts, leb-false, leb-true}
use Rattle.line.proofs.Turns.{length_turned}
use Rattle.plan.proofs.Keeps.{port_kept}
use Rattle.plan.specs.Checks.{figures_fit, stay_fits}
use Rattle.plan.specs.Limits.{PortKept}
use Rattle.service.specs.Entries.{has_stayed}
use Rattle.service.specs.declared.frame.Frame.{Frame}
use Rattle.cabinet.specs.Model.{PortModel, port_in, vacant}
use Rattle.cabinet.specs.Takes.{InTime}
use Rattle.cabinet.specs.Wells.{Well, WellPort}
use Rattle.ports.specs.Lanes.{Filled, Fits, Sound, lane_port}
use Rattle.ports.specs.Rows.{Whole, row_port}
use Rattle.ports.specs.Tables.{table_model}
use Rattle.ports.specs.declared.kind.Kind as Kind
use Rattle.ports.specs.declared.lane.Lane.{Lane}
use Rattle.ports.specs.declared.row.Row.{Row}
use Rattle.ports.specs.declared.table.Table.{Table}

-- a frame that is handed over once it has stayed is so in time
pub stayed_in_time : (slot : ℕ) (q : PortModel) (x : Frame) → x.entry + q.figures.stay ≤ x.due → InTime slot q x (has_stayed q.figures.stay slot x)
stayed_in_time slot q x h =
    record {
      stayed = λ r. leb-true (x.entry + q.figures.stay) slot r;
      later = λ r. let l : slot < x.entry + q.figures.stay = leb-false (x.entry + q.figures.stay) slot r in omega arith;
    }

pub lane_kept : (w : Lane) → Fits w → PortKept w.figures
lane_kept w e =
    let t = and_parts (figures_fit w.figures) (stay_fits w.figures) e in port_kept w.figures t.0 t.1

pub line_long : (w : Lane) → Filled w → length (lane_port w).line ≡ w.waiting
line_long w h = length_turned w.frames w.first w.waiting (omega arith) (omega arith)

-- it keeps what every port of a cabinet keeps
pub lane_well : (w : Lane) → Sound w → WellPort (lane_port w)
lane_well w o =
    record { figures = lane_kept w o.figures; finish_most = o.filled.0; line_most = rw (line_long w o.filled) o.filled.1 }

-- some element of a list that has one
pub some : {X : Type 0} (xs : List X) (p : ℕ) → p < length xs → X
some [] p h = absurd (omega arith)
some (x ∷ xs) p h = x

module _ {K : Type 0} {g : Kind.Ghosts K} (t : Table K g) where
  pub ports_long : length (table_model t).ports ≡ t.count
  ports_long = length-map (take t.count t.rows) row_port ∙ (simp length-take (omega arith))

  pub port_is : (p : ℕ) (d : Row K) → p < t.count → port_in (table_model t) p ≡ row_port (get_or t.rows p d)
  port_is p d h =
      let l : p < length (take t.count t.rows) = simp length-take (omega arith) in
      get_or-map row_port (take t.count t.rows) p d vacant l ∙ ap row_port (get_or-take t.count t.rows p d h)

  pub whole_at : (p : ℕ) (d : Row K) → p < t.count → Whole g.keeps (get_or t.rows p d)
  whole_at p d h =
      record { sound = record { figures = t.figures p h d; filled = t.filled p h d; rises = t.rises p h d }; kept = t.kept p h d }

  pub table_well : Well (table_model t)
  table_well =
      record {
        ports_most = rw ports_long (omega arith);
        slot_most = t.soon;
        ports = λ p h.
            let k : p < t.count = rw ports_long at h in
            let d : Row K = some t.rows p (omega arith) in
            rw (port_is p d k) (lane_well (get_or t.rows p d).lane (whole_at p d k).sound);
      }
