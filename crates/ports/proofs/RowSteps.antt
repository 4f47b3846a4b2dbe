-- What the first frame of a row tells, and what the kind keeps.
use Rattle.std.proofs.Common.{◌≡◌, ℕ, Bool, leb, Some, sym, subst}
use Rattle.service.specs.Entries.{due_by}
use Rattle.service.specs.declared.frame.Frame.{Frame}
use Rattle.cabinet.specs.Advances.{has_due}
use Rattle.cabinet.specs.Model.{PortModel, frame_in}
use Rattle.cabinet.specs.Takes.{passes}
use Rattle.cabinet.proofs.Decisions.{front}
use Rattle.ports.specs.Kinds.{Leads, first_stays}
use Rattle.ports.specs.Rows.{Whole, row_port}
use Rattle.ports.specs.declared.row.Row.{Row}
use Rattle.ports.specs.Laws.{lane_well}
use Rattle.ports.proofs.Lines.{first_decides, first_patient}

module _ {K : Type 0} (keeps : K → PortModel → Bool) (w : Row K) (o : Whole keeps w) where
  pub first_owes : (slot : ℕ) → has_due slot (row_port w).line ≡ passes (λ x. leb x.due slot) (frame_in (row_port w).line 0)
  first_owes slot =
      first_decides w.lane.figures.stay 0 (row_port w).line (due_by w.lane.figures w.lane.finish) slot o.sound.rises

  pub first_stayed : first_stays (row_port w) (frame_in (row_port w).line 0)
  first_stayed = first_patient (row_port w) 0 (due_by w.lane.figures w.lane.finish) o.sound.rises

  pub leads : (x : Frame) → Some x ≡ frame_in (row_port w).line 0 → Leads (keeps w.own) (row_port w) x
  leads x e =
      record {
        well = lane_well w.lane o.sound;
        kept = o.kept;
        first = front (row_port w).line x e;
        stays = subst (first_stays (row_port w)) (sym e) first_stayed;
      }
