-- Advance: refused while a frame is owed, and in the last slot.
use Rattle.std.specs.Prelude.{ℕ, ◌+◌, Bool, cond, List, [], ◌∷◌, is_ok, Some, None, Err, Option, Result, nat_le, nat_lt}
use Rattle.std.specs.List.{list_any}
use Rattle.service.specs.declared.frame.Frame.{Frame}
use Rattle.cabinet.specs.Faults.{unless}
use Rattle.cabinet.specs.Model.{Model, PortModel}
use Rattle.cabinet.specs.declared.fault.CabinetFault.{CabinetFault}
use Rattle.cabinet.specs.declared.fault.CabinetFault.TheVariants.{LastSlot, Owed}

-- some frame of the line is due by this slot
abbrev pub has_due : ℕ → List Frame → Bool
has_due slot xs = list_any (λ x. nat_le x.due slot) xs

-- the first of these ports, numbered from p on, at which a frame is due
abbrev pub owed_from : ℕ → List PortModel → ℕ → Option ℕ
owed_from slot [] p = None
owed_from slot (q ∷ qs) p = cond (has_due slot q.line) (Some p) (owed_from slot qs (p + 1))

-- the lowest port that owes a frame
abbrev pub owed_port : Model → Option ℕ
owed_port m = owed_from m.slot m.ports 0

-- a port that owes a frame is named before the last slot is
abbrev pub advance_by : Option ℕ → ℕ → Result (Unit {0}) CabinetFault
advance_by (Some p) slot = Err (Owed p)
advance_by None slot = unless (nat_lt slot 1000000000000) LastSlot

abbrev pub advance_answer : Model → Result (Unit {0}) CabinetFault
advance_answer m = advance_by (owed_port m) m.slot

-- one slot on; or, where that is refused, nothing has changed
abbrev pub advance_after : Model → Model
advance_after m = cond (is_ok (advance_answer m)) (record { slot = m.slot + 1; ports = m.ports }) m
