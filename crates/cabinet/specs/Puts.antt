-- Put: what is refused, and what a frame that enters makes of the port.
use Rattle.std.specs.Prelude.{ℕ, cond, [], ◌∷◌, ◌++◌, length, is_ok, Result, nat_lt}
use Rattle.refusal.specs.Firsts.{and_then}
use Rattle.service.specs.Entries.{entered, finish_after, finish_fits, has_room, length_fits}
use Rattle.service.specs.declared.frame.Frame.{Frame}
use Rattle.cabinet.specs.Faults.{unless}
use Rattle.cabinet.specs.Model.{Model, PortModel, port_in, with_port}
use Rattle.cabinet.specs.declared.fault.CabinetFault.{CabinetFault}
use Rattle.cabinet.specs.declared.fault.CabinetFault.TheVariants.{Finish, Full, Length, NoPort}

-- the answer of port p, in this slot
abbrev pub line_answer : ℕ → ℕ → PortModel → Frame → Result (Unit {0}) CabinetFault
line_answer slot p q x =
    and_then (unless (length_fits q.figures x.len) (Length p))
    (and_then (unless (has_room (length q.line)) (Full p))
    (unless (finish_fits (finish_after q.figures slot q.finish x.len)) (Finish p)))

-- a port once the frame has entered it: the finish counts it, and it stands at the end of the line
abbrev pub lined : ℕ → PortModel → Frame → PortModel
lined slot q x =
    record {
      figures = q.figures;
      finish = finish_after q.figures slot q.finish x.len;
      line = q.line ++ entered q.figures slot q.finish x ∷ [];
    }

-- refused where there is no such port, then by the port
abbrev pub put_answer : Model → ℕ → Frame → Result (Unit {0}) CabinetFault
put_answer m p x =
    and_then (unless (nat_lt p (length m.ports)) (NoPort p)) (line_answer m.slot p (port_in m p) x)

-- the frame has entered; or, where it is refused, nothing has changed
abbrev pub put_after : Model → ℕ → Frame → Model
put_after m p x = cond (is_ok (put_answer m p x)) (with_port m p (lined m.slot (port_in m p) x)) m
