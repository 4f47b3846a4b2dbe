-- Adding a port: up to eight, while the cabinet is fresh, with figures within their limits.
use Rattle.std.specs.Prelude.{Bool, cond, ◌&&◌, [], ◌∷◌, ◌++◌, length, Result, nat_lt}
use Rattle.draft.specs.declared.port.Port.{Port}
use Rattle.plan.specs.Checks.{port_fits}
use Rattle.cabinet.specs.Faults.{unless}
use Rattle.cabinet.specs.Fresh.{fresh_model, fresh_port}
use Rattle.cabinet.specs.Model.{Model}
use Rattle.cabinet.specs.declared.fault.CabinetFault.{CabinetFault}
use Rattle.cabinet.specs.declared.fault.CabinetFault.TheVariants.{NoPort}

-- a port of these figures may be added, where those of the cabinet's kind are within their limits
abbrev pub may_add : Model → Port → Bool → Bool
may_add m q own = nat_lt (length m.ports) 8 && fresh_model m && port_fits q && own

-- refused with the number that the port would have had
abbrev pub add_answer : Model → Port → Bool → Result (Unit {0}) CabinetFault
add_answer m q own = unless (may_add m q own) (NoPort (length m.ports))

-- the port is the last now; or, where it is refused, nothing has changed
abbrev pub add_after : Model → Port → Bool → Model
add_after m q own = cond (may_add m q own) (record { slot = m.slot; ports = m.ports ++ fresh_port q ∷ [] }) m
