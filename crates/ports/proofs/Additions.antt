-- What is known once a port was added.
use Rattle.std.proofs.Common.{◌≡◌, ◌<◌, Bool, true, ◌&&◌, ltb, length}
use Rattle.std.proofs.lemmas.Bool.{and_parts, ltb-true}
use Rattle.draft.specs.declared.port.Port.{Port}
use Rattle.plan.specs.Checks.{port_fits}
use Rattle.cabinet.specs.Fresh.{fresh_model}
use Rattle.cabinet.specs.Model.{Model}
use Rattle.ports.specs.Adds.{may_add}

-- the figures of the kind are within their limits, those of the port too, and there was room
pub added_parts : (m : Model) (q : Port) (own : Bool) → may_add m q own ≡ true → (own ≡ true) × (port_fits q ≡ true) × (length m.ports < 8)
added_parts m q own e =
    let a = and_parts (ltb (length m.ports) 8 && fresh_model m && port_fits q) own e in
    let b = and_parts (ltb (length m.ports) 8 && fresh_model m) (port_fits q) a.0 in
    let c = and_parts (ltb (length m.ports) 8) (fresh_model m) b.0 in
    (a.1, b.1, ltb-true (length m.ports) 8 c.0)
