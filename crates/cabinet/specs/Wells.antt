-- What every cabinet keeps, whatever its make.
use Rattle.std.specs.Prelude.{ℕ, ◌<◌, ◌≤◌, length}
use Rattle.plan.specs.Limits.{PortKept}
use Rattle.cabinet.specs.Model.{Model, PortModel, port_in}

-- a port within its limits
pub record WellPort (q : PortModel) : Type 0 where
  pub figures : PortKept q.figures
  pub finish_most : q.finish ≤ 20000000000000000
  pub line_most : length q.line ≤ 32

pub record Well (m : Model) : Type 0 where
  pub ports_most : length m.ports ≤ 32
  pub slot_most : m.slot ≤ 1000000000000
  pub ports : (p : ℕ) → p < length m.ports → WellPort (port_in m p)
