-- What a cabinet means: a slot and, for each port, its figures, its finish and its line.
use Rattle.std.specs.Prelude.{ℕ, List, [], drop, Option, slice_get, slice_index_or, slice_set}
use Rattle.draft.specs.Plans.{no_port}
use Rattle.draft.specs.declared.port.Port.{Port}
use Rattle.service.specs.declared.frame.Frame.{Frame}

-- a port at work: rate, latency, least stay and shortest frame; its finish; the frames that wait, the first to come out first
pub record PortModel : Type 0 where
  pub figures : Port
  pub finish : ℕ
  pub line : List Frame

-- a cabinet: its slot and its ports, in the order of their numbers
pub record Model : Type 0 where
  pub slot : ℕ
  pub ports : List PortModel

-- what stands where a cabinet has no port
abbrev pub vacant : PortModel
vacant = record { figures = no_port; finish = 0; line = [] }

-- port p
abbrev pub port_in : Model → ℕ → PortModel
port_in m p = slice_index_or m.ports p vacant

-- the same cabinet with another port p
abbrev pub with_port : Model → ℕ → PortModel → Model
with_port m p q = record { slot = m.slot; ports = slice_set m.ports p q }

-- the i-th frame of a line; or none, past its end
abbrev pub frame_in : List Frame → ℕ → Option Frame
frame_in xs i = slice_get xs i

-- the same port without the first n frames of its line
abbrev pub cut : ℕ → PortModel → PortModel
cut n q = record { figures = q.figures; finish = q.finish; line = drop n q.line }
