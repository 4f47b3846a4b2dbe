-- One port as a cabinet keeps it: what it means, and what it keeps.
use Rattle.std.specs.Prelude.{◌≡◌, ℕ, ◌+◌, ◌≤◌, Bool, true, ◌&&◌, List, [], ◌∷◌, ◌++◌, length, replicate, Some, None, Option, nat_le}
use Rattle.draft.specs.declared.port.Port.{Port}
use Rattle.line.specs.Ring.{turned}
use Rattle.plan.specs.Checks.{port_fits}
use Rattle.service.specs.Entries.{due_by, no_frame}
use Rattle.service.specs.declared.frame.Frame.{Frame}
use Rattle.cabinet.specs.Model.{PortModel, cut}
use Rattle.ports.specs.declared.lane.Lane.{Lane}

-- a lane of these figures into which nothing has been put
abbrev pub blank_lane : Port → Lane
blank_lane q = record { figures = q; finish = 0; frames = replicate 32 no_frame; first = 0; waiting = 0 }

-- what a lane means: its line lies in the frames from the first on, going round at the end
abbrev pub lane_port : Lane → PortModel
lane_port w = record { figures = w.figures; finish = w.finish; line = turned w.frames w.first w.waiting }

-- a frame with its entry slot, and with the due slot that the port's new finish gives it
abbrev pub stamped : Port → ℕ → ℕ → Frame → Frame
stamped q slot finish x =
    record { flow = x.flow; hop = x.hop; len = x.len; origin = x.origin; entry = slot; due = due_by q finish }

-- a port with one frame more at the end of its line, and the finish that counts it
abbrev pub pushed : ℕ → Frame → PortModel → PortModel
pushed finish x q = record { figures = q.figures; finish = finish; line = q.line ++ x ∷ [] }

-- a port once it has given this answer
abbrev pub left_by : Option Frame → PortModel → PortModel
left_by None q = q
left_by (Some x) q = cut 1 q

-- the figures keep every limit
abbrev pub Fits : Lane → Type 0
Fits w = port_fits w.figures ≡ true

-- the finish keeps its limit, and the line lies within its places
abbrev pub Filled : Lane → Type 0
Filled w = (w.finish ≤ 20000000000000000) × (w.waiting ≤ 32) × (w.first ≤ 32) × (length w.frames ≡ 32)

-- the due slots rise along the line, from low to top, and each frame has stayed long enough when it is due
abbrev pub rising : ℕ → ℕ → List Frame → ℕ → Bool
rising stay low [] top = nat_le low top
rising stay low (x ∷ xs) top = nat_le low x.due && (nat_le (x.entry + stay) x.due && rising stay x.due xs top)

abbrev pub Rises : Lane → Type 0
Rises w = rising w.figures.stay 0 (lane_port w).line (due_by w.figures w.finish) ≡ true

-- what every lane in use keeps
pub record Sound (w : Lane) : Type 0 where
  pub figures : Fits w
  pub filled : Filled w
  pub rises : Rises w
