-- The line out of a prompt port: its own finish g, counted at the line speed C, and what it keeps.
use Rattle.std.specs.Prelude.{◌≡◌, ℕ, ◌+◌, ◌*◌, max, Bool, true, cond, ◌&&◌, List, [], ◌∷◌, is_ok, ◌==◌, nat_le}
use Rattle.draft.specs.declared.port.Port.{Port}
use Rattle.rounding.specs.Quotients.{up}
use Rattle.service.specs.Entries.{has_stayed}
use Rattle.service.specs.declared.frame.Frame.{Frame}
use Rattle.cabinet.specs.Model.{Model, PortModel, port_in}
use Rattle.cabinet.specs.Puts.{put_after, put_answer}
use Rattle.prompt.specs.declared.wire.Wire.{Wire}

-- a line that has sent nothing yet
abbrev pub fresh_wire : ℕ → ℕ → Wire
fresh_wire speed latency = record { speed = speed; latency = latency; sent = 0 }

-- the line speed C is R to 10,000, and the latency U is 0 to T
abbrev pub wire_fits : Port → ℕ → ℕ → Bool
wire_fits q speed latency = nat_le q.rate speed && nat_le speed 10000 && nat_le latency q.latency

-- and nothing has been sent
abbrev pub suits : Port → Wire → Bool
suits q w = wire_fits q w.speed w.latency && w.sent == 0

-- the own finish with one frame more: the greater of itself and entry × C, plus the length
abbrev pub own_after : ℕ → ℕ → Frame → ℕ
own_after speed own x = max own (x.entry * speed) + x.len

-- the own finish with all the frames of a line, counted on from that of the last frame handed over
abbrev pub own_finish : ℕ → ℕ → List Frame → ℕ
own_finish speed own [] = own
own_finish speed own (x ∷ xs) = own_finish speed (own_after speed own x) xs

-- the own finish g of a port with this line
abbrev pub own_of : Wire → PortModel → ℕ
own_of w q = own_finish w.speed w.sent q.line

-- g of port p once the frame is put: the greater of g and slot × C, plus the length; as it was where the frame is refused
abbrev pub own_put : Wire → Model → ℕ → Frame → ℕ
own_put w m p x =
    cond (is_ok (put_answer m p x)) (max (own_of w (port_in m p)) (m.slot * w.speed) + x.len) (own_of w (port_in m p))

-- so it is at every put: put leaves the wire as it was, and the ports as put_after says
abbrev pub PutsCounted : Type 0
PutsCounted = (w : Wire) (m : Model) (p : ℕ) (x : Frame) → own_of w (port_in (put_after m p x) p) ≡ own_put w m p x

-- the first frame is handed over once the slots up(g/C) + U and entry + m are reached, with g counted up to it
abbrev pub passed : Wire → ℕ → ℕ → Frame → Bool
passed w slot stay x = nat_le (up (own_after w.speed w.sent x) w.speed + w.latency) slot && has_stayed stay slot x

-- the wire once this frame is handed over
abbrev pub sent_on : Wire → Frame → Wire
sent_on w x = record { speed = w.speed; latency = w.latency; sent = own_after w.speed w.sent x }

-- every frame of the line has been sent by the slot in which it is due
abbrev pub through : ℕ → ℕ → ℕ → List Frame → Bool
through speed latency own [] = true
through speed latency own (x ∷ xs) =
    nat_le (up (own_after speed own x) speed + latency) x.due && through speed latency (own_after speed own x) xs

-- the wire is no slower than the port: its pace fits, each frame is through in time, g/C is at most finish/R, and g is small
abbrev pub kept : Wire → PortModel → Bool
kept w q =
    wire_fits q.figures w.speed w.latency
    && (through w.speed w.latency w.sent q.line
    && (nat_le (own_of w q * q.figures.rate) (q.finish * w.speed)
    && nat_le (own_of w q) (10000000000000000 + q.finish)))
