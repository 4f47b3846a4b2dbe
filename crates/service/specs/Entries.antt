-- What a port makes of a frame that enters its line.
use Rattle.std.specs.Prelude.{ℕ, ◌+◌, ◌*◌, max, Bool, ◌&&◌, leb, ltb, nat_le}
use Rattle.rounding.specs.Quotients.{up}
use Rattle.draft.specs.declared.port.Port.{Port}
use Rattle.service.specs.declared.frame.Frame.{Frame}

-- what stands where there is no frame
abbrev pub no_frame : Frame
no_frame = record { flow = 0; hop = 0; len = 0; origin = 0; entry = 0; due = 0 }

-- the finish once n bits more have entered: the greater of itself and slot × R, plus the length
abbrev pub finish_after : Port → ℕ → ℕ → ℕ → ℕ
finish_after q slot finish n = max finish (slot * q.rate) + n

-- the slot by whose end a port is done that has this finish
abbrev pub due_by : Port → ℕ → ℕ
due_by q finish = up finish q.rate + q.latency

-- a frame as it stands in the line that it enters in this slot: its entry slot and due slot are the port's word
abbrev pub entered : Port → ℕ → ℕ → Frame → Frame
entered q slot finish x =
    record {
      flow = x.flow;
      hop = x.hop;
      len = x.len;
      origin = x.origin;
      entry = slot;
      due = due_by q (finish_after q slot finish x.len);
    }

-- a frame has stayed so many slots by this slot
abbrev pub has_stayed : ℕ → ℕ → Frame → Bool
has_stayed stay slot x = nat_le (x.entry + stay) slot

-- a length that the port takes
abbrev pub length_fits : Port → ℕ → Bool
length_fits q n = leb q.shortest n && leb n 100000

-- a line of so many frames has room for one more
abbrev pub has_room : ℕ → Bool
has_room waiting = ltb waiting 32

-- a finish that a port may come to
abbrev pub finish_fits : ℕ → Bool
finish_fits finish = leb finish 20000000000000000
