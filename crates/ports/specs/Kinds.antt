-- What a kind of cabinet is asked for: when it is in time, and of which frame.
use Rattle.std.specs.Prelude.{◌≡◌, ℕ, ◌+◌, ◌≤◌, Bool, true, ◌&&◌, ◌||◌, ◌∷◌, drop, Some, None, Option, nat_le}
use Rattle.service.specs.Entries.{has_stayed}
use Rattle.service.specs.declared.frame.Frame.{Frame}
use Rattle.cabinet.specs.Model.{PortModel, frame_in}
use Rattle.cabinet.specs.Takes.{passes}
use Rattle.cabinet.specs.Wells.{WellPort}

-- the frame is the first of the line of a port that keeps this, and is due after its least stay
pub record Leads (keeps : PortModel → Bool) (q : PortModel) (x : Frame) : Type 0 where
  pub well : WellPort q
  pub kept : keeps q ≡ true
  pub first : q.line ≡ x ∷ drop 1 q.line
  pub stays : x.entry + q.figures.stay ≤ x.due

-- the kind's word on the first frame of the line of a port, of which it keeps this
abbrev pub word : {K : Type 0} → (K → ℕ → ℕ → Frame → Bool) → ℕ → PortModel → K → Bool
word ready slot q k = passes (ready k slot q.figures.stay) (frame_in q.line 0)

-- what is kept once the port has given this answer
abbrev pub own_after : {K : Type 0} → (K → Frame → K) → Option Frame → K → K
own_after handed None k = k
own_after handed (Some x) k = handed k x

-- the first frame has stayed long enough when it is due
abbrev pub first_stays : PortModel → Option Frame → Type 0
first_stays q None = Unit {0}
first_stays q (Some x) = x.entry + q.figures.stay ≤ x.due

-- a frame is handed over in this slot: early, where that is told, once it has stayed; and in any case when it is due
abbrev pub early_or_due : Bool → ℕ → ℕ → Frame → Bool
early_or_due early slot stay x = (early && has_stayed stay slot x) || nat_le x.due slot
