-- Take: what a cabinet may hand over, and when it may say none.
use Rattle.std.specs.Prelude.{◌≡◌, ℕ, ◌+◌, ◌<◌, ◌≤◌, Bool, true, false, cond, ◌∷◌, drop, Some, None, Option}
use Rattle.service.specs.declared.frame.Frame.{Frame}
use Rattle.cabinet.specs.Advances.{has_due}
use Rattle.cabinet.specs.Model.{Model, PortModel, cut, frame_in, port_in, with_port}

-- the frame has stayed as long as the port asks
abbrev pub Stayed : ℕ → PortModel → Frame → Type 0
Stayed slot q x = x.entry + q.figures.stay ≤ slot

-- a frame handed over: the first of the line, every field intact, after its least stay; it left the line and nothing else changed
pub record Handed (m : Model) (p : ℕ) (x : Frame) (n : Model) : Type 0 where
  pub first : (port_in m p).line ≡ x ∷ drop 1 (port_in m p).line
  pub stayed : Stayed m.slot (port_in m p) x
  pub after : n ≡ with_port m p (cut 1 (port_in m p))

-- none said: no frame of the port is due by this slot, and nothing changed
pub record Held (m : Model) (p : ℕ) (n : Model) : Type 0 where
  pub none_due : has_due m.slot (port_in m p).line ≡ false
  pub after : n ≡ m

abbrev pub Taken : Model → ℕ → Option Frame → Model → Type 0
Taken m p None n = Held m p n
Taken m p (Some x) n = Handed m p x n

-- Of a cabinet that decides by the first frame of a line alone: there is one, and it passes the test
abbrev pub passes : {X : Type 0} → (X → Bool) → Option X → Bool
passes test None = false
passes test (Some x) = test x

-- it hands over the first frame where it is ready to, and else says none
abbrev pub hand_answer : Bool → Model → ℕ → Option Frame
hand_answer ready m p = cond ready (frame_in (port_in m p).line 0) None

-- the cabinet once that answer is given
abbrev pub take_after : Model → ℕ → Option Frame → Model
take_after m p None = m
take_after m p (Some x) = with_port m p (cut 1 (port_in m p))

-- handed over not before its least stay, and no later than it is due
pub record InTime (slot : ℕ) (q : PortModel) (x : Frame) (ready : Bool) : Type 0 where
  pub stayed : ready ≡ true → Stayed slot q x
  pub later : ready ≡ false → slot < x.due

-- ready in time, whether a frame waits at the port or not
pub record Timely (slot : ℕ) (q : PortModel) (ready : Bool) : Type 0 where
  pub stayed : (x : Frame) → Some x ≡ frame_in q.line 0 → ready ≡ true → Stayed slot q x
  pub none_due : ready ≡ false → has_due slot q.line ≡ false
