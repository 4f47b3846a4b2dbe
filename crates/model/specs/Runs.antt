-- Runs of a network: what was called, and what of each flow was accepted, was delivered and is inside.
use Rattle.std.specs.Prelude.{◌≡◌, ℕ, zero, suc, ◌-◌, ◌<◌, true, false, cond, ◌&&◌, List, [], ◌∷◌, ◌++◌, map, filter, ◌==◌, nat_eq}
use Rattle.draft.specs.declared.parts.Parts.{Parts}
use Rattle.service.specs.declared.frame.Frame.{Frame}
use Rattle.model.specs.Networks.{Handed, State, fresh, hops_of, offered, offers, route, slot_end, tray}

-- a call and its answer
pub data Event : Type 0 where
  -- an offer was accepted in this slot
  accepted : (flow len slot : ℕ) → Event
  -- an offer was refused
  refused : (flow len : ℕ) → Event
  -- this slot ended with this tray, and so many frames were lost
  ended : (slot : ℕ) (frames : List Frame) (lost : ℕ) → Event
  -- a slot end was refused
  unended : Event
  -- a question was asked
  asked : Event

-- the calls so far, and the state that they have led to from the fresh one
pub data Run (P : Parts) : List Event → State → Type 0 where
  begun : Run P [] (fresh P)
  accepts : {es : List Event} {st : State} (f n : ℕ) → Run P es st → offers P st f n ≡ true
      → Run P (es ++ accepted f n st.slot ∷ []) (offered P st f n)
  refuses : {es : List Event} {st : State} (f n : ℕ) → Run P es st → offers P st f n ≡ false → Run P (es ++ refused f n ∷ []) st
  ends : {es : List Event} {st : State} (taken rest : ℕ → List Frame) → Run P es st → st.slot < 1000000000000 → Handed P st taken rest
      → Run P (es ++ ended st.slot (tray P taken) (slot_end P taken rest st).lost ∷ []) (slot_end P taken rest st).state
  goes_on : {es : List Event} {st : State} → Run P es st → Run P (es ++ unended ∷ []) st
  asks : {es : List Event} {st : State} → Run P es st → Run P (es ++ asked ∷ []) st

-- what is told of a frame that was accepted or delivered
pub record Sent : Type 0 where
  pub len : ℕ
  pub origin : ℕ

abbrev pub told : Frame → Sent
told x = record { len = x.len; origin = x.origin }

-- the frames of flow f, and those of them at hop k
abbrev pub of_flow : ℕ → List Frame → List Frame
of_flow f = filter (λ x. nat_eq x.flow f)

abbrev pub at_hop : ℕ → ℕ → List Frame → List Frame
at_hop f k = filter (λ x. (x.flow == f) && x.hop == k)

-- of flow f, what an event accepted, and what it delivered: handed over at the last hop
abbrev pub sent_by : ℕ → Event → List Sent
sent_by f (accepted g n s) = cond (g == f) (record { len = n; origin = s } ∷ []) []
sent_by f (refused g n) = []
sent_by f (ended s frames lost) = []
sent_by f unended = []
sent_by f asked = []

abbrev pub delivered_by : Parts → ℕ → Event → List Sent
delivered_by P f (accepted g n s) = []
delivered_by P f (refused g n) = []
delivered_by P f (ended s frames lost) = map told (at_hop f (hops_of P f - 1) frames)
delivered_by P f unended = []
delivered_by P f asked = []

-- in the order of the offers, and of the trays
abbrev pub sent : ℕ → List Event → List Sent
sent f [] = []
sent f (e ∷ es) = sent_by f e ++ sent f es

abbrev pub delivered : Parts → ℕ → List Event → List Sent
delivered P f [] = []
delivered P f (e ∷ es) = delivered_by P f e ++ delivered P f es

-- from hop n - 1 back: the flow's frames in the port's line, then in the regulator before
abbrev pub inside_to : Parts → State → ℕ → ℕ → List Frame
inside_to P st f zero = []
inside_to P st f (suc k) = of_flow f (st.line (route P f k)) ++ (st.waiting f k ++ inside_to P st f k)

-- the flow's frames inside, from its last hop back
abbrev pub inside : Parts → State → ℕ → List Frame
inside P st f = inside_to P st f (hops_of P f)
