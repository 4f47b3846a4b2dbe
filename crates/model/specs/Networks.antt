-- The network of a plan: what its state is, and what an offer and a slot end make of it.
use Rattle.std.specs.Prelude.{◌≡◌, ℕ, zero, suc, ◌+◌, ◌-◌, ◌<◌, ◌≤◌, min, Bool, cond, ◌&&◌, List, [], ◌∷◌, ◌++◌, length, ◌==◌, nat_le, nat_lt}
use Rattle.std.specs.List.{AllByRecursion}
use Rattle.draft.specs.Masks.{regulated}
use Rattle.draft.specs.Plans.{flow_at, hop_port, hops, port_at}
use Rattle.draft.specs.declared.parts.Parts.{Parts}
use Rattle.service.specs.Entries.{entered, finish_after, finish_fits, has_room, length_fits}
use Rattle.service.specs.declared.frame.Frame.{Frame}

-- the port of flow f at hop k
abbrev pub route : Parts → ℕ → ℕ → ℕ
route P f k = hop_port (flow_at P f) k

-- how many hops flow f has, and 0 for what is no flow
abbrev pub hops_of : Parts → ℕ → ℕ
hops_of P f = cond (nat_lt f P.size.flows) (hops (flow_at P f)) 0

-- a regulator stands before hop k of flow f
abbrev pub gated : Parts → ℕ → ℕ → Bool
gated P f k = nat_lt f P.size.flows && regulated (flow_at P f).mask k

-- a level is kept for each flow, at its hop 0, and for each regulator, at its hop
abbrev pub levelled : Parts → ℕ → ℕ → Bool
levelled P f zero = nat_lt f P.size.flows
levelled P f (suc k) = gated P f (suc k)

-- The slot; of each port its finish and its line; of each flow and regulator its level; of each regulator its line.
-- A frame waits at a regulator as it left the port before. What does not exist is 0 or empty.
pub record State : Type 0 where
  pub slot : ℕ
  pub finish : ℕ → ℕ
  pub line : ℕ → List Frame
  pub level : ℕ → ℕ → ℕ
  pub waiting : ℕ → ℕ → List Frame

-- slot 0, no frame, every finish 0, every level at the flow's burst
abbrev pub fresh : Parts → State
fresh P =
    record { slot = 0; finish = λ p. 0; line = λ p. []; level = λ f k. cond (levelled P f k) (flow_at P f).burst 0; waiting = λ f k. [] }

-- with v at one place, and in one cell
abbrev pub with_at : {X : Type 0} → ℕ → X → (ℕ → X) → ℕ → X
with_at q v g p = cond (p == q) v (g p)

abbrev pub with_cell : {X : Type 0} → ℕ → ℕ → X → (ℕ → ℕ → X) → ℕ → ℕ → X
with_cell f k v g i j = cond (i == f && j == k) v (g i j)

-- the finish of port p once n bits more have entered
abbrev pub finish_with : Parts → State → ℕ → ℕ → ℕ
finish_with P st p n = finish_after (port_at P p) st.slot (st.finish p) n

-- port p lets in a frame of n bits
abbrev pub lets_in : Parts → State → ℕ → ℕ → Bool
lets_in P st p n =
    nat_lt p P.size.ports && (length_fits (port_at P p) n && (has_room (length (st.line p)) && finish_fits (finish_with P st p n)))

-- a frame as it stands in the line of the port of its hop
abbrev pub stamped : Parts → State → Frame → Frame
stamped P st x = entered (port_at P (route P x.flow x.hop)) st.slot (st.finish (route P x.flow x.hop)) x

-- the frame enters the port of its hop
abbrev pub placed : Parts → State → Frame → State
placed P st x =
    let p = route P x.flow x.hop in
    record {
      slot = st.slot;
      finish = with_at p (finish_with P st p x.len) st.finish;
      line = with_at p (st.line p ++ stamped P st x ∷ []) st.line;
      level = st.level;
      waiting = st.waiting;
    }

-- n bits pass the bucket of flow f at hop k
abbrev pub spend : ℕ → ℕ → ℕ → State → State
spend f k n st =
    record { slot = st.slot; finish = st.finish; line = st.line; level = with_cell f k (st.level f k - n) st.level; waiting = st.waiting }

-- these frames wait before hop k of flow f
abbrev pub wait : ℕ → ℕ → List Frame → State → State
wait f k xs st = record { slot = st.slot; finish = st.finish; line = st.line; level = st.level; waiting = with_cell f k xs st.waiting }

-- An offer of n bits of flow f is accepted: there is such a flow, its frames may be so long, its level covers them, and its first port has room for them.
abbrev pub offers : Parts → State → ℕ → ℕ → Bool
offers P st f n =
    nat_lt f P.size.flows
    && ((nat_le (flow_at P f).shortest n && nat_le n (flow_at P f).longest)
    && (nat_le n (st.level f 0)
    && (has_room (length (st.line (route P f 0))) && finish_fits (finish_with P st (route P f 0) n))))

abbrev pub new_frame : State → ℕ → ℕ → Frame
new_frame st f n = record { flow = f; hop = 0; len = n; origin = st.slot; entry = 0; due = 0 }

-- it lowers the level and enters the port of hop 0
abbrev pub offered : Parts → State → ℕ → ℕ → State
offered P st f n = placed P (spend f 0 n st) (new_frame st f n)

-- a slot end under way: the state so far, and how many frames were lost
pub record Ending : Type 0 where
  pub state : State
  pub lost : ℕ

-- a frame at its next hop
abbrev pub next : Frame → Frame
next x = record { flow = x.flow; hop = suc x.hop; len = x.len; origin = x.origin; entry = x.entry; due = x.due }

-- the frame enters the port of its hop, or is lost
abbrev pub put : Parts → Frame → Ending → Ending
put P x w =
    cond (lets_in P w.state (route P x.flow x.hop) x.len)
    (record { state = placed P w.state x; lost = w.lost })
    (record { state = w.state; lost = w.lost + 1 })

-- the frame joins the regulator before its next hop, which holds 16, or is lost
abbrev pub join : Frame → Ending → Ending
join x w =
    cond (nat_lt (length (w.state.waiting x.flow (suc x.hop))) 16)
    (record { state = wait x.flow (suc x.hop) (w.state.waiting x.flow (suc x.hop) ++ x ∷ []) w.state; lost = w.lost })
    (record { state = w.state; lost = w.lost + 1 })

-- a frame of the tray joins the next hop's regulator or port, or is delivered at the last hop
abbrev pub pass : Parts → Frame → Ending → Ending
pass P x w =
    cond (nat_lt (suc x.hop) (hops_of P x.flow)) (cond (gated P x.flow (suc x.hop)) (join x w) (put P (next x) w)) w

abbrev pub passes : Parts → List Frame → Ending → Ending
passes P [] w = w
passes P (x ∷ xs) w = passes P xs (pass P x w)

-- a regulator has let out its first frame: its level falls by the length
abbrev pub let_out : ℕ → ℕ → Frame → List Frame → Ending → Ending
let_out f k x xs w = record { state = wait f k xs (spend f k x.len w.state); lost = w.lost }

-- it lets out first frames while its level covers the length
abbrev pub release : Parts → ℕ → ℕ → List Frame → Ending → Ending
release P f k [] w = w
release P f k (x ∷ xs) w = cond (nat_le x.len (w.state.level f k)) (release P f k xs (put P (next x) (let_out f k x xs w))) w

abbrev pub regulator : Parts → ℕ → ℕ → Ending → Ending
regulator P f k w = cond (gated P f k) (release P f k (w.state.waiting f k) w) w

-- the regulators of flow f before its first k hops
abbrev pub regulators : Parts → ℕ → ℕ → Ending → Ending
regulators P f zero w = w
regulators P f (suc k) w = regulator P f k (regulators P f k w)

-- those of the first n flows
abbrev pub releases : Parts → ℕ → Ending → Ending
releases P zero w = w
releases P (suc f) w = regulators P f (hops_of P f) (releases P f w)

-- the frames that the first n ports hand over, in port order
abbrev pub gather : ℕ → (ℕ → List Frame) → List Frame
gather zero taken = []
gather (suc p) taken = gather p taken ++ taken p

abbrev pub tray : Parts → (ℕ → List Frame) → List Frame
tray P taken = gather P.size.ports taken

-- a slot later: the ports keep what they did not hand over, and each level has risen by the rate, at most to the burst
abbrev pub risen : Parts → (ℕ → List Frame) → State → State
risen P rest st =
    record {
      slot = st.slot + 1;
      finish = st.finish;
      line = rest;
      level = λ f k. let l = st.level f k in cond (levelled P f k) (min (flow_at P f).burst (l + (flow_at P f).rate)) l;
      waiting = st.waiting;
    }

-- What the ports may hand over at a slot end, which is the one thing that a cabinet decides: a front of each line, of frames that have stayed m,
-- so that no frame that is left is due.
pub record Handed (P : Parts) (st : State) (taken rest : ℕ → List Frame) : Type 0 where
  pub split : (p : ℕ) → st.line p ≡ taken p ++ rest p
  pub stayed : (p : ℕ) → AllByRecursion (λ x. x.entry + (port_at P p).stay ≤ st.slot) (taken p)
  pub kept : (p : ℕ) → AllByRecursion (λ x. st.slot < x.due) (rest p)

-- of a line, the frames that are due by the slot s, and the others
abbrev pub owed : ℕ → List Frame → List Frame
owed s [] = []
owed s (x ∷ xs) = cond (nat_le x.due s) (x ∷ owed s xs) []

abbrev pub spare : ℕ → List Frame → List Frame
spare s [] = []
spare s (x ∷ xs) = cond (nat_le x.due s) (spare s xs) (x ∷ xs)

-- the slot end, once this is handed over: the tray's frames move on in order, then the regulators let out by flow and hop
abbrev pub slot_end : Parts → (ℕ → List Frame) → (ℕ → List Frame) → State → Ending
slot_end P taken rest st =
    releases P P.size.flows (passes P (tray P taken) (record { state = risen P rest st; lost = 0 }))
