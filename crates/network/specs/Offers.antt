-- An offer: what is refused, in order, and what it does.
use Rattle.std.specs.Prelude.{ℕ, cond, ◌&&◌, length, is_ok, Result, nat_le, nat_lt}
use Rattle.refusal.specs.Firsts.{and_then}
use Rattle.draft.specs.Plans.{flow_at, port_at}
use Rattle.service.specs.Entries.{finish_fits, has_room, length_fits}
use Rattle.model.specs.Networks.{State, finish_with, offered, route}
use Rattle.draft.specs.declared.parts.Parts.{Parts}
use Rattle.cabinet.specs.declared.fault.CabinetFault.{CabinetFault}
use Rattle.cabinet.specs.declared.fault.CabinetFault.TheVariants as cabinets
use Rattle.cabinet.specs.declared.fault.CabinetFault.TheVariants.{NoPort, Owed}
use Rattle.network.specs.Faults.{unless}
use Rattle.network.specs.Views.{Net}
use Rattle.network.specs.declared.fault.NetworkFault.{NetworkFault}
use Rattle.network.specs.declared.fault.NetworkFault.TheVariants.{Closed, Finish, Full, Length, Level, NoFlow}

-- the first port's word: a cabinet that has no such port, or takes no such frame, is not the plan's
abbrev pub entry_answer : Parts → State → ℕ → ℕ → Result (Unit {0}) NetworkFault
entry_answer P st f n =
    and_then (unless (nat_lt (route P f 0) P.size.ports && length_fits (port_at P (route P f 0)) n) Closed)
    (and_then (unless (has_room (length (st.line (route P f 0)))) (Full f))
    (unless (finish_fits (finish_with P st (route P f 0) n)) (Finish (route P f 0))))

-- what the network says where its cabinet turns a frame of flow f away
abbrev pub turned_away : ℕ → CabinetFault → NetworkFault
turned_away f (NoPort p) = Closed
turned_away f (cabinets.Length p) = Closed
turned_away f (cabinets.Full p) = Full f
turned_away f (cabinets.Finish p) = Finish p
turned_away f (Owed p) = Closed
turned_away f cabinets.LastSlot = Closed

-- 31, 30, 32, 33, 36, 43
abbrev pub offer_answer : Net → ℕ → ℕ → Result (Unit {0}) NetworkFault
offer_answer N f n =
    and_then (unless N.is_open Closed)
    (and_then (unless (nat_lt f N.parts.size.flows) (NoFlow f))
    (and_then (unless (nat_le (flow_at N.parts f).shortest n && nat_le n (flow_at N.parts f).longest) (Length f))
    (and_then (unless (nat_le n (N.state.level f 0)) (Level f)) (entry_answer N.parts N.state f n))))

-- accepted, it lowers the level and enters the first port; refused, it changes nothing
abbrev pub offer_after : Net → ℕ → ℕ → Net
offer_after N f n =
    cond (is_ok (offer_answer N f n)) (record { is_open = N.is_open; parts = N.parts; state = offered N.parts N.state f n }) N
