-- A two-port ring with a regulator, at work: its frames leave every port as late as they may.
use Rattle.std.specs.Prelude.{◌≡◌, ℕ, zero, suc, true, cond, List, [], ◌∷◌, ◌++◌, length, replicate}
use Rattle.draft.specs.declared.parts.Parts.{Parts}
use Rattle.draft.specs.declared.table.Table.{Table}
use Rattle.service.specs.declared.frame.Frame.{Frame}
use Rattle.plan.specs.Checks.{faultless}
use Rattle.table.specs.Checks.{accepts}
use Rattle.table.specs.Kits.{flow, kit, pair, port}
use Rattle.table.specs.Loads.{delay}
use Rattle.table.specs.Paths.{flow_delay}
use Rattle.table.specs.Rounds.{zero_row}
use Rattle.model.specs.Networks.{Ending, State, fresh, offered, offers, owed, slot_end, spare, tray}
use Rattle.model.specs.Runs.{Event, Run, accepted, delivered, ended, inside, refused, sent}

-- a network at work: the calls so far and the state
pub record Show : Type 0 where
  pub events : List Event
  pub state : State

-- an offer
abbrev pub offering : Parts → ℕ → ℕ → Show → Show
offering P f n w =
    cond (offers P w.state f n)
    (record { events = w.events ++ accepted f n w.state.slot ∷ []; state = offered P w.state f n })
    (record { events = w.events ++ refused f n ∷ []; state = w.state })

-- a slot end at which each port hands over what is due
abbrev pub ending : Parts → Show → Show
ending P w =
    let taken : ℕ → List Frame = λ p. owed w.state.slot (w.state.line p) in
    let rest : ℕ → List Frame = λ p. spare w.state.slot (w.state.line p) in
    let v : Ending = slot_end P taken rest w.state in
    record { events = w.events ++ ended w.state.slot (tray P taken) v.lost ∷ []; state = v.state }

-- and so many of them
abbrev pub endings : Parts → ℕ → Show → Show
endings P zero w = w
endings P (suc n) w = endings P n (ending P w)

-- flow 0 has a regulator before its second hop
abbrev pub ring : Parts
ring = kit (port ∷ port ∷ []) (flow 10 1000 (0 ∷ 1 ∷ []) 2 ∷ flow 10 1000 (1 ∷ 0 ∷ []) 0 ∷ [])

abbrev pub table : Table
table = record { rows = pair 1000 ∷ pair 1100 ∷ replicate 62 zero_row }

-- a frame of flow 1 reaches port 0 just before the first one of flow 0, so that this one stays long and comes late to the regulator;
-- the second one of flow 0 is offered as soon as its level allows
abbrev pub story : ℕ → Show
story n =
    endings ring n (offering ring 0 1000 (endings ring 100
    (offering ring 0 1000 (offering ring 0 1000 (endings ring 11 (offering ring 1 1000 (record { events = []; state = fresh ring })))))))

pub record Story : Type 0 where
  pub keeps : faultless ring ≡ true
  pub accepted : accepts ring table ≡ true
  pub figures : delay ring table 0 ∷ delay ring table 1 ∷ flow_delay ring table 0 ∷ [] ≡ 21 ∷ 20 ∷ 42 ∷ []
  -- in slot 131 the second frame of flow 0 waits at the regulator for a level of 1,000
  pub held : (story 20).state.slot ∷ length ((story 20).state.waiting 0 1) ∷ (story 20).state.level 0 1 ∷ [] ≡ 131 ∷ 1 ∷ 990 ∷ []
  -- in slot 132 it is let out, and in slot 142 delivered
  pub released : (story 21).state.slot ∷ length ((story 21).state.waiting 0 1) ∷ (story 21).state.level 0 1 ∷ [] ≡ 132 ∷ 0 ∷ 0 ∷ []
  pub sends : sent 0 (story 32).events ≡ record { len = 1000; origin = 11 } ∷ record { len = 1000; origin = 111 } ∷ []
  pub delivers : delivered ring 0 (story 32).events ≡ record { len = 1000; origin = 11 } ∷ record { len = 1000; origin = 111 } ∷ []
  pub empty : inside ring (story 32).state 0 ≡ []
  -- all this is a run
  pub ran : Run ring (story 32).events (story 32).state
