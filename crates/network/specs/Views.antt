-- What a network means: whether it is open, the plan as its cabinet keeps it, and its state.
use Rattle.std.specs.Prelude.{ℕ, zero, suc, ◌+◌, min, Bool, cond, List, [], ◌++◌, map, length, drop, nat_lt, slice_index, slice_index_or}
use Rattle.draft.specs.Masks.{bits_below}
use Rattle.draft.specs.Plans.{flow_at}
use Rattle.draft.specs.declared.parts.Parts.{Parts}
use Rattle.plan.specs.Limits.{regulators_of}
use Rattle.service.specs.declared.frame.Frame.{Frame}
use Rattle.cabinet.specs.Model.{Model, PortModel, port_in}
use Rattle.regulator.specs.Regulators.{held, no_regulator}
use Rattle.regulator.specs.declared.regulator.Regulator.{Regulator}
use Rattle.model.specs.Networks.{State, gated}
use Rattle.network.specs.Sources.{levels}
use Rattle.network.specs.declared.network.Network.{Network}

-- The plan with its ports as the cabinet has them. In an open network this is the plan itself.
abbrev pub seen : Parts → Model → Parts
seen P m =
    record {
      ports = map PortModel.figures m.ports ++ drop (length m.ports) P.ports;
      flows = P.flows;
      size = record { ports = length m.ports; flows = P.size.flows };
    }

-- the number of the regulator before hop k of flow f: regulators are numbered by flow and then hop
abbrev pub number : Parts → ℕ → ℕ → ℕ
number P f k = regulators_of P f + bits_below (flow_at P f).mask.bits k

abbrev pub regulator_in : Parts → List Regulator → ℕ → ℕ → Regulator
regulator_in P rs f k = slice_index_or rs (number P f k) no_regulator

-- the level of a flow, at hop 0, and of a regulator, at its hop: never above the burst, and 0 for what does not exist
abbrev pub level_in : Parts → List ℕ → List Regulator → ℕ → ℕ → ℕ
level_in P ls rs f zero = cond (nat_lt f P.size.flows) (min (flow_at P f).burst (slice_index ls f)) 0
level_in P ls rs f (suc k) =
    cond (gated P f (suc k)) (min (flow_at P f).burst (held (regulator_in P rs f (suc k))).level) 0

abbrev pub waiting_in : Parts → List Regulator → ℕ → ℕ → List Frame
waiting_in P rs f k = cond (gated P f k) (held (regulator_in P rs f k)).line []

abbrev pub state_in : Parts → Model → List ℕ → List Regulator → State
state_in P m ls rs =
    record {
      slot = m.slot;
      finish = λ p. (port_in m p).finish;
      line = λ p. (port_in m p).line;
      level = level_in P ls rs;
      waiting = waiting_in P rs;
    }

pub record Net : Type 0 where
  pub is_open : Bool
  pub parts : Parts
  pub state : State

-- what a network means, given what its cabinet means
abbrev pub net_of : {C : Type 0} → (C → Model) → Network C → Net
net_of means n =
    record {
      is_open = n.«open»;
      parts = seen n.plan.parts (means n.cabinet);
      state = state_in n.plan.parts (means n.cabinet) (levels n.sources) n.regulators;
    }
