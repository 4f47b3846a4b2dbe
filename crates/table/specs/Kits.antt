-- Kits worked out by the rules.
use Rattle.std.specs.Prelude.{◌≡◌, ℕ, ◌-◌, true, List, [], ◌∷◌, ◌++◌, length, replicate, Ok, Err, Result}
use Rattle.draft.specs.Plans.{cell, no_flow, no_port}
use Rattle.draft.specs.declared.flow.Flow.{Flow}
use Rattle.draft.specs.declared.parts.Parts.{Parts}
use Rattle.draft.specs.declared.port.Port.{Port}
use Rattle.draft.specs.declared.table.Row.{Row}
use Rattle.draft.specs.declared.table.Table.{Table}
use Rattle.plan.specs.Checks.{faultless}
use Rattle.table.specs.Faults.{refusal_of}
use Rattle.table.specs.Loads.{backlog, delay}
use Rattle.table.specs.Paths.{flow_delay}
use Rattle.table.specs.Quotes.{Quoted, least_answer, quote_answer}
use Rattle.table.specs.Rounds.{find, zero_row}
use Rattle.table.specs.declared.fault.TableFault.{TableFault}

-- these ports and flows
abbrev pub kit : List Port → List Flow → Parts
kit ports flows =
    record {
      ports = ports ++ replicate (32 - length ports) no_port;
      flows = flows ++ replicate (64 - length flows) no_flow;
      size = record { ports = length ports; flows = length flows };
    }

-- R 100, T 0, m 10 and frames of 1,000
abbrev pub port : Port
port = record { rate = 100; latency = 0; stay = 10; shortest = 1000 }

abbrev pub flow : ℕ → ℕ → List ℕ → ℕ → Flow
flow rate burst path mask =
    record {
      rate = rate;
      burst = burst;
      shortest = 1000;
      longest = 1000;
      path = record { hops = length path; ports = path ++ replicate (8 - length path) 255 };
      mask = record { bits = mask };
    }

-- what an answer tells: the rounds and these figures, or the refusal's number and place
abbrev pub told_of : (Table → List ℕ) → Result Quoted TableFault → List ℕ
told_of figures (Ok q) = q.rounds ∷ figures q.table
told_of figures (Err e) = (refusal_of e).number ∷ (refusal_of e).place ∷ []

-- of the least table
abbrev pub least_of : Parts → (Table → List ℕ) → List ℕ
least_of P figures = told_of figures (least_answer P 100000 512)

-- of these rows, proposed
abbrev pub quote_of : Parts → List Row → (Table → List ℕ) → List ℕ
quote_of P rows figures =
    told_of figures (quote_answer P (record { table = record { rows = rows ++ replicate (64 - length rows) zero_row }; rows = length rows }))

-- R 100, T 16, m 56, rate 1, frames and bursts of 4,000
abbrev pub slow_port : Port
slow_port = record { rate = 100; latency = 16; stay = 56; shortest = 4000 }

abbrev pub slow_flow : List ℕ → Flow
slow_flow path =
    record {
      rate = 1;
      burst = 4000;
      shortest = 4000;
      longest = 4000;
      path = record { hops = length path; ports = path ++ replicate (8 - length path) 255 };
      mask = record { bits = 0 };
    }

-- two ports whose flows go on to a third
abbrev pub joined : Parts
joined =
    kit (slow_port ∷ slow_port ∷ slow_port ∷ [])
    (slow_flow (0 ∷ 2 ∷ []) ∷ slow_flow (0 ∷ []) ∷ slow_flow (1 ∷ 2 ∷ []) ∷ slow_flow (1 ∷ 2 ∷ []) ∷ slow_flow (2 ∷ []) ∷ [])

-- rings of two, three and four ports, each flow round all of them
abbrev pub ring_of_two : Parts
ring_of_two = kit (port ∷ port ∷ []) (flow 10 1000 (0 ∷ 1 ∷ []) 0 ∷ flow 10 1000 (1 ∷ 0 ∷ []) 0 ∷ [])

abbrev pub ring_of_three : Parts
ring_of_three =
    kit (port ∷ port ∷ port ∷ []) (flow 33 1000 (0 ∷ 1 ∷ 2 ∷ []) 0 ∷ flow 33 1000 (1 ∷ 2 ∷ 0 ∷ []) 0 ∷ flow 33 1000 (2 ∷ 0 ∷ 1 ∷ []) 0 ∷ [])

abbrev pub ring_of_four : ℕ → Parts
ring_of_four mask =
    kit (port ∷ port ∷ port ∷ port ∷ [])
    (flow 25 1000 (0 ∷ 1 ∷ 2 ∷ 3 ∷ []) mask ∷ flow 25 1000 (1 ∷ 2 ∷ 3 ∷ 0 ∷ []) mask ∷ flow 25 1000 (2 ∷ 3 ∷ 0 ∷ 1 ∷ []) mask ∷ flow 25 1000 (3 ∷ 0 ∷ 1 ∷ 2 ∷ []) mask ∷ [])

-- one port and one flow of this burst
abbrev pub lone : ℕ → Parts
lone burst = kit (port ∷ []) (flow 1 burst (0 ∷ []) 0 ∷ [])

-- a row of two cells
abbrev pub pair : ℕ → Row
pair second = record { cells = 1000 ∷ second ∷ 0 ∷ 0 ∷ 0 ∷ 0 ∷ 0 ∷ 0 ∷ [] }

pub record Worked : Type 0 where
  pub joined_keeps : faultless joined ≡ true
  pub joined_cells : least_of joined (λ t. cell t 0 1 ∷ cell t 2 1 ∷ cell t 3 1 ∷ cell t 4 0 ∷ []) ≡ 2 ∷ 4040 ∷ 4040 ∷ 4040 ∷ 4000 ∷ []
  pub joined_delays : least_of joined (λ t. delay joined t 0 ∷ delay joined t 1 ∷ delay joined t 2 ∷ flow_delay joined t 0 ∷ []) ≡ 2 ∷ 96 ∷ 96 ∷ 178 ∷ 275 ∷ []
  pub two_keeps : faultless ring_of_two ≡ true
  pub two_cells : least_of ring_of_two (λ t. cell t 0 1 ∷ cell t 1 1 ∷ delay ring_of_two t 0 ∷ delay ring_of_two t 1 ∷ []) ≡ 4 ∷ 1120 ∷ 1120 ∷ 22 ∷ 22 ∷ []
  pub two_sheet : least_of ring_of_two (λ t. backlog ring_of_two t 0 ∷ backlog ring_of_two t 1 ∷ flow_delay ring_of_two t 0 ∷ flow_delay ring_of_two t 1 ∷ []) ≡ 4 ∷ 2560 ∷ 2560 ∷ 45 ∷ 45 ∷ []
  pub two_low : quote_of ring_of_two (pair 1119 ∷ pair 1119 ∷ []) (λ t. []) ≡ 21 ∷ 1 ∷ []
  pub two_more : quote_of ring_of_two (pair 1130 ∷ pair 1130 ∷ []) (λ t. backlog ring_of_two t 0 ∷ backlog ring_of_two t 1 ∷ []) ≡ 0 ∷ 2570 ∷ 2570 ∷ []
  pub four_climbs : least_of (ring_of_four 0) (λ t. []) ≡ 24 ∷ 3 ∷ []
  pub four_keeps : faultless (ring_of_four 4) ≡ true
  pub four_cells : least_of (ring_of_four 4) (λ t. cell t 0 1 ∷ cell t 0 3 ∷ cell t 3 1 ∷ cell t 3 3 ∷ []) ≡ 7 ∷ 2500 ∷ 2500 ∷ 2500 ∷ 2500 ∷ []
  pub four_figures : least_of (ring_of_four 4) (λ t. delay (ring_of_four 4) t 0 ∷ delay (ring_of_four 4) t 3 ∷ backlog (ring_of_four 4) t 0 ∷ backlog (ring_of_four 4) t 3 ∷ flow_delay (ring_of_four 4) t 0 ∷ flow_delay (ring_of_four 4) t 3 ∷ []) ≡ 7 ∷ 70 ∷ 70 ∷ 14000 ∷ 14000 ∷ 283 ∷ 283 ∷ []
  pub three_keeps : faultless ring_of_three ≡ true
  pub three_crowded : least_of ring_of_three (λ t. []) ≡ 23 ∷ 0 ∷ []
  pub three_found : (find ring_of_three 100000).rounds ∷ delay ring_of_three (find ring_of_three 100000).table 0 ∷ [] ≡ 360 ∷ 2010 ∷ []
  pub lone_passes : least_of (lone 32672) (λ t. cell t 0 0 ∷ []) ≡ 1 ∷ 32672 ∷ []
  pub lone_crowded : least_of (lone 32673) (λ t. []) ≡ 23 ∷ 0 ∷ []
