-- What a table makes of a plan's ports: the load, the delay and the backlog of each.
use Rattle.std.specs.Prelude.{ℕ, zero, suc, ◌+◌, ◌-◌, ◌*◌, cond, List, map, ◌==◌, nat_lt, slice_index}
use Rattle.std.specs.List.{range_with_len}
use Rattle.rounding.specs.Quotients.{up}
use Rattle.draft.specs.Plans.{flow_at, hop_port, hops, port_at, row_at}
use Rattle.draft.specs.declared.flow.Flow.{Flow}
use Rattle.draft.specs.declared.parts.Parts.{Parts}
use Rattle.draft.specs.declared.port.Port.{Port}
use Rattle.draft.specs.declared.table.Row.{Row}
use Rattle.draft.specs.declared.table.Table.{Table}
use Rattle.plan.specs.Limits.{rates_through}

-- the cells of one flow at port p, over its first n hops
abbrev pub load_in : Flow → Row → ℕ → ℕ → ℕ
load_in w r p zero = 0
load_in w r p (suc k) = load_in w r p k + cond (hop_port w k == p) (slice_index r.cells k) 0

-- and those of the first n flows
abbrev pub load_of : Parts → Table → ℕ → ℕ → ℕ
load_of P t p zero = 0
load_of P t p (suc f) = load_of P t p f + load_in (flow_at P f) (row_at t f) p (hops (flow_at P f))

-- B: the cells at port p, summed
abbrev pub load : Parts → Table → ℕ → ℕ
load P t p = load_of P t p P.size.flows

-- D by B: T + up(B / R)
abbrev pub delay_by : Port → ℕ → ℕ
delay_by q b = q.latency + up b q.rate

-- D of port p, and 0 for what is no port
abbrev pub delay : Parts → Table → ℕ → ℕ
delay P t p = cond (nat_lt p P.size.ports) (delay_by (port_at P p) (load P t p)) 0

-- D of every port, in their order
unfoldable pub delays : Parts → Table → List ℕ
delays P t = map (delay P t) (range_with_len 0 32)

-- B + r × D of port p, and 0 for what is no port
abbrev pub backlog : Parts → Table → ℕ → ℕ
backlog P t p = cond (nat_lt p P.size.ports) (load P t p + rates_through P p * delay P t p) 0

-- D - m of port p, and 0 where m exceeds D
abbrev pub gap : Parts → Table → ℕ → ℕ
gap P t p = delay P t p - (port_at P p).stay

-- D - m of every port, in their order
unfoldable pub gaps : Parts → Table → List ℕ
gaps P t = map (gap P t) (range_with_len 0 32)
