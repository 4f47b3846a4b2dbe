-- What the ports' delays make of a flow: the need of each cell, the stretch of each regulator and the flow's delay.
use Rattle.std.specs.Prelude.{ℕ, zero, suc, ◌+◌, ◌-◌, ◌*◌, cond, List, nat_lt, slice_index}
use Rattle.draft.specs.Masks.{regulated}
use Rattle.draft.specs.Plans.{flow_at, hop_port, hops, row_at}
use Rattle.draft.specs.declared.flow.Flow.{Flow}
use Rattle.draft.specs.declared.parts.Parts.{Parts}
use Rattle.draft.specs.declared.table.Row.{Row}
use Rattle.draft.specs.declared.table.Table.{Table}
use Rattle.table.specs.Loads.{delays, gaps}

-- the need of hop k + 1, by the gaps of the ports and the cell of hop k: the burst at a regulated hop,
-- elsewhere the cell before it plus rate × (D - m) of the port before it
abbrev pub need_after : Flow → List ℕ → ℕ → ℕ → ℕ
need_after w gs before k =
    cond (regulated w.mask (k + 1)) w.burst (before + w.rate * slice_index gs (hop_port w k))

-- the need of each hop: the burst at hop 0
abbrev pub need_by : Flow → List ℕ → Row → ℕ → ℕ
need_by w gs r zero = w.burst
need_by w gs r (suc k) = need_after w gs (slice_index r.cells k) k

-- the need of the cell of flow f at hop k
abbrev pub need : Parts → Table → ℕ → ℕ → ℕ
need P t f k = need_by (flow_at P f) (gaps P t) (row_at t f) k

-- the stretch up to hop k + 1, by the one up to hop k: D + 1 more, from 0 where hop k is regulated
abbrev pub stretch_after : Flow → List ℕ → ℕ → ℕ → ℕ
stretch_after w ds before k = cond (regulated w.mask k) 0 before + (slice_index ds (hop_port w k) + 1)

-- the sum of D + 1 over the hops before hop k, from the last regulated one on
abbrev pub stretch_by : Flow → List ℕ → ℕ → ℕ
stretch_by w ds zero = 0
stretch_by w ds (suc k) = stretch_after w ds (stretch_by w ds k) k

-- the stretch of the regulator before hop k of flow f
abbrev pub stretch : Parts → Table → ℕ → ℕ → ℕ
stretch P t f k = stretch_by (flow_at P f) (delays P t) k

-- D along the first n hops, summed
abbrev pub delay_along : Flow → List ℕ → ℕ → ℕ
delay_along w ds zero = 0
delay_along w ds (suc k) = delay_along w ds k + slice_index ds (hop_port w k)

-- the sum of D along the path plus hops - 1, and 0 for what is no flow
abbrev pub flow_delay : Parts → Table → ℕ → ℕ
flow_delay P t f =
    cond (nat_lt f P.size.flows) (delay_along (flow_at P f) (delays P t) (hops (flow_at P f)) + (hops (flow_at P f) - 1)) 0
