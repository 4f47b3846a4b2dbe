-- What keeps the sums and products over a plan's flows and delays in their widths.
use Rattle.std.specs.Prelude.{ℕ, ◌+◌, ◌*◌, ◌<◌, ◌≤◌}
use Rattle.draft.specs.Plans.{hop_port, hops}
use Rattle.draft.specs.declared.flow.Flow.{Flow}

-- eight cells of 32 bits, and 64 rows of them
abbrev pub most_row : ℕ
most_row = 8 * 4294967295

abbrev pub most_load : ℕ
most_load = 64 * most_row

-- T + up(B / R) at the most T and the least R
abbrev pub most_delay : ℕ
most_delay = 100000 + most_load

-- D + 1 over eight hops
abbrev pub most_stretch : ℕ
most_stretch = 8 * (most_delay + 1)

-- a flow's figures, as far as its cells go
pub record Routed (w : Flow) : Type 0 where
  pub rate_most : w.rate ≤ 10000
  pub burst_most : w.burst ≤ 100000000
  pub shortest_least : 512 ≤ w.shortest
  pub hops_least : 1 ≤ hops w
  pub hops_most : hops w ≤ 8
  pub crossed : (k : ℕ) → k < hops w → hop_port w k < 32
