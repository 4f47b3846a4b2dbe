-- The rates through every port, summed hop by hop.
use Rattle.std.specs.Prelude.{ℕ, zero, suc, ◌+◌, ◌<◌, ◌≤◌, cond, ◌==◌, ◌≢◌}
use Rattle.draft.specs.Plans.{flow_at, hop_port, hops}
use Rattle.draft.specs.declared.flow.Flow.{Flow}
use Rattle.draft.specs.declared.parts.Parts.{Parts}

-- a path of at most 8 different ports among n
pub record Simple (n : ℕ) (w : Flow) : Type 0 where
  pub hops_most : hops w ≤ 8
  pub crossed : (k : ℕ) → k < hops w → hop_port w k < n
  pub different : (j : ℕ) → (k : ℕ) → j < k → k < hops w → hop_port w j ≢ hop_port w k

-- so is every flow's path
abbrev pub Simples : Parts → Type 0
Simples P = (f : ℕ) → f < P.size.flows → Simple P.size.ports (flow_at P f)

-- a flow's rate at port p, over its first n hops
abbrev pub rate_in : Flow → ℕ → ℕ → ℕ
rate_in w p zero = 0
rate_in w p (suc k) = rate_in w p k + cond (hop_port w k == p) w.rate 0
