-- What every plan keeps.
use Rattle.std.specs.Prelude.{◌≡◌, ℕ, zero, suc, ◌+◌, ◌<◌, ◌≤◌, Bool, cond, not, ◌&&◌, ◌==◌, ◌≢◌, nat_lt}
use Rattle.rounding.specs.Quotients.{up}
use Rattle.refusal.specs.Firsts.{all_below}
use Rattle.draft.specs.Masks.{bit, regulators}
use Rattle.draft.specs.Plans.{flow_at, hop_port, hops, port_at}
use Rattle.draft.specs.declared.flow.Flow.{Flow}
use Rattle.draft.specs.declared.parts.Parts.{Parts}
use Rattle.draft.specs.declared.port.Port.{Port}

pub record PortKept (q : Port) : Type 0 where
  pub rate_least : 1 ≤ q.rate
  pub rate_most : q.rate ≤ 10000
  pub latency_most : q.latency ≤ 100000
  pub shortest_least : 512 ≤ q.shortest
  pub shortest_most : q.shortest ≤ 100000
  -- no longer than the shortest frame takes in an empty port
  pub stay_most : q.stay ≤ q.latency + up q.shortest q.rate

-- a flow among n ports
pub record FlowKept (P : Parts) (n : ℕ) (w : Flow) : Type 0 where
  pub rate_least : 1 ≤ w.rate
  pub rate_most : w.rate ≤ 10000
  pub shortest_least : 512 ≤ w.shortest
  pub frames : w.shortest ≤ w.longest
  pub longest_most : w.longest ≤ 100000
  pub burst_least : w.longest ≤ w.burst
  pub burst_most : w.burst ≤ 100000000
  pub hops_least : 1 ≤ hops w
  pub hops_most : hops w ≤ 8
  pub crossed : (k : ℕ) → k < hops w → hop_port w k < n
  pub different : (j : ℕ) → (k : ℕ) → j < k → k < hops w → hop_port w j ≢ hop_port w k
  pub unused : (k : ℕ) → hops w ≤ k → k < 8 → hop_port w k ≡ 255
  -- its shortest frame is at least the shortest of each port crossed
  pub fits : (k : ℕ) → k < hops w → (port_at P (hop_port w k)).shortest ≤ w.shortest
  -- no regulator before hop 0, and none past the path
  pub first_free : bit w.mask.bits 0 ≡ 0
  pub rest_free : (k : ℕ) → hops w ≤ k → k < 8 → bit w.mask.bits k ≡ 0

-- the regulators of the first n flows
abbrev pub regulators_of : Parts → ℕ → ℕ
regulators_of P zero = 0
regulators_of P (suc n) = regulators_of P n + regulators (flow_at P n).mask

-- the flow crosses port p
abbrev pub crosses : Flow → ℕ → Bool
crosses w p = not (all_below (λ k. not (nat_lt k (hops w) && hop_port w k == p)) 8)

-- the rates through port p of the first n flows
abbrev pub rates_of : Parts → ℕ → ℕ → ℕ
rates_of P p zero = 0
rates_of P p (suc n) = rates_of P p n + cond (crosses (flow_at P n) p) (flow_at P n).rate 0

-- the rates through a port, summed
abbrev pub rates_through : Parts → ℕ → ℕ
rates_through P p = rates_of P p P.size.flows

pub record Kept (P : Parts) : Type 0 where
  pub ports_most : P.size.ports ≤ 32
  pub flows_most : P.size.flows ≤ 64
  pub ports : (p : ℕ) → p < P.size.ports → PortKept (port_at P p)
  pub flows : (f : ℕ) → f < P.size.flows → FlowKept P P.size.ports (flow_at P f)
  pub regulators_most : regulators_of P P.size.flows ≤ 32
  pub rates : (p : ℕ) → p < P.size.ports → rates_through P p ≤ (port_at P p).rate
