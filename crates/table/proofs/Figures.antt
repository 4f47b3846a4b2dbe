-- What a plan's ports and flows keep, as far as a table needs it.
use Rattle.std.proofs.Common.{◌≡◌, ℕ, ◌<◌, ◌≤◌, true, arith}
use Rattle.draft.specs.Plans.{flow_at}
use Rattle.draft.specs.declared.parts.Parts.{Parts}
use Rattle.plan.proofs.Keeps.{kept_of}
use Rattle.plan.specs.Checks.{faultless}
use Rattle.plan.specs.Limits.{rates_through}
use Rattle.table.specs.Bounds.{Routed}

pub routed_of : (P : Parts) → faultless P ≡ true → (f : ℕ) → f < P.size.flows → Routed (flow_at P f)
routed_of P e f h =
    let k = (kept_of P e).flows f h in
    let n : P.size.ports ≤ 32 = (kept_of P e).ports_most in
    record {
      rate_most = k.rate_most;
      burst_most = k.burst_most;
      shortest_least = k.shortest_least;
      hops_least = k.hops_least;
      hops_most = k.hops_most;
      crossed = λ i l. omega (arith, k.crossed i l);
    }

pub rates_few : (P : Parts) → faultless P ≡ true → (p : ℕ) → p < P.size.ports → rates_through P p ≤ 10000
rates_few P e p h = omega (arith, (kept_of P e).rates p h, ((kept_of P e).ports p h).rate_most)

pub ports_few : (P : Parts) → faultless P ≡ true → (p : ℕ) → p < P.size.ports → p < 32
ports_few P e p h = omega (arith, (kept_of P e).ports_most)

pub flows_few : (P : Parts) → faultless P ≡ true → (f : ℕ) → f < P.size.flows → f < 64
flows_few P e f h = omega (arith, (kept_of P e).flows_most)
