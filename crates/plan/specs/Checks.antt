-- The first fault of a plan: ports before flows, the lowest first and there the lowest number; then the sums of rates.
use Rattle.std.specs.Prelude.{ℕ, suc, ◌+◌, Bool, cond, not, ◌&&◌, ◌||◌, is_ok, Ok, Err, Result, ◌==◌, nat_le, nat_lt}
use Rattle.rounding.specs.Quotients.{up}
use Rattle.refusal.specs.Firsts.{all_below, and_then, first_refusal}
use Rattle.draft.specs.Masks.{regulated}
use Rattle.draft.specs.Plans.{flow_at, hop_port, hops, port_at}
use Rattle.draft.specs.declared.flow.Flow.{Flow}
use Rattle.draft.specs.declared.parts.Parts.{Parts}
use Rattle.draft.specs.declared.port.Port.{Port}
use Rattle.plan.specs.Limits.{rates_through, regulators_of}
use Rattle.plan.specs.declared.fault.PlanFault.{PlanFault}
use Rattle.plan.specs.declared.fault.PlanFault.TheVariants.{Bucket, Figures, Frames, Mask, Path, Rates, Stay}

-- passed, or refused with this fault
abbrev pub unless : Bool → PlanFault → Result (Unit {0}) PlanFault
unless b e = cond b (Ok tt) (Err e)

abbrev pub figures_fit : Port → Bool
figures_fit q = nat_le 1 q.rate && nat_le q.rate 10000 && nat_le q.latency 100000 && nat_le 512 q.shortest && nat_le q.shortest 100000

abbrev pub stay_fits : Port → Bool
stay_fits q = nat_le q.stay (q.latency + up q.shortest q.rate)

-- a port within every limit
abbrev pub port_fits : Port → Bool
port_fits q = figures_fit q && stay_fits q

-- port p, among at most 32
abbrev pub port_answer : Parts → ℕ → Result (Unit {0}) PlanFault
port_answer P p =
    let q = port_at P p in and_then (unless (nat_lt p 32 && figures_fit q) (Figures p)) (unless (stay_fits q) (Stay p))

abbrev pub bucket_fits : Flow → Bool
bucket_fits w =
    nat_le 1 w.rate && nat_le w.rate 10000 && nat_le 512 w.shortest && nat_le w.shortest w.longest && nat_le w.longest 100000
    && nat_le w.longest w.burst && nat_le w.burst 100000000

-- no hop before k has the port of hop k
abbrev pub first_visit : Flow → ℕ → Bool
first_visit w k = all_below (λ j. not (hop_port w j == hop_port w k)) k

-- byte k of a path among n ports
abbrev pub byte_fits : ℕ → Flow → ℕ → Bool
byte_fits n w k = cond (nat_lt k (hops w)) (nat_lt (hop_port w k) n && first_visit w k) (hop_port w k == 255)

abbrev pub path_fits : ℕ → Flow → Bool
path_fits n w = nat_le 1 (hops w) && nat_le (hops w) 8 && all_below (byte_fits n w) 8

-- no frame is too short for the port of hop k
abbrev pub frame_fits : Parts → Flow → ℕ → Bool
frame_fits P w k = nat_le (port_at P (hop_port w k)).shortest w.shortest

abbrev pub bit_fits : Flow → ℕ → Bool
bit_fits w k = not (regulated w.mask k && (k == 0 || nat_le (hops w) k))

abbrev pub mask_fits : Flow → Bool
mask_fits w = all_below (bit_fits w) 8

-- flow f, among at most 64; the regulators are counted in the order of the flows
abbrev pub flow_answer : Parts → ℕ → Result (Unit {0}) PlanFault
flow_answer P f =
    let w = flow_at P f in
    and_then (unless (nat_lt f 64 && bucket_fits w) (Bucket f))
    (and_then (unless (path_fits P.size.ports w) (Path f))
    (and_then (unless (all_below (frame_fits P w) (hops w)) (Frames f))
    (unless (mask_fits w && nat_le (regulators_of P (suc f)) 32) (Mask f))))

abbrev pub rates_answer : Parts → ℕ → Result (Unit {0}) PlanFault
rates_answer P p = unless (nat_le (rates_through P p) (port_at P p).rate) (Rates p)

-- the first fault of the whole
abbrev pub limits_answer : Parts → Result (Unit {0}) PlanFault
limits_answer P =
    and_then (first_refusal (port_answer P) P.size.ports)
    (and_then (first_refusal (flow_answer P) P.size.flows) (first_refusal (rates_answer P) P.size.ports))

-- no fault
abbrev pub faultless : Parts → Bool
faultless P = is_ok (limits_answer P)
