-- No fault is found exactly where every limit is kept.
use Rattle.std.proofs.Common.{◌≡◌, ℕ, zero, suc, ◌+◌, ◌/◌, ◌^◌, ◌<◌, ◌≤◌, Bool, true, false, not, ◌&&◌, ◌||◌, eqb, ltb, leb, ◌⊎◌, is_ok, Ok, Err, Result, sym, refl, ap, ◌∙◌, inl, inr, ⊎_elim, mod-lt, arith, lit<, MatchResult}
use native.Mathlib.Decide.{dec_le, ℕ_discrete}
use Rattle.std.proofs.lemmas.Bool.{and_from, and_left, and_parts, and_right, both_ways, cases_Bool, cases_lt, lt-leb, not_from_true, or_cases, or_left, or_right, eqb-true, eqb-false, le-leb, leb-true, lt-ltb, le-ltb, ltb-true, cond-true, cond-false, not-true, ne_eqb, eq-eqb, not_from_false}
use Rattle.std.proofs.lemmas.Bool.Decides.{nat_tests}
use Rattle.rounding.specs.Quotients.{up}
use Rattle.refusal.specs.Firsts.{all_below, and_then, first_refusal}
use Rattle.refusal.proofs.Orders.{all_below_each, all_below_from, first_refusal_each, first_refusal_from, then_ok}
use Rattle.draft.specs.Masks.{bit, regulated}
use Rattle.draft.specs.Plans.{flow_at, hop_port, hops, port_at}
use Rattle.draft.specs.declared.flow.Flow.{Flow}
use Rattle.draft.specs.declared.parts.Parts.{Parts}
use Rattle.draft.specs.declared.port.Port.{Port}
use Rattle.plan.specs.Checks.{bit_fits, bucket_fits, byte_fits, faultless, figures_fit, first_visit, flow_answer, frame_fits, limits_answer, mask_fits, path_fits, port_answer, rates_answer, stay_fits, unless}
use Rattle.plan.specs.Limits.{FlowKept, Kept, PortKept, rates_through, regulators_of}
use Rattle.plan.specs.Rates.{Simples}
use Rattle.plan.specs.declared.fault.PlanFault.{PlanFault}
use Rattle.plan.specs.declared.fault.PlanFault.TheVariants.{Bucket, Figures, Frames, Mask, Path, Rates, Stay}

passed : (b : Bool) (e : PlanFault) → unless b e ≡ Ok tt → b ≡ true
passed true e h = refl
passed false e h = absurd (let z : ◌≡◌ {A = ℕ} 0 1 = cc in omega arith)

ok_from : (r : Result (Unit {0}) PlanFault) → is_ok r ≡ true → r ≡ Ok tt
ok_from (Ok tt) h = refl
ok_from (Err e) h = absurd (let z : ◌≡◌ {A = ℕ} 0 1 = cc in omega arith)

pub port_kept : (q : Port) → figures_fit q ≡ true → stay_fits q ≡ true → PortKept q
port_kept q a b =
    record {
      rate_least = grind (arith, nat_tests);
      rate_most = grind (arith, nat_tests);
      latency_most = grind (arith, nat_tests);
      shortest_least = grind (arith, nat_tests);
      shortest_most = grind (arith, nat_tests);
      stay_most = leb-true q.stay (q.latency + up q.shortest q.rate) b;
    }

used_byte : (n : ℕ) (w : Flow) (k : ℕ) → k < hops w → byte_fits n w k ≡ true → (hop_port w k < n) × (first_visit w k ≡ true)
used_byte n w k h e =
    let t = and_parts (ltb (hop_port w k) n) (first_visit w k) (sym (cond-true (ltb k (hops w)) _ _ (lt-ltb k (hops w) h)) ∙ e) in
    (ltb-true (hop_port w k) n t.0, t.1)

unused_byte : (n : ℕ) (w : Flow) (k : ℕ) → hops w ≤ k → byte_fits n w k ≡ true → hop_port w k ≡ 255
unused_byte n w k h e =
    eqb-true (hop_port w k) 255 (sym (cond-false (ltb k (hops w)) _ _ (le-ltb k (hops w) h)) ∙ e)

apart : (w : Flow) (j k : ℕ) → j < k → first_visit w k ≡ true → hop_port w j ≡ hop_port w k → ⊥
apart w j k h e =
    eqb-false (hop_port w j) (hop_port w k) (not-true (eqb (hop_port w j) (hop_port w k)) (all_below_each (λ j. not (eqb (hop_port w j) (hop_port w k))) k e j h))

bit_small : (bits k : ℕ) → bit bits k < 2
bit_small bits k = mod-lt (bits / 2 ^ k) (lit< tt)

regulated_at : (w : Flow) (k : ℕ) → k < 8 → regulated w.mask k ≡ eqb (bit w.mask.bits k) 1
regulated_at w k h = cond-false (leb 8 k) false (eqb (bit w.mask.bits k) 1) (lt-leb 8 k h)

-- a bit that may not be set is 0
bit_free : (w : Flow) (k : ℕ) → k < 8 → (k ≡ 0) ⊎ (hops w ≤ k) → bit_fits w k ≡ true → bit w.mask.bits k ≡ 0
bit_free w k h o e =
    elim (ℕ_discrete (bit w.mask.bits k) 0) [
      | yes z ↦ z
      | no nz ↦
          let one : bit w.mask.bits k ≡ 1 = omega (arith, bit_small w.mask.bits k) in
          let set : regulated w.mask k ≡ true = regulated_at w k h ∙ eq-eqb (bit w.mask.bits k) 1 one in
          let bad : eqb k 0 || leb (hops w) k ≡ true = ⊎_elim (λ a. or_left (eqb k 0) (leb (hops w) k) (eq-eqb k 0 a)) (λ a. or_right (eqb k 0) (leb (hops w) k) (le-leb (hops w) k a)) o in
          absurd (both_ways (bit_fits w k) (not_from_true (regulated w.mask k && (eqb k 0 || leb (hops w) k)) (and_from (regulated w.mask k) (eqb k 0 || leb (hops w) k) set bad)) e)
    ]

bit_fits_from : (w : Flow) (k : ℕ) → k < 8 → ((k ≡ 0) ⊎ (hops w ≤ k) → bit w.mask.bits k ≡ 0) → bit_fits w k ≡ true
bit_fits_from w k h free =
    ⊎_elim
    (λ t.
    let z = free (⊎_elim (λ a. inl (eqb-true k 0 a)) (λ a. inr (leb-true (hops w) k a)) (or_cases (eqb k 0) (leb (hops w) k) t)) in
    not_from_false (regulated w.mask k && (eqb k 0 || leb (hops w) k)) (and_left (regulated w.mask k) (eqb k 0 || leb (hops w) k) (regulated_at w k h ∙ ne_eqb (bit w.mask.bits k) 1 (λ one. omega arith))))
    (λ t. not_from_false (regulated w.mask k && (eqb k 0 || leb (hops w) k)) (and_right (regulated w.mask k) (eqb k 0 || leb (hops w) k) t))
    (cases_Bool (eqb k 0 || leb (hops w) k))

flow_kept : (P : Parts) (f : ℕ) → flow_answer P f ≡ Ok tt → FlowKept P P.size.ports (flow_at P f) × (regulators_of P (suc f) ≤ 32) × (f < 64)
flow_kept P f e =
    let w = flow_at P f in
    let n = P.size.ports in
    let a = then_ok (unless (ltb f 64 && bucket_fits w) (Bucket f)) _ e in
    let b = then_ok (unless (path_fits n w) (Path f)) _ a.1 in
    let c = then_ok (unless (all_below (frame_fits P w) (hops w)) (Frames f)) _ b.1 in
    let first = and_parts (ltb f 64) (bucket_fits w) (passed (ltb f 64 && bucket_fits w) (Bucket f) a.0) in
    let bucket : bucket_fits w ≡ true = first.1 in
    let path = and_parts (leb 1 (hops w) && leb (hops w) 8) (all_below (byte_fits n w) 8) (passed (path_fits n w) (Path f) b.0) in
    let ends = and_parts (leb 1 (hops w)) (leb (hops w) 8) path.0 in
    let least : 1 ≤ hops w = leb-true 1 (hops w) ends.0 in
    let most : hops w ≤ 8 = leb-true (hops w) 8 ends.1 in
    let byte : (k : ℕ) → k < 8 → byte_fits n w k ≡ true = all_below_each (byte_fits n w) 8 path.1 in
    let masks = and_parts (mask_fits w) (leb (regulators_of P (suc f)) 32) (passed (mask_fits w && leb (regulators_of P (suc f)) 32) (Mask f) c.1) in
    let bits : (k : ℕ) → k < 8 → bit_fits w k ≡ true = all_below_each (bit_fits w) 8 masks.0 in (
      record {
        rate_least = grind (arith, nat_tests);
        rate_most = grind (arith, nat_tests);
        shortest_least = grind (arith, nat_tests);
        frames = grind (arith, nat_tests);
        longest_most = grind (arith, nat_tests);
        burst_least = grind (arith, nat_tests);
        burst_most = grind (arith, nat_tests);
        hops_least = least;
        hops_most = most;
        crossed = λ k h. (used_byte n w k h (byte k (omega arith))).0;
        different = λ j k i h. apart w j k i (used_byte n w k h (byte k (omega arith))).1;
        unused = λ k h l. unused_byte n w k h (byte k l);
        fits = λ k h. leb-true (port_at P (hop_port w k)).shortest w.shortest (all_below_each (frame_fits P w) (hops w) (passed (all_below (frame_fits P w) (hops w)) (Frames f) c.0) k h);
        first_free = bit_free w 0 (lit< tt) (inl refl) (bits 0 (lit< tt));
        rest_free = λ k h l. bit_free w k l (inr h) (bits k l);
      },
      leb-true (regulators_of P (suc f)) 32 masks.1,
      ltb-true f 64 first.0,
    )

port_kept_at : (P : Parts) (p : ℕ) → port_answer P p ≡ Ok tt → PortKept (port_at P p) × (p < 32)
port_kept_at P p e =
    let q = port_at P p in
    let t = then_ok (unless (ltb p 32 && figures_fit q) (Figures p)) _ e in
    let a = and_parts (ltb p 32) (figures_fit q) (passed (ltb p 32 && figures_fit q) (Figures p) t.0) in
    (port_kept q a.1 (passed (stay_fits q) (Stay p) t.1), ltb-true p 32 a.0)

-- numbers that stay below m are at most m many
at_most : (n m : ℕ) → ((k : ℕ) → k < n → k < m) → n ≤ m
at_most n m h = elim (dec_le n m) [ yes le ↦ le | no gt ↦ absurd (omega (arith, h m (omega arith))) ]

regulators_rise : (P : Parts) (n f : ℕ) → f ≤ n → regulators_of P f ≤ regulators_of P n
regulators_rise P zero f h = let z : f ≡ 0 = omega arith in rw z (omega arith)
regulators_rise P (suc n) f h = elim (ℕ_discrete f (suc n))
    [ yes q ↦ rw q (omega arith) | no q ↦ omega (arith, regulators_rise P n f (omega arith)) ]

few_regulators : (P : Parts) (n : ℕ) → ((f : ℕ) → f < n → regulators_of P (suc f) ≤ 32) → regulators_of P n ≤ 32
few_regulators P zero h = omega arith
few_regulators P (suc n) h = h n (omega arith)

pub few_ports : (P : Parts) → first_refusal (port_answer P) P.size.ports ≡ Ok tt → P.size.ports ≤ 32
few_ports P e = at_most P.size.ports 32 (λ p h. (port_kept_at P p (first_refusal_each (port_answer P) P.size.ports e p h)).1)

pub few_flows : (P : Parts) → first_refusal (flow_answer P) P.size.flows ≡ Ok tt → P.size.flows ≤ 64
few_flows P e = at_most P.size.flows 64 (λ f h. (flow_kept P f (first_refusal_each (flow_answer P) P.size.flows e f h)).2)

pub simple_flows : (P : Parts) → first_refusal (flow_answer P) P.size.flows ≡ Ok tt → Simples P
simple_flows P e f h =
    let w = (flow_kept P f (first_refusal_each (flow_answer P) P.size.flows e f h)).0 in
    record { hops_most = w.hops_most; crossed = w.crossed; different = w.different }

-- where no fault is found, every limit is kept
pub kept_of : (P : Parts) → faultless P ≡ true → Kept P
kept_of P e =
    let np = P.size.ports in
    let nf = P.size.flows in
    let b = then_ok (first_refusal (port_answer P) np) _ (ok_from (limits_answer P) e) in
    let d = then_ok (first_refusal (flow_answer P) nf) (first_refusal (rates_answer P) np) b.1 in
    let flow : (f : ℕ) → f < nf → FlowKept P np (flow_at P f) × (regulators_of P (suc f) ≤ 32) × (f < 64) = λ f h. flow_kept P f (first_refusal_each (flow_answer P) nf d.0 f h) in
    record {
      ports_most = few_ports P b.0;
      flows_most = few_flows P d.0;
      ports = λ p h. (port_kept_at P p (first_refusal_each (port_answer P) np b.0 p h)).0;
      flows = λ f h. (flow f h).0;
      regulators_most = few_regulators P nf (λ f h. (flow f h).1);
      rates = λ p h.
          leb-true (rates_through P p) (port_at P p).rate
          (passed (leb (rates_through P p) (port_at P p).rate) (Rates p) (first_refusal_each (rates_answer P) np d.1 p h));
    }

-- what passes is not refused
pub passes : (b : Bool) (e : PlanFault) → b ≡ true → unless b e ≡ Ok tt
passes b e h = cond-true b (Ok tt) (Err e) h

-- neither refuses, so both together do not
pub thens : (a b : Result (Unit {0}) PlanFault) → a ≡ Ok tt → b ≡ Ok tt → and_then a b ≡ Ok tt
thens a b h k = ap (λ r. and_then r b) h ∙ k

figures_from : (q : Port) → PortKept q → figures_fit q ≡ true
figures_from q k =
    let a : 1 ≤ q.rate = k.rate_least in
    let b : q.rate ≤ 10000 = k.rate_most in
    let c : q.latency ≤ 100000 = k.latency_most in
    let d : 512 ≤ q.shortest = k.shortest_least in
    let e : q.shortest ≤ 100000 = k.shortest_most in
    grind (arith, nat_tests)

bucket_from : (P : Parts) (n : ℕ) (w : Flow) → FlowKept P n w → bucket_fits w ≡ true
bucket_from P n w k =
    and_from _ _ (and_from _ _ (and_from _ _ (and_from _ _ (and_from _ _ (and_from _ _ (le-leb 1 w.rate k.rate_least) (le-leb w.rate 10000 k.rate_most))
    (le-leb 512 w.shortest k.shortest_least)) (le-leb w.shortest w.longest k.frames)) (le-leb w.longest 100000 k.longest_most))
    (le-leb w.longest w.burst k.burst_least)) (le-leb w.burst 100000000 k.burst_most)

byte_from : (P : Parts) (n : ℕ) (w : Flow) → FlowKept P n w → (k : ℕ) → k < 8 → byte_fits n w k ≡ true
byte_from P n w kept k h = ⊎_elim
    (λ used. cond-true (ltb k (hops w)) _ _ (lt-ltb k (hops w) used) ∙ and_from (ltb (hop_port w k) n) (first_visit w k) (lt-ltb (hop_port w k) n (kept.crossed k used))
    (all_below_from (λ j. not (eqb (hop_port w j) (hop_port w k))) k (λ j i. not_from_false (eqb (hop_port w j) (hop_port w k)) (ne_eqb (hop_port w j) (hop_port w k) (kept.different j k i used)))))
    (λ past. cond-false (ltb k (hops w)) _ _ (le-ltb k (hops w) past) ∙ eq-eqb (hop_port w k) 255 (kept.unused k past h))
    (cases_lt k (hops w))

flow_from : (P : Parts) (f : ℕ) → f < 64 → FlowKept P P.size.ports (flow_at P f) → regulators_of P (suc f) ≤ 32 → flow_answer P f ≡ Ok tt
flow_from P f h kept few =
    let w = flow_at P f in
    let n = P.size.ports in
    thens _ _ (passes (ltb f 64 && bucket_fits w) (Bucket f) (and_from (ltb f 64) (bucket_fits w) (lt-ltb f 64 h) (bucket_from P n w kept)))
    (thens _ _ (passes (path_fits n w) (Path f) (and_from _ _ (and_from _ _ (le-leb 1 (hops w) kept.hops_least) (le-leb (hops w) 8 kept.hops_most)) (all_below_from (byte_fits n w) 8 (byte_from P n w kept))))
    (thens _ _ (passes (all_below (frame_fits P w) (hops w)) (Frames f) (all_below_from (frame_fits P w) (hops w) (λ k h. le-leb (port_at P (hop_port w k)).shortest w.shortest (kept.fits k h))))
    (passes (mask_fits w && leb (regulators_of P (suc f)) 32) (Mask f)
    (and_from (mask_fits w) (leb (regulators_of P (suc f)) 32)
    (all_below_from (bit_fits w) 8 (λ k h. bit_fits_from w k h (⊎_elim (λ z. rw z kept.first_free) (λ past. kept.rest_free k past h))))
    (le-leb (regulators_of P (suc f)) 32 few)))))

-- where every limit is kept, no fault is found
pub limits_ok : (P : Parts) → Kept P → limits_answer P ≡ Ok tt
limits_ok P k =
    let np = P.size.ports in
    let nf = P.size.flows in
    thens _ _
    (first_refusal_from (port_answer P) np (λ p h.
    let q = port_at P p in
    thens _ _ (passes (ltb p 32 && figures_fit q) (Figures p) (and_from (ltb p 32) (figures_fit q) (lt-ltb p 32 (omega (arith, k.ports_most))) (figures_from q (k.ports p h)))) (passes (stay_fits q) (Stay p) (le-leb q.stay (q.latency + up q.shortest q.rate) (k.ports p h).stay_most))))
    (thens _ _
    (first_refusal_from (flow_answer P) nf (λ f h. flow_from P f (omega (arith, k.flows_most)) (k.flows f h) (omega (arith, regulators_rise P nf (suc f) (omega arith), k.regulators_most))))
    (first_refusal_from (rates_answer P) np (λ p h. passes (leb (rates_through P p) (port_at P p).rate) (Rates p) (le-leb (rates_through P p) (port_at P p).rate (k.rates p h)))))

-- a plan with a fault does not keep every limit
pub fault_of : (P : Parts) (e : PlanFault) → limits_answer P ≡ Err e → Kept P → ⊥
fault_of P e h k = let o = limits_ok P k in let z : ◌≡◌ {A = ℕ} 0 1 = cc in omega arith

-- no fault is found exactly where every limit is kept
pub exact_of : (P : Parts) (r : Result (Unit {0}) PlanFault) → r ≡ limits_answer P → MatchResult r (λ _. Kept P) (λ _. Kept P → ⊥)
exact_of P (Ok tt) e = kept_of P (ap is_ok (sym e))
exact_of P (Err x) e = fault_of P x (sym e)
