-- A plan that keeps its limits, with an accepted table, is a sound system of the calculus.
use Rattle.std.proofs.Common.{◌≡◌, ℕ, zero, suc, ◌+◌, ◌-◌, ◌*◌, ◌<◌, ◌≤◌, min, Bool, true, false, cond, ltb, get_or, sym, refl, ap, ◌∙◌, ap₂, mul-le-mul_right, mul-le-mul_left, add-one, arith}
use native.Mathlib.Decide.{dec_le}
use Rattle.std.proofs.ByRecursion.{All-weaker}
use Rattle.std.proofs.lemmas.Bool.{cond-false, cond-true, lt-ltb}
use Rattle.rounding.specs.Quotients.{up}
use Rattle.draft.specs.Masks.{regulated}
use Rattle.draft.specs.Plans.{cell, flow_at, hops, port_at}
use Rattle.draft.specs.declared.parts.Parts.{Parts}
use Rattle.draft.specs.declared.table.Table.{Table}
use Rattle.plan.specs.Limits.{Kept, rates_through}
use Rattle.table.proofs.Rows.{delays_at, gaps_at}
use Rattle.table.specs.Accepts.{Accepted}
use Rattle.table.specs.Loads.{backlog, delay, delays, gaps, load}
use Rattle.table.specs.Paths.{delay_along, flow_delay, need, stretch}
use Rattle.calculus.proofs.Sums.{total_add, total_le, total_most, total_scale}
use Rattle.calculus.specs.Systems.{Leg, Sound, System, path, reach, span}
use Rattle.calculus.specs.Windows.{total}
use Rattle.model.proofs.Plans.{fine, gated_known, hops_known, real_flow, users, users_few, users_in, users_load, users_rates, users_real}
use Rattle.model.specs.Networks.{gated, hops_of, route}

-- a bucket stands where a flow enters, and at its regulators
abbrev pub bucketed : Parts → ℕ → ℕ → Bool
bucketed P f zero = true
bucketed P f (suc k) = gated P f (suc k)

-- the burst where a bucket stands, else the cell; and the rate
abbrev pub curve_of : Parts → Table → ℕ → ℕ → ℕ → ℕ
curve_of P t f k n = cond (bucketed P f k) (flow_at P f).burst (cell t f k) + (flow_at P f).rate * n

-- the least stay is taken as the lesser of m and D, so that m ≤ D need not be shown
abbrev pub system_of : Parts → Table → System
system_of P t =
    record {
      count = P.size.ports;
      route = route P;
      hops = hops_of P;
      users = users P;
      rate = λ p. (port_at P p).rate;
      latency = λ p. (port_at P p).latency;
      least = λ p. min (port_at P p).stay (delay P t p);
      stay = delay P t;
      burst = load P t;
      curve = curve_of P t;
      regulated = bucketed P;
      cap = λ f. (flow_at P f).burst;
      pace = λ f. (flow_at P f).rate;
    }

module _ (P : Parts) (t : Table) (kept : Kept P) (ok : Accepted P t) where
  -- D and D - m of the port of a hop
  delay_there : (f k : ℕ) → k < hops_of P f → get_or (delays P t) (route P f k) 0 ≡ delay P t (route P f k)
  delay_there f k h = delays_at P t (route P f k) (omega (arith, (fine P kept f (real_flow P f k h)).placed k h, kept.ports_most))

  gap_there : (f k : ℕ) → k < hops_of P f → get_or (gaps P t) (route P f k) 0 ≡ delay P t (route P f k) - (port_at P (route P f k)).stay
  gap_there f k h = gaps_at P t (route P f k) (omega (arith, (fine P kept f (real_flow P f k h)).placed k h, kept.ports_most))

  pub delay_is : (p : ℕ) → p < P.size.ports → delay P t p ≡ (port_at P p).latency + up (load P t p) (port_at P p).rate
  delay_is p h = cond-true (ltb p P.size.ports) _ 0 (lt-ltb p P.size.ports h)

  pub load_few : (p : ℕ) → load P t p ≤ 512000000000
  load_few p =
      omega (
        arith,
        users_load P t p,
        users_few P kept p,
        total_most (λ c. cell t c.flow c.hop) 1000000000 (users P p) (All-weaker _ _ one (users P p) (users_real P p)),
      )
    where
      one : (c : Leg) → c.hop < hops_of P c.flow → cell t c.flow c.hop ≤ 1000000000
      one c h =
          let l : c.flow < P.size.flows = real_flow P c.flow c.hop h in
          ok.within c.flow l c.hop (omega (arith, hops_known P c.flow l))

  reached : (f k : ℕ) → k < hops_of P f → need P t f k ≤ cell t f k
  reached f k h = let l : f < P.size.flows = real_flow P f k h in ok.reached f l k (omega (arith, hops_known P f l))

  -- the need of a hop, by whether it is regulated
  need_gated : (f k : ℕ) → suc k < hops_of P f → gated P f (suc k) ≡ true → (flow_at P f).burst ≤ cell t f (suc k)
  need_gated f k h e =
      omega (
        arith,
        reached f (suc k) h,
        cond-true (regulated (flow_at P f).mask (k + 1)) (flow_at P f).burst
            (cell t f k + (flow_at P f).rate * get_or (gaps P t) (route P f k) 0)
            (rw (add-one k) (sym (gated_known P f (suc k) (real_flow P f (suc k) h)) ∙ e)),
      )

  need_free : (f k : ℕ) → suc k < hops_of P f → gated P f (suc k) ≡ false
      → cell t f k + (flow_at P f).rate * (delay P t (route P f k) - (port_at P (route P f k)).stay) ≤ cell t f (suc k)
  need_free f k h e =
      omega (
        arith,
        reached f (suc k) h,
        cond-false (regulated (flow_at P f).mask (k + 1)) (flow_at P f).burst
            (cell t f k + (flow_at P f).rate * get_or (gaps P t) (route P f k) 0)
            (rw (add-one k) (sym (gated_known P f (suc k) (real_flow P f (suc k) h)) ∙ e)),
        ap (λ g. (flow_at P f).rate * g) (gap_there f k (omega arith)),
      )

  -- no curve starts above its cell
  under : (f k : ℕ) → k < hops_of P f → cond (bucketed P f k) (flow_at P f).burst (cell t f k) ≤ cell t f k
  under f zero h = reached f zero h
  under f (suc k) h = go (gated P f (suc k)) refl
    where
      go : (b : Bool) → gated P f (suc k) ≡ b → cond b (flow_at P f).burst (cell t f (suc k)) ≤ cell t f (suc k)
      go true e = need_gated f k h e
      go false e = omega arith

  grows : (f k n : ℕ) → suc k < hops_of P f → gated P f (suc k) ≡ false
      → curve_of P t f k (n + (delay P t (route P f k) - min (port_at P (route P f k)).stay (delay P t (route P f k)))) ≤ curve_of P t f (suc k) n
  grows f k n h e =
      omega (
        arith,
        under f k (omega arith),
        need_free f k h e,
        cond-false (gated P f (suc k)) (flow_at P f).burst (cell t f (suc k)) e,
        mul-le-mul_left {m = n + (delay P t (route P f k) - min (port_at P (route P f k)).stay (delay P t (route P f k)))} {n =
            n + (delay P t (route P f k) - (port_at P (route P f k)).stay)} (flow_at P f).rate (omega arith),
      )

  -- the curves at a port, n slots on, are no more than B + r × n
  pub curves_few : (p n : ℕ) → total (λ c. curve_of P t c.flow c.hop n) (users P p) ≤ load P t p + rates_through P p * n
  curves_few p n =
      omega (
        arith,
        total_le (λ c. curve_of P t c.flow c.hop n) (λ c. cell t c.flow c.hop + (flow_at P c.flow).rate * n) (users P p)
            (All-weaker _ _ (λ c l. omega (arith, under c.flow c.hop l)) (users P p) (users_real P p)),
        total_add (λ c. cell t c.flow c.hop) (λ c. (flow_at P c.flow).rate * n) (users P p),
        users_load P t p,
        total_scale (λ c. (flow_at P c.flow).rate) n (users P p),
        mul-le-mul_right n (users_rates P kept p),
      )

  pub sound : Sound (system_of P t)
  sound =
      record {
        placed = λ f k h. (fine P kept f (real_flow P f k h)).placed k h;
        used = users_in P;
        real = users_real P;
        fed = λ p h. (kept.ports p h).rate_least;
        ordered = λ p h. omega arith;
        first = λ f. refl;
        shaped = λ f k n e. ap (λ (b : Bool). cond b (flow_at P f).burst (cell t f k) + (flow_at P f).rate * n) e;
        grows = λ f k n h e. rw (add-one k) (grows f k n (omega arith) (rw (add-one k) at e));
        shared = λ p n h. omega (arith, curves_few p n, mul-le-mul_right n (kept.rates p h));
        covers = λ p h. omega (arith, delay_is p h);
      }

  pub curves_backlog : (p : ℕ) → p < P.size.ports → total (λ c. curve_of P t c.flow c.hop (delay P t p)) (users P p) ≤ backlog P t p
  curves_backlog p h =
      omega (arith, curves_few p (delay P t p), cond-true (ltb p P.size.ports) (load P t p + rates_through P p * delay P t p) 0 (lt-ltb p P.size.ports h))

  -- the calculus counts the same stretch
  spans : (f k : ℕ) → k < hops_of P f → cond (regulated (flow_at P f).mask k) 0 (stretch P t f k) ≡ span (system_of P t) f k
  spans f zero h = go (regulated (flow_at P f).mask 0)
    where
      go : (b : Bool) → ◌≡◌ {A = ℕ} (cond b 0 0) 0
      go true = refl
      go false = refl
  spans f (suc k) h =
      ap₂ (λ (b : Bool) n. cond b 0 n) (sym (gated_known P f (suc k) (real_flow P f (suc k) h)))
      (omega (arith, spans f k (omega arith), delay_there f k (omega arith)))

  pub reaches : (f k : ℕ) → suc k < hops_of P f → reach (system_of P t) f k ≡ stretch P t f (suc k)
  reaches f k h = omega (arith, spans f k (omega arith), delay_there f k (omega arith))

  -- and the same delay along the path
  paths : (f k : ℕ) → k ≤ hops_of P f → path (system_of P t) f k ≡ delay_along (flow_at P f) (delays P t) k + k
  paths f zero h = refl
  paths f (suc k) h = omega (arith, paths f k (omega arith), delay_there f k (omega arith))

  pub path_quoted : (f : ℕ) → f < P.size.flows → path (system_of P t) f (hops_of P f) ≡ flow_delay P t f + 1
  path_quoted f h =
      let quoted = cond-true (ltb f P.size.flows) (delay_along (flow_at P f) (delays P t) (hops (flow_at P f)) + (hops (flow_at P f) - 1)) 0
      (lt-ltb f P.size.flows h) in
      omega (
        arith,
        paths f (hops_of P f) (omega arith),
        ap (delay_along (flow_at P f) (delays P t)) (hops_known P f h),
        hops_known P f h,
        quoted,
        (fine P kept f h).some,
      )

pub path_le : (S : System) (f j k : ℕ) → j ≤ k → path S f j ≤ path S f k
path_le S f j zero h = let e : j ≡ 0 = omega arith in rw e (omega arith)
path_le S f j (suc k) h =
    elim (dec_le j k) [
      | yes l ↦ omega (arith, path_le S f j k l)
      | no l ↦ let e : j ≡ suc k = omega arith in rw e (omega arith)
    ]

pub path_lt : (S : System) (f j k : ℕ) → j < k → path S f j + 1 ≤ path S f k
path_lt S f j k h = omega (arith, path_le S f (suc j) k h)
