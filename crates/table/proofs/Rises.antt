-- Loads, delays, backlogs and stretches rise with the table.
use Rattle.std.proofs.Common.{ℕ, zero, suc, ◌+◌, ◌*◌, ◌/◌, ◌<◌, ◌≤◌, true, false, cond, eqb, ltb, get_or, le_trans, mul-le-mul_left, le-div_iff_mul-le, div-mul-le_self, arith}
use Rattle.rounding.proofs.Ceilings.{up_rises}
use Rattle.draft.specs.Masks.{regulated}
use Rattle.draft.specs.Plans.{cell, flow_at, hop_port, hops, port_at, row_at}
use Rattle.draft.specs.declared.flow.Flow.{Flow}
use Rattle.draft.specs.declared.parts.Parts.{Parts}
use Rattle.draft.specs.declared.table.Row.{Row}
use Rattle.draft.specs.declared.table.Table.{Table}
use Rattle.plan.specs.Limits.{rates_through}
use Rattle.table.specs.Accepts.{Below}
use Rattle.table.specs.Bounds.{Routed}
use Rattle.table.specs.Loads.{backlog, delay, delay_by, delays, gaps, load, load_in, load_of}
use Rattle.table.specs.Paths.{stretch_by}
use Rattle.table.proofs.Rows.{delays_at, gaps_at}

load_in_rises : (w : Flow) (a b : Row) (p n : ℕ) → ((k : ℕ) → k < n → get_or a.cells k 0 ≤ get_or b.cells k 0) → load_in w a p n ≤ load_in w b p n
load_in_rises w a b p zero h = omega arith
load_in_rises w a b p (suc n) h =
    let below = load_in_rises w a b p n (λ k l. h k (omega arith)) in
    let here = h n (omega arith) in
    elim (eqb (hop_port w n) p) as (λ v. load_in w a p n + cond v (get_or a.cells n 0) 0 ≤ load_in w b p n + cond v (get_or b.cells n 0) 0) [ true ↦ omega arith | false ↦ omega arith ]

load_of_rises : (P : Parts) (u t : Table) (p n : ℕ) → ((f : ℕ) → f < n → (k : ℕ) → k < hops (flow_at P f) → cell u f k ≤ cell t f k) → load_of P u p n ≤ load_of P t p n
load_of_rises P u t p zero h = omega arith
load_of_rises P u t p (suc n) h =
    omega (arith, load_of_rises P u t p n (λ f l. h f (omega arith)), load_in_rises (flow_at P n) (row_at u n) (row_at t n) p (hops (flow_at P n)) (h n (omega arith)))

div_rises : (k x y : ℕ) → 1 ≤ k → x ≤ y → x / k ≤ y / k
div_rises k x y h le = (le-div_iff_mul-le h).1 (le_trans (div-mul-le_self x k) le)

module _ (P : Parts) (u t : Table) (h : Below P u t) where
  pub load_rises : (p : ℕ) → load P u p ≤ load P t p
  load_rises p = load_of_rises P u t p P.size.flows h

  pub delay_rises : (p : ℕ) → delay P u p ≤ delay P t p
  delay_rises p =
      let a = up_rises (load P u p) (load P t p) (port_at P p).rate (load_rises p) in
      elim (ltb p P.size.ports) as (λ v. cond v (delay_by (port_at P p) (load P u p)) 0 ≤ cond v (delay_by (port_at P p) (load P t p)) 0) [ true ↦ omega arith | false ↦ omega arith ]

  pub delays_rise : (p : ℕ) → p < 32 → get_or (delays P u) p 0 ≤ get_or (delays P t) p 0
  delays_rise p l = rw (delays_at P u p l, delays_at P t p l) (delay_rises p)

  pub gaps_rise : (p : ℕ) → p < 32 → get_or (gaps P u) p 0 ≤ get_or (gaps P t) p 0
  gaps_rise p l = rw (gaps_at P u p l, gaps_at P t p l) (omega (arith, delay_rises p))

  pub backlog_rises : (p : ℕ) → backlog P u p ≤ backlog P t p
  backlog_rises p =
      let a = load_rises p in
      let b = mul-le-mul_left {m = delay P u p} {n = delay P t p} (rates_through P p) (delay_rises p) in
      elim (ltb p P.size.ports) as (λ v. cond v (load P u p + rates_through P p * delay P u p) 0 ≤ cond v (load P t p + rates_through P p * delay P t p) 0) [ true ↦ omega arith | false ↦ omega arith ]

  pub frames_rise : (p s : ℕ) → 1 ≤ s → backlog P u p / s ≤ backlog P t p / s
  frames_rise p s l = div_rises s (backlog P u p) (backlog P t p) l (backlog_rises p)

  stretch_rises : (w : Flow) → Routed w → (k : ℕ) → k ≤ hops w → stretch_by w (delays P u) k ≤ stretch_by w (delays P t) k
  stretch_rises w r zero lk = omega arith
  stretch_rises w r (suc k) lk =
      let a = stretch_rises w r k (omega arith) in
      let b = delays_rise (hop_port w k) (r.crossed k (omega arith)) in
      elim (regulated w.mask k) as (λ v. cond v 0 (stretch_by w (delays P u) k) + (get_or (delays P u) (hop_port w k) 0 + 1) ≤ cond v 0 (stretch_by w (delays P t) k) + (get_or (delays P t) (hop_port w k) 0 + 1))
      [ true ↦ omega arith | false ↦ omega arith ]

  pub held_rises : (w : Flow) → Routed w → (k : ℕ) → k ≤ hops w → (w.burst + w.rate * stretch_by w (delays P u) k) / w.shortest ≤ (w.burst + w.rate * stretch_by w (delays P t) k) / w.shortest
  held_rises w r k lk =
      let a = mul-le-mul_left {m = stretch_by w (delays P u) k} {n = stretch_by w (delays P t) k} w.rate (stretch_rises w r k lk) in
      div_rises w.shortest (w.burst + w.rate * stretch_by w (delays P u) k) (w.burst + w.rate * stretch_by w (delays P t) k) (omega (arith, r.shortest_least)) (omega arith)
