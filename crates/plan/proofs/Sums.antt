-- Sums kept at the places of a list, and what a flow adds to them.
use Rattle.std.proofs.Common.{◌≡◌, ℕ, zero, suc, ◌<◌, ◌≤◌, Bool, true, false, cond, not, ◌&&◌, eqb, ltb, get_or, replicate, sym, refl, ap, ◌∙◌, arith}
use native.Mathlib.Decide.{ℕ_discrete}
use Rattle.std.proofs.lemmas.Bool.{and_parts, both_ways, eq-eqb, eqb-true, lt-ltb, ltb-true, ne_eqb, not-false, not-true}
use Rattle.refusal.proofs.Orders.{all_below_each, all_below_some}
use Rattle.refusal.specs.Firsts.{all_below}
use Rattle.draft.specs.Plans.{hop_port, hops}
use Rattle.draft.specs.declared.flow.Flow.{Flow}
use Rattle.draft.specs.declared.parts.Parts.{Parts}
use Rattle.plan.specs.Limits.{Kept, crosses}
use Rattle.plan.specs.Rates.{Simple, Simples, rate_in}

pub zeros : (n p : ℕ) → ◌≡◌ {A = ℕ} (get_or (replicate n 0) p 0) 0
zeros zero p = refl
zeros (suc n) zero = refl
zeros (suc n) (suc p) = zeros n p

module _ (w : Flow) (n : ℕ) (s : Simple n w) (p : ℕ) where
  -- hops at other ports add nothing
  rate_none : (k : ℕ) → ((j : ℕ) → j < k → hop_port w j ≡ p → ⊥) → rate_in w p k ≡ 0
  rate_none zero h = refl
  rate_none (suc k) h =
      let a = rate_none k (λ j l. h j (omega arith)) in
      rw (ne_eqb (hop_port w k) p (h k (omega arith))) (omega arith)

  -- the one hop at the port adds the rate
  rate_once : (k i : ℕ) → k ≤ hops w → i < k → hop_port w i ≡ p → rate_in w p k ≡ w.rate
  rate_once zero i le l e = absurd (omega arith)
  rate_once (suc k) i le l e = elim (ℕ_discrete i k) [
    | yes q ↦
        (let here : hop_port w k ≡ p = ap (hop_port w) (sym q) ∙ e in
        let a = rate_none k (λ j h x. s.different j k h (omega arith) (x ∙ sym here)) in
        rw (eq-eqb (hop_port w k) p here) (omega arith))
    | no q ↦
        (let a = rate_once k i (omega arith) (omega arith) e in
        rw (ne_eqb (hop_port w k) p (λ x. s.different i k (omega arith) (omega arith) (e ∙ sym x))) (omega arith))
  ]

  -- a flow adds its rate at a port that it crosses, and nothing elsewhere
  pub rate_crossing : rate_in w p (hops w) ≡ cond (crosses w p) w.rate 0
  rate_crossing =
      let b : ℕ → Bool = λ k. not (ltb k (hops w) && eqb (hop_port w k) p) in
      elim (all_below b 8) as (λ v. all_below b 8 ≡ v → rate_in w p (hops w) ≡ cond (not v) w.rate 0) [
        | true ↦ λ e.
            rate_none (hops w) (λ j l x.
            let passed = not-true (ltb j (hops w) && eqb (hop_port w j) p) (all_below_each b 8 e j (omega (arith, s.hops_most))) in
            both_ways (ltb j (hops w) && eqb (hop_port w j) p) passed (rw (lt-ltb j (hops w) l, eq-eqb (hop_port w j) p x)))
        | false ↦ λ e.
            let t = all_below_some b 8 e in
            let q = and_parts (ltb t.0 (hops w)) (eqb (hop_port w t.0) p) (not-false (ltb t.0 (hops w) && eqb (hop_port w t.0) p) t.2) in
            rate_once (hops w) t.0 (omega arith) (ltb-true t.0 (hops w) q.0) (eqb-true (hop_port w t.0) p q.1)
      ] refl

-- the paths of a plan
pub simples_of : (P : Parts) → Kept P → Simples P
simples_of P k f h =
    let w = k.flows f h in
    record { hops_most = w.hops_most; crossed = w.crossed; different = w.different }
