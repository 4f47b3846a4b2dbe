-- The regulators let out in order of flow and hop, until none can.
use Rattle.std.proofs.Common.{◌≡◌, ℕ, zero, suc, ◌<◌, ◌≤◌, Bool, true, false, cond, ◌⊎◌, List, [], ◌∷◌, sym, refl, ap, ◌∙◌, subst, ap₂, inl, inr, arith}
use native.Mathlib.Decide.{ℕ_discrete}
use Rattle.draft.specs.declared.parts.Parts.{Parts}
use Rattle.draft.specs.declared.table.Table.{Table}
use Rattle.plan.specs.Limits.{Kept}
use Rattle.table.specs.Accepts.{Accepted}
use Rattle.service.specs.declared.frame.Frame.{Frame}
use Rattle.model.proofs.Cells.{dec_both}
use Rattle.model.proofs.Moves.{Settled, Stuck}
use Rattle.model.proofs.Plans.{clash, fine, real_flow}
use Rattle.model.proofs.Slots.{Let, Mid, lets_out, lossless}
use Rattle.model.specs.Networks.{Ending, State, gated, hops_of, regulator, regulators, release, releases}
use Rattle.model.specs.Runs.{Sent}

pub stuck_same : (P : Parts) (st st' : State) (g j : ℕ) → st'.waiting g j ≡ st.waiting g j → st'.level g j ≡ st.level g j
    → Stuck P st g j (st.waiting g j) → Stuck P st' g j (st'.waiting g j)
stuck_same P st st' g j e q s = subst (Stuck P st' g j) (sym e) (go (st.waiting g j) s)
  where
    go : (ws : List Frame) → Stuck P st g j ws → Stuck P st' g j ws
    go [] s = tt
    go (x ∷ xs) s = (s.0, omega (arith, s.1))

module _ (P : Parts) (t : Table) (kept : Kept P) (ok : Accepted P t) (sends gone : ℕ → List Sent) where
  abbrev Before : ℕ → ℕ → ℕ → ℕ → Type 0
  Before g j f k = (g < f) ⊎ ((g ≡ f) × (j < k))

  -- the regulators before the hop k of the flow f have let out what they can
  record Upto (f k : ℕ) (v : Ending) : Type 0 where
    after : State
    same : v ≡ lossless after
    mid : Mid P t sends after [] gone
    settled : (g j : ℕ) → suc j < hops_of P g → Before g (suc j) f k → Stuck P after g (suc j) (after.waiting g (suc j))

  nearer : (g j f k : ℕ) → (g ≡ f → j ≡ k → ⊥) → Before g j f (suc k) → Before g j f k
  nearer g j f k h (inl l) = inl l
  nearer g j f k h (inr (e, l)) = inr (e, elim (ℕ_discrete j k) [ yes z ↦ absurd (h e z) | no z ↦ omega arith ])

  one_more : (f k : ℕ) → f < P.size.flows → k < hops_of P f → (st : State) → Mid P t sends st [] gone
      → ((g j : ℕ) → suc j < hops_of P g → Before g (suc j) f k → Stuck P st g (suc j) (st.waiting g (suc j)))
      → Upto f (suc k) (regulator P f k (lossless st))
  one_more f k known room st m set = go (gated P f k) refl
    where
      idle : gated P f k ≡ false → (g j : ℕ) → suc j < hops_of P g → Before g (suc j) f (suc k) → Stuck P st g (suc j) (st.waiting g (suc j))
      idle e g j h b =
          elim (dec_both g f (suc j) k) [
            | yes z ↦ subst (Stuck P st g (suc j)) (sym (m.dry g (suc j) (ap₂ (gated P) z.0 z.1 ∙ e))) tt
            | no z ↦ set g j h (nearer g (suc j) f k (λ a c. z (a, c)) b)
          ]

      at_zero : (k : ℕ) → gated P f k ≡ true → (k ≡ 0 → ⊥)
      at_zero k e z = clash (sym e ∙ ap (gated P f) z ∙ (fine P kept f known).first)

      some : (k' : ℕ) → k ≡ k' → gated P f k' ≡ true → Upto f (suc k') (release P f k' (st.waiting f k') (lossless st))
      some zero q e = absurd (at_zero 0 e refl)
      some (suc k') q e = from (lets_out P t kept ok sends gone f k' (omega arith) e (st.waiting f (suc k')) st m refl)
        where
          from : Let P t kept ok sends gone st f (suc k') (release P f (suc k') (st.waiting f (suc k')) (lossless st))
              → Upto f (suc (suc k')) (release P f (suc k') (st.waiting f (suc k')) (lossless st))
          from r = record {
            after = r.after;
            same = r.same;
            mid = r.mid;
            settled = λ g j h b. elim (dec_both g f (suc j) (suc k')) [
              | yes z ↦ subst (λ g. Stuck P r.after g (suc j) (r.after.waiting g (suc j))) (sym z.0)
                  (subst (λ i. Stuck P r.after f i (r.after.waiting f i)) (sym z.1) r.stuck)
              | no z ↦ stuck_same P st r.after g (suc j) (r.others g (suc j) (λ a c. z (a, c))).0 (r.others g (suc j) (λ a c. z (a, c))).1
                  (set g j h (subst (Before g (suc j) f) (sym q) (nearer g (suc j) f (suc k') (λ a c. z (a, c)) b)))
            ];
          }

      go : (b : Bool) → gated P f k ≡ b → Upto f (suc k) (cond b (release P f k (st.waiting f k) (lossless st)) (lossless st))
      go true e = some k refl e
      go false e = record { after = st; same = refl; mid = m; settled = idle e }

  upto_same : (f k : ℕ) (v u : Ending) → v ≡ u → Upto f k u → Upto f k v
  upto_same f k v u e r = record { after = r.after; same = e ∙ r.same; mid = r.mid; settled = r.settled }

  all_hops : (f : ℕ) → f < P.size.flows → (v : Ending) → Upto f 0 v → (k : ℕ) → k ≤ hops_of P f → Upto f k (regulators P f k v)
  all_hops f known v r zero h = r
  all_hops f known v r (suc k) h = next (all_hops f known v r k (omega arith))
    where
      next : Upto f k (regulators P f k v) → Upto f (suc k) (regulator P f k (regulators P f k v))
      next r = upto_same f (suc k) _ (regulator P f k (lossless r.after)) (ap (regulator P f k) r.same)
          (one_more f k known (omega arith) r.after r.mid r.settled)

  all_flows : (v : Ending) → Upto 0 0 v → (f : ℕ) → f ≤ P.size.flows → Upto f 0 (releases P f v)
  all_flows v r zero h = r
  all_flows v r (suc f) h = next (all_hops f (omega arith) (releases P f v) (all_flows v r f (omega arith)) (hops_of P f) (omega arith))
    where
      next : Upto f (hops_of P f) (regulators P f (hops_of P f) (releases P f v)) → Upto (suc f) 0 (regulators P f (hops_of P f) (releases P f v))
      next r = record { after = r.after; same = r.same; mid = r.mid; settled = λ g j l b. r.settled g j l (wider g j l b) }
        where
          wider : (g j : ℕ) → suc j < hops_of P g → Before g (suc j) (suc f) 0 → Before g (suc j) f (hops_of P f)
          wider g j l (inl b) = elim (ℕ_discrete g f) [ yes e ↦ inr (e, omega (arith, ap (hops_of P) e)) | no e ↦ inl (omega arith) ]
          wider g j l (inr b) = absurd (omega (arith, b.1))

  pub record Ended (v : Ending) : Type 0 where
    pub after : State
    pub same : v ≡ lossless after
    pub mid : Mid P t sends after [] gone
    pub settled : Settled P after

  pub end_all : (st : State) → Mid P t sends st [] gone → Ended (releases P P.size.flows (lossless st))
  end_all st m = from (all_flows (lossless st) (record { after = st; same = refl; mid = m; settled = λ g j h b. absurd (never g j b) })
      P.size.flows (omega arith))
    where
      never : (g j : ℕ) → Before g (suc j) 0 0 → ⊥
      never g j (inl b) = omega arith
      never g j (inr b) = omega (arith, b.1)

      from : Upto P.size.flows 0 (releases P P.size.flows (lossless st)) → Ended (releases P P.size.flows (lossless st))
      from r = record { after = r.after; same = r.same; mid = r.mid; settled = λ f k h. r.settled f k h (inl (real_flow P f (suc k) h)) }
