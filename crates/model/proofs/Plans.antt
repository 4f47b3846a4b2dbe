-- A plan's flows and ports in the network's words, and which flows cross a port.
use Rattle.std.proofs.Common.{◌≡◌, ℕ, zero, suc, ◌*◌, ◌<◌, ◌≤◌, Bool, true, false, cond, not, ◌&&◌, eqb, ltb, List, [], ◌∷◌, ◌++◌, length, sym, refl, ap, ◌∙◌, subst, inl, inr, arith, length-append}
use native.Mathlib.Decide.{dec_lt, ℕ_discrete}
use Rattle.std.proofs.ByRecursion.{All-append, All-weaker}
use Rattle.std.proofs.lemmas.Bool.{and_from, cond-false, cond-true, eq-eqb, le-ltb, lt-ltb, ne_eqb, not-false, not-true}
use Rattle.std.specs.List.{AllByRecursion}
use Rattle.refusal.proofs.Orders.{all_below_each}
use Rattle.refusal.specs.Firsts.{all_below}
use Rattle.draft.specs.Masks.{regulated}
use Rattle.draft.specs.Plans.{cell, flow_at, hop_port, hops, port_at, row_at}
use Rattle.draft.specs.declared.flow.Flow.{Flow}
use Rattle.draft.specs.declared.parts.Parts.{Parts}
use Rattle.draft.specs.declared.table.Table.{Table}
use Rattle.plan.specs.Limits.{FlowKept, Kept, crosses, rates_of, rates_through}
use Rattle.table.specs.Loads.{load, load_in, load_of}
use Rattle.calculus.proofs.Sums.{total_append}
use Rattle.calculus.specs.Systems.{In, Leg, leg}
use Rattle.calculus.specs.Windows.{total}
use Rattle.model.specs.Networks.{gated, hops_of, route}

pub clash : {A : Type 0} → ◌≡◌ {A = Bool} true false → A
clash e = absurd (let z : ◌≡◌ {A = ℕ} 0 1 = cc in omega arith)

pub hops_known : (P : Parts) (f : ℕ) → f < P.size.flows → hops_of P f ≡ hops (flow_at P f)
hops_known P f h = cond-true (ltb f P.size.flows) (hops (flow_at P f)) 0 (lt-ltb f P.size.flows h)

-- what has a hop is a flow
pub real_flow : (P : Parts) (f k : ℕ) → k < hops_of P f → f < P.size.flows
real_flow P f k h =
    elim (dec_lt f P.size.flows) [
      | yes l ↦ l
      | no l ↦ absurd (omega (arith, cond-false (ltb f P.size.flows) (hops (flow_at P f)) 0 (le-ltb f P.size.flows (omega arith))))
    ]

pub gated_known : (P : Parts) (f k : ℕ) → f < P.size.flows → gated P f k ≡ regulated (flow_at P f).mask k
gated_known P f k h = ap (λ (b : Bool). b && regulated (flow_at P f).mask k) (lt-ltb f P.size.flows h)

-- what the limits give of a flow
pub record Fine (P : Parts) (f : ℕ) : Type 0 where
  pub figures : FlowKept P P.size.ports (flow_at P f)
  pub some : 1 ≤ hops_of P f
  pub eight : hops_of P f ≤ 8
  pub placed : (k : ℕ) → k < hops_of P f → route P f k < P.size.ports
  pub apart : (j k : ℕ) → j < hops_of P f → k < hops_of P f → route P f j ≡ route P f k → j ≡ k
  pub long : (k : ℕ) → k < hops_of P f → (port_at P (route P f k)).shortest ≤ (flow_at P f).shortest
  pub first : gated P f 0 ≡ false

pub fine : (P : Parts) → Kept P → (f : ℕ) → f < P.size.flows → Fine P f
fine P kept f h =
    record {
      figures = k;
      some = omega (arith, e, k.hops_least);
      eight = omega (arith, e, k.hops_most);
      placed = λ j l. k.crossed j (omega (arith, e));
      apart = apart;
      long = λ j l. k.fits j (omega (arith, e));
      first = gated_known P f 0 h ∙ ap (λ (b : ℕ). eqb b 1) k.first_free;
    }
  where
    k : FlowKept P P.size.ports (flow_at P f)
    k = kept.flows f h

    e : hops_of P f ≡ hops (flow_at P f)
    e = hops_known P f h

    apart : (i j : ℕ) → i < hops_of P f → j < hops_of P f → route P f i ≡ route P f j → i ≡ j
    apart i j a b q =
        elim (ℕ_discrete i j) [
          | yes z ↦ z
          | no z ↦ elim (dec_lt i j) [
            | yes l ↦ absurd (k.different i j l (omega (arith, e)) q)
            | no l ↦ absurd (k.different j i (omega arith) (omega (arith, e)) (sym q))
          ]
        ]

-- the hops of a flow below n that are at port p
abbrev pub legs : Flow → ℕ → ℕ → ℕ → List Leg
legs w f p zero = []
legs w f p (suc k) = legs w f p k ++ cond (eqb (hop_port w k) p) (leg f k ∷ []) []

abbrev pub users_below : Parts → ℕ → ℕ → List Leg
users_below P p zero = []
users_below P p (suc f) = users_below P p f ++ legs (flow_at P f) f p (hops (flow_at P f))

-- which flows cross port p, and at which of their hops
abbrev pub users : Parts → ℕ → List Leg
users P p = users_below P p P.size.flows

in_left : (c : Leg) (xs ys : List Leg) → In c xs → In c (xs ++ ys)
in_left c [] ys m = absurd m
in_left c (x ∷ xs) ys (inl e) = inl e
in_left c (x ∷ xs) ys (inr m) = inr (in_left c xs ys m)

in_right : (c : Leg) (xs ys : List Leg) → In c ys → In c (xs ++ ys)
in_right c [] ys m = m
in_right c (x ∷ xs) ys m = inr (in_right c xs ys m)

legs_in : (w : Flow) (f p n k : ℕ) → k < n → hop_port w k ≡ p → In (leg f k) (legs w f p n)
legs_in w f p zero k h e = absurd (omega arith)
legs_in w f p (suc n) k h e =
    elim (ℕ_discrete k n) [
      | yes z ↦ in_right (leg f k) (legs w f p n) (cond (eqb (hop_port w n) p) (leg f n ∷ []) [])
          (subst (In (leg f k)) (sym (cond-true (eqb (hop_port w n) p) (leg f n ∷ []) [] (eq-eqb (hop_port w n) p (ap (hop_port w) (sym z) ∙ e))))
          (inl (ap (leg f) z)))
      | no z ↦ in_left (leg f k) (legs w f p n) (cond (eqb (hop_port w n) p) (leg f n ∷ []) []) (legs_in w f p n k (omega arith) e)
    ]

users_below_in : (P : Parts) (p n f k : ℕ) → f < n → k < hops (flow_at P f) → route P f k ≡ p → In (leg f k) (users_below P p n)
users_below_in P p zero f k h l e = absurd (omega arith)
users_below_in P p (suc n) f k h l e =
    elim (ℕ_discrete f n) [
      | yes z ↦ subst (λ g. In (leg g k) (users_below P p (suc n))) (sym z)
          (in_right (leg n k) (users_below P p n) (legs (flow_at P n) n p (hops (flow_at P n)))
          (legs_in (flow_at P n) n p (hops (flow_at P n)) k (subst (λ g. k < hops (flow_at P g)) z l) (ap (λ g. route P g k) (sym z) ∙ e)))
      | no z ↦ in_left (leg f k) (users_below P p n) (legs (flow_at P n) n p (hops (flow_at P n))) (users_below_in P p n f k (omega arith) l e)
    ]

pub users_in : (P : Parts) (f k : ℕ) → k < hops_of P f → In (leg f k) (users P (route P f k))
users_in P f k h =
    users_below_in P (route P f k) P.size.flows f k (real_flow P f k h) (omega (arith, hops_known P f (real_flow P f k h))) refl

legs_real : (w : Flow) (f p n : ℕ) → AllByRecursion (λ c. (c.flow ≡ f) × (c.hop < n)) (legs w f p n)
legs_real w f p zero = tt
legs_real w f p (suc n) =
    All-append _ (legs w f p n) _ (All-weaker _ _ (λ c h. (h.0, omega (arith, h.1))) (legs w f p n) (legs_real w f p n)) (one (eqb (hop_port w n) p))
  where
    one : (b : Bool) → AllByRecursion (λ c. (c.flow ≡ f) × (c.hop < suc n)) (cond b (leg f n ∷ []) [])
    one true = ((refl, omega arith), tt)
    one false = tt

users_below_real : (P : Parts) (p n : ℕ) → AllByRecursion (λ c. (c.flow < n) × (c.hop < hops (flow_at P c.flow))) (users_below P p n)
users_below_real P p zero = tt
users_below_real P p (suc n) =
    All-append _ (users_below P p n) _
    (All-weaker _ _ (λ c h. (omega (arith, h.0), h.1)) (users_below P p n) (users_below_real P p n))
    (All-weaker _ _ (λ c h. (omega (arith, h.0), subst (λ g. c.hop < hops (flow_at P g)) (sym h.0) h.1))
    (legs (flow_at P n) n p (hops (flow_at P n))) (legs_real (flow_at P n) n p (hops (flow_at P n))))

pub users_real : (P : Parts) (p : ℕ) → AllByRecursion (λ c. c.hop < hops_of P c.flow) (users P p)
users_real P p =
    All-weaker _ _ (λ c h. omega (arith, hops_known P c.flow h.0, h.1)) (users P p) (users_below_real P p P.size.flows)

legs_few : (w : Flow) (f p n : ℕ) → length (legs w f p n) ≤ n
legs_few w f p zero = omega arith
legs_few w f p (suc n) = omega (arith, length-append (legs w f p n) (cond (eqb (hop_port w n) p) (leg f n ∷ []) []), legs_few w f p n, one (eqb (hop_port w n) p))
  where
    one : (b : Bool) → length (cond b (leg f n ∷ []) []) ≤ 1
    one true = omega arith
    one false = omega arith

users_below_few : (P : Parts) (p n : ℕ) → ((f : ℕ) → f < n → hops (flow_at P f) ≤ 8) → length (users_below P p n) ≤ 8 * n
users_below_few P p zero h = omega arith
users_below_few P p (suc n) h =
    omega (
      arith,
      length-append (users_below P p n) (legs (flow_at P n) n p (hops (flow_at P n))),
      legs_few (flow_at P n) n p (hops (flow_at P n)),
      h n (omega arith),
      users_below_few P p n (λ f l. h f (omega arith)),
    )

pub users_few : (P : Parts) → Kept P → (p : ℕ) → length (users P p) ≤ 512
users_few P kept p = omega (arith, users_below_few P p P.size.flows (λ f h. (kept.flows f h).hops_most), kept.flows_most)

-- sums over the users of a port: the load, and no more than the rates
legs_load : (t : Table) (w : Flow) (f p n : ℕ) → total (λ c. cell t c.flow c.hop) (legs w f p n) ≡ load_in w (row_at t f) p n
legs_load t w f p zero = refl
legs_load t w f p (suc n) =
    omega (
      arith,
      total_append (λ c. cell t c.flow c.hop) (legs w f p n) (cond (eqb (hop_port w n) p) (leg f n ∷ []) []),
      legs_load t w f p n,
      one (eqb (hop_port w n) p),
    )
  where
    one : (b : Bool) → total (λ c. cell t c.flow c.hop) (cond b (leg f n ∷ []) []) ≡ cond b (cell t f n) 0
    one true = omega arith
    one false = refl

users_below_load : (P : Parts) (t : Table) (p n : ℕ) → total (λ c. cell t c.flow c.hop) (users_below P p n) ≡ load_of P t p n
users_below_load P t p zero = refl
users_below_load P t p (suc n) =
    omega (
      arith,
      total_append (λ c. cell t c.flow c.hop) (users_below P p n) (legs (flow_at P n) n p (hops (flow_at P n))),
      users_below_load P t p n,
      legs_load t (flow_at P n) n p (hops (flow_at P n)),
    )

pub users_load : (P : Parts) (t : Table) (p : ℕ) → total (λ c. cell t c.flow c.hop) (users P p) ≡ load P t p
users_load P t p = users_below_load P t p P.size.flows

legs_none : (w : Flow) (f p n : ℕ) → ((k : ℕ) → k < n → hop_port w k ≡ p → ⊥) → legs w f p n ≡ []
legs_none w f p zero h = refl
legs_none w f p (suc n) h =
    ap (λ l. l ++ cond (eqb (hop_port w n) p) (leg f n ∷ []) []) (legs_none w f p n (λ k l. h k (omega arith)))
    ∙ cond-false (eqb (hop_port w n) p) (leg f n ∷ []) [] (ne_eqb (hop_port w n) p (h n (omega arith)))

module _ (P : Parts) (p : ℕ) where
  abbrev rate_of : Leg → ℕ
  rate_of c = (flow_at P c.flow).rate

  -- a flow crosses a port at one hop at most
  once : (w : Flow) (f n : ℕ) → ((j k : ℕ) → j < k → k < n → hop_port w j ≡ hop_port w k → ⊥) → total rate_of (legs w f p n) ≤ (flow_at P f).rate
  once w f zero h = omega arith
  once w f (suc n) h =
      elim (ℕ_discrete (hop_port w n) p) [
        | yes e ↦ omega (
          arith,
          ap (total rate_of)
              (ap (λ l. l ++ cond (eqb (hop_port w n) p) (leg f n ∷ []) []) (legs_none w f p n (λ k l q. h k n l (omega arith) (q ∙ sym e)))
              ∙ cond-true (eqb (hop_port w n) p) (leg f n ∷ []) [] (eq-eqb (hop_port w n) p e)),
        )
        | no e ↦ omega (
          arith,
          total_append rate_of (legs w f p n) (cond (eqb (hop_port w n) p) (leg f n ∷ []) []),
          ap (total rate_of) (cond-false (eqb (hop_port w n) p) (leg f n ∷ []) [] (ne_eqb (hop_port w n) p e)),
          once w f n (λ j k l m. h j k l (omega arith)),
        )
      ]

  -- and not at all unless it crosses it
  at_most : (f : ℕ) → FlowKept P P.size.ports (flow_at P f)
      → total rate_of (legs (flow_at P f) f p (hops (flow_at P f))) ≤ cond (crosses (flow_at P f) p) (flow_at P f).rate 0
  at_most f k = go (crosses (flow_at P f) p) refl
    where
      w : Flow
      w = flow_at P f

      away : crosses w p ≡ false → (j : ℕ) → j < hops w → hop_port w j ≡ p → ⊥
      away e j h q =
          clash (sym (and_from (ltb j (hops w)) (eqb (hop_port w j) p) (lt-ltb j (hops w) h) (eq-eqb (hop_port w j) p q))
          ∙ not-true (ltb j (hops w) && eqb (hop_port w j) p)
          (all_below_each (λ j. not (ltb j (hops w) && eqb (hop_port w j) p)) 8
          (not-false (all_below (λ j. not (ltb j (hops w) && eqb (hop_port w j) p)) 8) e) j (omega (arith, k.hops_most))))

      go : (b : Bool) → crosses (flow_at P f) p ≡ b → total rate_of (legs (flow_at P f) f p (hops (flow_at P f))) ≤ cond b (flow_at P f).rate 0
      go true e = once (flow_at P f) f (hops (flow_at P f)) (λ i j l m. k.different i j l m)
      go false e = omega (arith, ap (total rate_of) (legs_none (flow_at P f) f p (hops (flow_at P f)) (away e)))

  users_below_rates : (n : ℕ) → ((f : ℕ) → f < n → FlowKept P P.size.ports (flow_at P f)) → total rate_of (users_below P p n) ≤ rates_of P p n
  users_below_rates zero h = omega arith
  users_below_rates (suc n) h =
      omega (
        arith,
        total_append rate_of (users_below P p n) (legs (flow_at P n) n p (hops (flow_at P n))),
        users_below_rates n (λ f l. h f (omega arith)),
        at_most n (h n (omega arith)),
      )

pub users_rates : (P : Parts) → Kept P → (p : ℕ) → total (λ c. (flow_at P c.flow).rate) (users P p) ≤ rates_through P p
users_rates P kept p = users_below_rates P p P.size.flows kept.flows
