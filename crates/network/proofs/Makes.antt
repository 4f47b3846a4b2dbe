-- An open network is fresh, and its plan is the cabinet's.
use Rattle.std.proofs.Common.{◌≡◌, ℕ, zero, suc, ◌<◌, min, Bool, true, false, cond, ◌&&◌, eqb, ltb, List, [], ◌∷◌, ◌++◌, map, length, get_or, take, drop, replicate, sym, refl, ap, ◌∙◌, arith, ext_get_or}
use native.Mathlib.Decide.{dec_lt}
use Rattle.std.proofs.lemmas.List.{get_or-map, get_or-take, length-map, length-take, take-append-drop}
use Rattle.std.proofs.lemmas.Bool.{and_parts, cond-false, cond-true, eqb-true, le-ltb, lt-ltb, ltb-true}
use Rattle.refusal.proofs.Orders.{all_below_each}
use Rattle.refusal.specs.Firsts.{all_below}
use Rattle.draft.specs.Masks.{regulated}
use Rattle.draft.specs.Plans.{flow_at, no_port, port_at}
use Rattle.draft.specs.declared.parts.Parts.{Parts}
use Rattle.draft.specs.declared.port.Port.{Port}
use Rattle.plan.specs.Limits.{Kept}
use Rattle.service.specs.declared.frame.Frame.{Frame}
use Rattle.cabinet.specs.Fresh.{all_idle, fresh_model, idle}
use Rattle.cabinet.specs.Model.{Model, PortModel, port_in, vacant}
use Rattle.regulator.specs.Regulators.{fresh_regulator, held, no_regulator}
use Rattle.regulator.specs.declared.regulator.Regulator.{Regulator}
use Rattle.model.specs.Networks.{fresh, gated}
use Rattle.network.specs.Makes.{matches, opens, same_figures}
use Rattle.network.specs.Views.{level_in, number, regulator_in, seen, state_in, waiting_in}
use Rattle.network.proofs.Numbers.{number_few}

same_port : (q r : Port) → same_figures q r ≡ true → q ≡ r
same_port q r e =
    let a = and_parts (eqb q.rate r.rate && eqb q.latency r.latency && eqb q.stay r.stay) (eqb q.shortest r.shortest) e in
    let b = and_parts (eqb q.rate r.rate && eqb q.latency r.latency) (eqb q.stay r.stay) a.0 in
    let c = and_parts (eqb q.rate r.rate) (eqb q.latency r.latency) b.0 in
    λ i. record {
      rate = eqb-true q.rate r.rate c.0 i;
      latency = eqb-true q.latency r.latency c.1 i;
      stay = eqb-true q.stay r.stay b.1 i;
      shortest = eqb-true q.shortest r.shortest a.1 i;
    }

-- each port of a fresh cabinet is idle
each_idle : (qs : List PortModel) → all_idle qs ≡ true → (p : ℕ) → ((get_or qs p vacant).finish ≡ 0) × ((get_or qs p vacant).line ≡ [])
each_idle [] e p = (refl, refl)
each_idle (q ∷ qs) e zero =
    let a = and_parts (idle q) (all_idle qs) e in
    let b = and_parts (eqb q.finish 0) (eqb (length q.line) 0) a.0 in
    (eqb-true q.finish 0 b.0, none q.line (eqb-true (length q.line) 0 b.1))
  where
    none : (xs : List Frame) → length xs ≡ 0 → xs ≡ []
    none [] h = refl
    none (x ∷ xs) h = absurd (omega arith)
each_idle (q ∷ qs) e (suc p) = each_idle qs (and_parts (idle q) (all_idle qs) e).1 p

pub replicated : {X : Type 0} (n i : ℕ) (x d : X) → i < n → get_or (replicate n x) i d ≡ x
replicated zero i x d h = absurd (omega arith)
replicated (suc n) zero x d h = refl
replicated (suc n) (suc i) x d h = replicated n i x d (omega arith)

module _ (P : Parts) (m : Model) (kept : Kept P) (long : length P.ports ≡ 32) (e : opens P m ≡ true) where
  parted : (fresh_model m ≡ true) × (matches P m ≡ true)
  parted = and_parts (fresh_model m) (matches P m) e

  same : (length m.ports ≡ P.size.ports) × (all_below (λ p. same_figures (port_in m p).figures (port_at P p)) P.size.ports ≡ true)
  same =
      let a = and_parts (eqb (length m.ports) P.size.ports)
      (all_below (λ p. same_figures (port_in m p).figures (port_at P p)) P.size.ports) parted.1 in
      (eqb-true (length m.ports) P.size.ports a.0, a.1)

  figures : map PortModel.figures m.ports ≡ take (length m.ports) P.ports
  figures =
      ext_get_or no_port (map PortModel.figures m.ports) (take (length m.ports) P.ports)
      (omega (arith, length-map m.ports PortModel.figures, length-take (length m.ports) P.ports, same.0, kept.ports_most))
      (λ i h. let l : i < length m.ports = omega (arith, length-map m.ports PortModel.figures) in
      get_or-map PortModel.figures m.ports i vacant no_port l
      ∙ same_port (port_in m i).figures (port_at P i)
      (all_below_each (λ p. same_figures (port_in m p).figures (port_at P p)) P.size.ports same.1 i (omega (arith, same.0)))
      ∙ sym (get_or-take (length m.ports) P.ports i no_port l))

  -- the plan is as it is seen
  pub seen_is : seen P m ≡ P
  seen_is =
      λ i. record {
        ports = (ap (λ l. l ++ drop (length m.ports) P.ports) figures ∙ take-append-drop (length m.ports) P.ports) i;
        flows = P.flows;
        size = record { ports = same.0 i; flows = P.size.flows };
      }

  quiet : (eqb m.slot 0 ≡ true) × (all_idle m.ports ≡ true)
  quiet = and_parts (eqb m.slot 0) (all_idle m.ports) parted.0

  abbrev ls : List ℕ
  ls = replicate 64 4294967295

  abbrev rs : List Regulator
  rs = replicate 32 fresh_regulator

  levels : (f k : ℕ) → level_in P ls rs f k ≡ (fresh P).level f k
  levels f zero = elim (dec_lt f P.size.flows) [
    | yes l ↦ cond-true (ltb f P.size.flows) _ 0 (lt-ltb f P.size.flows l)
        ∙ omega (arith, replicated {X = ℕ} 64 f 4294967295 0 (omega (arith, kept.flows_most)), (kept.flows f l).burst_most)
        ∙ sym (cond-true (ltb f P.size.flows) (flow_at P f).burst 0 (lt-ltb f P.size.flows l))
    | no l ↦ cond-false (ltb f P.size.flows) _ 0 (le-ltb f P.size.flows (omega arith))
        ∙ sym (cond-false (ltb f P.size.flows) (flow_at P f).burst 0 (le-ltb f P.size.flows (omega arith)))
  ]
  levels f (suc k) = go (gated P f (suc k)) refl
    where
      go : (b : Bool) → gated P f (suc k) ≡ b → cond b (min (flow_at P f).burst (held (regulator_in P rs f (suc k))).level) 0 ≡ cond b (flow_at P f).burst 0
      go false q = refl
      go true q =
          let l = ltb-true f P.size.flows (and_parts (ltb f P.size.flows) (regulated (flow_at P f).mask (suc k)) q).0 in
          omega (
            arith,
            ap Regulator.level (replicated 32 (number P f (suc k)) fresh_regulator no_regulator (number_few P kept f (suc k) q)),
            (kept.flows f l).burst_most,
          )

  lines : (f k : ℕ) → waiting_in P rs f k ≡ []
  lines f k = go (gated P f k) refl
    where
      go : (b : Bool) → gated P f k ≡ b → cond b (held (regulator_in P rs f k)).line [] ≡ []
      go false q = refl
      go true q = ap (λ (r : Regulator). (held r).line) (replicated 32 (number P f k) fresh_regulator no_regulator (number_few P kept f k q))

  -- and the state is fresh
  pub state_is : state_in P m ls rs ≡ fresh P
  state_is =
      λ i. record {
        slot = eqb-true m.slot 0 quiet.0 i;
        finish = λ p. (each_idle m.ports quiet.1 p).0 i;
        line = λ p. (each_idle m.ports quiet.1 p).1 i;
        level = λ f k. levels f k i;
        waiting = λ f k. lines f k i;
      }
