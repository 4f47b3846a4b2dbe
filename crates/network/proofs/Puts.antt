-- What a put into the cabinet makes of the network's meaning.
use Rattle.std.proofs.Common.{◌≡◌, ℕ, ◌<◌, Bool, true, false, cond, ltb, List, [], ◌∷◌, ◌++◌, map, length, drop, set, Ok, sym, refl, ap, ◌∙◌, arith, length-set}
use native.Mathlib.Decide.{dec_lt}
use Rattle.std.proofs.lemmas.List.{get_or_append_left, get_or-map, get_or_past, length-map, map-set, set-get_or}
use Rattle.std.proofs.lemmas.Bool.{cond-false, cond-true, le-ltb, lt-ltb, ltb-true}
use Rattle.refusal.specs.Firsts.{and_then}
use Rattle.draft.specs.Plans.{no_port, port_at}
use Rattle.draft.specs.declared.parts.Parts.{Parts}
use Rattle.draft.specs.declared.port.Port.{Port}
use Rattle.service.specs.Entries.{entered, finish_after}
use Rattle.service.specs.declared.frame.Frame.{Frame}
use Rattle.cabinet.specs.Faults.{unless}
use Rattle.cabinet.specs.Model.{Model, PortModel, port_in, vacant, with_port}
use Rattle.cabinet.specs.Puts.{line_answer, lined, put_answer}
use Rattle.cabinet.specs.declared.fault.CabinetFault.TheVariants.{NoPort}
use Rattle.regulator.specs.declared.regulator.Regulator.{Regulator}
use Rattle.model.specs.Networks.{placed, route, with_at}
use Rattle.network.specs.Views.{seen, state_in}
use Rattle.network.proofs.Writes.{written}

-- the figures of a port are the cabinet's
pub figures_seen : (P : Parts) (m : Model) (p : ℕ) → p < length m.ports → port_at (seen P m) p ≡ (port_in m p).figures
figures_seen P m p h =
    get_or_append_left (map PortModel.figures m.ports) (drop (length m.ports) P.ports) no_port p (omega (arith, length-map m.ports PortModel.figures))
    ∙ get_or-map PortModel.figures m.ports p vacant no_port h

pub figures_told : (P : Parts) (m : Model) (p : ℕ) → (port_in m p).figures ≡ cond (ltb p (length m.ports)) (port_at (seen P m) p) no_port
figures_told P m p = elim (dec_lt p (length m.ports)) [
  | yes h ↦ sym (cond-true (ltb p (length m.ports)) (port_at (seen P m) p) no_port (lt-ltb p (length m.ports) h) ∙ figures_seen P m p h)
  | no h ↦ ap PortModel.figures (get_or_past m.ports p vacant (omega arith))
      ∙ sym (cond-false (ltb p (length m.ports)) (port_at (seen P m) p) no_port (le-ltb p (length m.ports) (omega arith)))
]

-- a port that keeps its figures leaves the plan as it is seen
pub seen_kept : (P : Parts) (m : Model) (p : ℕ) (q : PortModel) → q.figures ≡ (port_in m p).figures → seen P (with_port m p q) ≡ seen P m
seen_kept P m p q e =
    λ i. record {
      ports = figures i ++ drop (long i) P.ports;
      flows = P.flows;
      size = record { ports = long i; flows = P.size.flows };
    }
  where
    long : length (set m.ports p q) ≡ length m.ports
    long = length-set m.ports p q

    figures : map PortModel.figures (set m.ports p q) ≡ map PortModel.figures m.ports
    figures =
        map-set PortModel.figures m.ports p q ∙ ap (set (map PortModel.figures m.ports) p) e
        ∙ sym (map-set PortModel.figures m.ports p (port_in m p)) ∙ ap (map PortModel.figures) (set-get_or m.ports p vacant)

module _ (P : Parts) (m : Model) (ls : List ℕ) (rs : List Regulator) (x : Frame) (inn : route P x.flow x.hop < length m.ports) where
  abbrev p : ℕ
  p = route P x.flow x.hop

  abbrev q : PortModel
  q = lined m.slot (port_in m p) x

  finishes : (λ r. (port_in (with_port m p q) r).finish) ≡ (placed (seen P m) (state_in P m ls rs) x).finish
  finishes =
      written PortModel.finish m.ports p q vacant inn
      ∙ ap (λ (f : Port). with_at p (finish_after f m.slot (port_in m p).finish x.len) (λ r. (port_in m r).finish)) (sym (figures_seen P m p inn))

  lines : (λ r. (port_in (with_port m p q) r).line) ≡ (placed (seen P m) (state_in P m ls rs) x).line
  lines =
      written PortModel.line m.ports p q vacant inn
      ∙ ap (λ (f : Port). with_at p ((port_in m p).line ++ entered f m.slot (port_in m p).finish x ∷ []) (λ r. (port_in m r).line)) (sym (figures_seen P m p inn))

  -- the frame has entered the port of its hop
  pub put_shows : state_in P (with_port m p q) ls rs ≡ placed (seen P m) (state_in P m ls rs) x
  put_shows =
      λ i. record {
        slot = m.slot;
        finish = finishes i;
        line = lines i;
        level = (state_in P m ls rs).level;
        waiting = (state_in P m ls rs).waiting;
      }

-- a put that is not refused
pub put_fits : (m : Model) (p : ℕ) (x : Frame) → Ok tt ≡ put_answer m p x → p < length m.ports
put_fits m p x e = go (ltb p (length m.ports)) refl e
  where
    go : (b : Bool) → ltb p (length m.ports) ≡ b → Ok tt ≡ and_then (unless b (NoPort p)) (line_answer m.slot p (port_in m p) x) → p < length m.ports
    go true q e = ltb-true p (length m.ports) q
    go false q e = absurd (let z : ◌≡◌ {A = ℕ} 0 1 = cc in omega arith)
