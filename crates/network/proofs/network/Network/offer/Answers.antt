use Rattle.std.proofs.Common.{◌≡◌, ℕ, ◌-◌, ◌<◌, min, List, length, get_or, Err, sym, ap, ◌∙◌, arith}
use Rattle.std.proofs.lemmas.List.{get_or-map, length-map, map-set}
use Rattle.draft.specs.Plans.{flow_at}
use Rattle.service.specs.declared.frame.Frame.{Frame}
use Rattle.network.specs.Sources.{levels, no_source}
use Rattle.network.specs.Views.{seen, state_in}
use Rattle.network.specs.declared.fault.NetworkFault.{NetworkFault}
use Rattle.network.specs.declared.source.Source.{Source}
use Rattle.network.proofs.Offers.{offer_accepted, offer_refused}
use Rattle.network.proofs.network.Network.offer.Goals as goal

-- the level of a flow, among the levels alone
level_of : (ss : List Source) (f n b : ℕ) → f < length ss → n ≡ min (get_or ss f no_source).level b → n ≡ min (get_or (levels ss) f 0) b
level_of ss f n b l e = e ∙ ap (λ v. min v b) (sym (get_or-map (λ (s : Source). s.level) ss f no_source 0 l))

pub returns-in-Ok : goal.returns-in-Ok
returns-in-Ok g c =
    let w = c.args.self.now in
    let means = g.C.Cabinet.model in
    let f = c.args.flow in
    let frame : ℕ → Frame = λ s. record { flow = f; hop = 0; len = c.args.len; origin = s; entry = 0; due = 0 } in
    let inn : f < length w.sources = omega (arith, w.sized, w.plan.few, c.if-flow-self.false) in
    let n = c.min-level.result - c.args.len in
    let t =
    offer_accepted w.plan.parts (means w.cabinet) (means c.put.new.self) (levels w.sources) w.regulators f c.args.len
    c.min-level.result
    (frame c.slot.result) (ap frame c.slot.ensures) c.put.ensures.after c.if-flow-self.false c.if-len-w.false c.if-len-w-2.false
    (level_of w.sources f c.min-level.result (flow_at w.plan.parts f).burst inn c.min-level.ensures)
    c.if-level-len.false w.open c.if-not-self.false (omega (arith, inn, length-map w.sources (λ (s : Source). s.level))) c.in-Ok.ensures.answer in
    record {
      answer = t.0;
      after = ap (λ (ls : List ℕ). record { is_open = w.open; parts = seen w.plan.parts (means c.put.new.self); state = state_in w.plan.parts (means c.put.new.self) ls w.regulators })
          (map-set (λ (s : Source). s.level) w.sources f (record { level = n; first = (get_or w.sources f no_source).first })) ∙ t.1;
    }

pub returns-in-Err : goal.returns-in-Err
returns-in-Err g c =
    let w = c.args.self.now in
    let means = g.C.Cabinet.model in
    let f = c.args.flow in
    let frame : ℕ → Frame = λ s. record { flow = f; hop = 0; len = c.args.len; origin = s; entry = 0; due = 0 } in
    let inn : f < length w.sources = omega (arith, w.sized, w.plan.few, c.if-flow-self.false) in
    let t =
    offer_refused w.plan.parts (means w.cabinet) (means c.put.new.self) (levels w.sources) w.regulators f c.args.len
    c.min-level.result
    (frame c.slot.result) (ap frame c.slot.ensures) c.put.ensures.after c.if-flow-self.false c.if-len-w.false c.if-len-w-2.false
    (level_of w.sources f c.min-level.result (flow_at w.plan.parts f).burst inn c.min-level.ensures)
    c.if-level-len.false w.open c.if-not-self.false c.in-Err.fault c.in-Err.ensures.answer in
    record { answer = ap (λ (e : NetworkFault). Err e) c.turned_away.ensures ∙ t.0; after = t.1 }
