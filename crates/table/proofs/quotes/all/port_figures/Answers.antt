use Rattle.std.proofs.Common.{◌≡◌, ℕ, ◌+◌, ◌*◌, ◌<◌, Bool, true, false, cond, ltb, List, get_or, refl, ap, ◌∙◌, arith}
use Rattle.std.proofs.lemmas.List.{get_or-replicate}
use Rattle.draft.specs.Plans.{port_at}
use Rattle.draft.specs.declared.parts.Parts.{Parts}
use Rattle.draft.specs.declared.table.Table.{Table}
use Rattle.plan.specs.Limits.{rates_through}
use Rattle.table.specs.Loads.{backlog, delay, delay_by, load}
use Rattle.table.specs.Reckons.{Reckons}
use Rattle.table.specs.declared.quotes.figures.PortFigures.{PortFigures}
use Rattle.table.specs.declared.loads.Reckoned.{Reckoned}
use Rattle.table.proofs.Places.{front_filled}
use Rattle.table.proofs.Rows.{backlog_by, delays_at}
use Rattle.table.proofs.quotes.all.port_figures.Goals as goal

abbrev both : ℕ → ℕ → PortFigures
both d b = record { delay = d; backlog = b }

-- figures that are 0 together
apart : (v : Bool) (d b : ℕ) → cond v (both d b) (both 0 0) ≡ both (cond v d 0) (cond v b 0)
apart true d b = refl
apart false d b = refl

again : (v : Bool) (d : ℕ) → cond v (cond v d 0) 0 ≡ cond v d 0
again true d = refl
again false d = refl

reckoned : (P : Parts) (t : Table) (r : Reckoned) → Reckons P t r → (p : ℕ) → p < 32
    → cond (ltb p P.size.ports) (both (get_or r.delays.slots p 0) (get_or r.loads.bits p 0 + rates_through P p * get_or r.delays.slots p 0)) (both 0 0)
    ≡ both (delay P t p) (backlog P t p)
reckoned P t r k p lt =
    let v = ltb p P.size.ports in
    let d = ap (λ (ds : List ℕ). cond v (get_or ds p 0) 0) k.delays ∙ ap (λ (d : ℕ). cond v d 0) (delays_at P t p lt) ∙ again v (delay_by (port_at P p) (load P t p)) in
    apart v (get_or r.delays.slots p 0) (get_or r.loads.bits p 0 + rates_through P p * get_or r.delays.slots p 0)
    ∙ ap (λ (d : ℕ). both d (cond v (get_or r.loads.bits p 0 + rates_through P p * get_or r.delays.slots p 0) 0)) d
    ∙ ap (both (delay P t p)) (backlog_by P t r.loads.bits r.delays.slots k.loads k.delays p lt)

pub returns : goal.returns
returns c = λ t k p lt.
    let P = c.args.plan.now.parts in
    let r = c.args.reckoned.now in
    let x = c.default-found.result in
    let e : x ≡ both 0 0 = ap (λ (d : ℕ). both d x.backlog) c.default-found.ensures.0 ∙ ap (both 0) c.default-found.ensures.1 in
    front_filled (λ p. both (get_or r.delays.slots p 0) (get_or r.loads.bits p 0 + rates_through P p * get_or r.delays.slots p 0)) (λ _. both 0 0) (both 0 0) c.loop-p.used _ P.size.ports 32 c.loop-p.invariant.0
    (λ j l. c.loop-p.invariant.1 j (omega arith)) (λ j l. get_or-replicate 32 j x (both 0 0) l ∙ e) p lt
    ∙ reckoned P t r k p lt
