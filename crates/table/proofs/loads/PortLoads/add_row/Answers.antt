use Rattle.std.proofs.Common.{◌≡◌, ℕ, ◌+◌, ◌<◌, ◌≤◌, cond, eqb, length, get_or, take, ◌∙◌, add-one, arith}
use Rattle.std.proofs.lemmas.Bool.{cond_both}
use Rattle.std.proofs.lemmas.List.{get_or-take, length-take, length_push}
use Rattle.std.proofs.lemmas.Slice.Zip.{zip_turn}
use Rattle.draft.specs.Plans.{hop_port}
use Rattle.table.proofs.loads.PortLoads.add_row.Goals as goal

pub loop-port-preserved : goal.loop-port-preserved
loop-port-preserved c =
    let w = c.args.route.now.flow.now in
    let r = c.args.row.now in
    let n = length c.loop-port.yielded in
    let t = zip_turn (take c.hops.result w.path.ports) r.cells c.loop-port.yielded c.into_iter-port-iterator.result c.loop-port.port-iterator c.next.new.self c.next.result (cc) (cc) c.loop-port.yielded_by (c.in-Some.port, c.in-Some.cell) c.in-Some.is c.next.ensures.steps in
    let h : c.from.result ≡ hop_port w n = c.from.ensures ∙ t.2 0 ∙ get_or-take c.hops.result w.path.ports n 0 (omega (arith, t.0, length-take c.hops.result w.path.ports)) in
    let x : c.from-in-loop-port.result ≡ get_or r.cells n 0 = c.from-in-loop-port.ensures ∙ t.3 0 in
    let cell : ℕ → ℕ = λ p. cond (eqb (hop_port w n) p) (get_or r.cells n 0) 0 in
    let more : (p : ℕ) → p < 32 → get_or c.add.new.self.bits p 0 ≡ get_or c.loop-port.self.bits p 0 + cell p = λ p lt. rw (h, x) at (c.add.ensures p lt) in (
      λ p lt. rw (length_push, add-one n) (omega (arith, more p lt, c.loop-port.invariant.0 p lt)),
      λ p lt.
          let v : get_or r.cells n 0 ≤ 4294967295 = omega (arith, x) in
          let b : cell p ≤ 4294967295 = cond_both (eqb (hop_port w n) p) (get_or r.cells n 0) 0 (λ n. n ≤ 4294967295) (λ _. v) (λ _. omega arith) in
          rw length_push (omega (arith, more p lt, c.loop-port.invariant.1 p lt)),
    )
