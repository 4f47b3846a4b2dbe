use Rattle.std.proofs.Common.{◌≡◌, ◌+◌, ◌<◌, ◌≤◌, ap, ◌∙◌, arith}
use Rattle.std.proofs.lemmas.Bool.{le-leb, lt-leb}
use Rattle.rounding.specs.Quotients.{up}
use Rattle.prompt.specs.WireLaws.{wire_early, wire_small}
use Rattle.prompt.specs.Wires.{own_after}
use Rattle.prompt.proofs.wire.WireKind.ready.Goals as goal

pub returns-then-done-slot : goal.returns-then-done-slot
returns-then-done-slot c = λ q l.
    let w = c.args.self.now in
    let x = c.args.frame in
    let own = own_after w.speed w.sent x in
    let o : c.own_after.result ≡ own = c.own_after.ensures (wire_small w q x l) in
    let u : c.up.result ≡ up own w.speed = c.up.ensures.value ∙ ap (λ n. up n c.from.result) o ∙ ap (up own) c.from.ensures in
    let h : up own w.speed + w.latency ≤ c.args.slot =
    omega (arith, u, o, wire_small w q x l, wire_early w q l.well l.kept, c.up.ensures.within, c.from-2.ensures, c.if-done-slot.true) in
    rw (le-leb (up own w.speed + w.latency) c.args.slot h) c.has_stayed.ensures

pub returns-else-done-slot : goal.returns-else-done-slot
returns-else-done-slot c = λ q l.
    let w = c.args.self.now in
    let x = c.args.frame in
    let own = own_after w.speed w.sent x in
    let o : c.own_after.result ≡ own = c.own_after.ensures (wire_small w q x l) in
    let u : c.up.result ≡ up own w.speed = c.up.ensures.value ∙ ap (λ n. up n c.from.result) o ∙ ap (up own) c.from.ensures in
    let h : c.args.slot < up own w.speed + w.latency =
    omega (arith, u, o, wire_small w q x l, wire_early w q l.well l.kept, c.up.ensures.within, c.from-2.ensures, c.if-done-slot.false) in
    rw (lt-leb (up own w.speed + w.latency) c.args.slot h) (lt-leb _ c.args.slot c.if-done-slot.false)
