use Rattle.std.proofs.Common.{◌≡◌, ◌-◌, length, rules, refl, ap, sym, ◌∙◌, zero-add, arith}
use borrow.Author.Tests.{tests}
use Rattle.std.proofs.lemmas.Iterator.{YieldsList-from_range}
use Rattle.std.proofs.lemmas.Iterator.Search.{all_from_yields_List}
use Rattle.cabinet.specs.Fresh.{idle}
use Rattle.cabinet.specs.Model.{port_in, vacant}
use Rattle.cabinet.proofs.Searches.{all_by_number}
use Rattle.cabinet.proofs.cabinet.Cabinet.fresh.Goals as goal

pub returns-then-slot-eq0 : goal.returns-then-slot-eq0
returns-then-slot-eq0 g c =
    let m = g.Self.Cabinet.model c.args.self.now in
    let n : c.ports.result - 0 ≡ length m.ports = omega (arith, c.ports.ensures) in
    let e : m.slot ≡ 0 = sym c.slot.ensures ∙ c.if-slot-eq0.true in
    rw e
    (all_from_yields_List (λ p. idle (port_in m p)) _ _ c.all.result c.all.ensures.ran (YieldsList-from_range 0 c.ports.result (length m.ports) refl n) (λ x b q k. search (rules, tests))
    ∙ all_by_number idle (λ p. idle (port_in m p)) vacant m.ports 0 (λ i l. ap (λ k. idle (port_in m k)) (zero-add i)))
