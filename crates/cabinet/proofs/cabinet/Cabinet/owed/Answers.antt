use Rattle.std.proofs.Common.{◌≡◌, ℕ, ◌-◌, length, rules, refl, ap, sym, ◌∙◌, zero-add, arith}
use borrow.Author.Tests.{tests}
use Rattle.std.proofs.lemmas.Iterator.{YieldsList-from_range}
use Rattle.std.proofs.lemmas.Iterator.Search.{find_from_yields_List}
use Rattle.std.proofs.lemmas.Iterator.Adapters.{option_map_id}
use Rattle.cabinet.specs.Advances.{has_due}
use Rattle.cabinet.specs.Model.{port_in}
use Rattle.cabinet.proofs.Searches.{owed_by_number}
use Rattle.cabinet.proofs.cabinet.Cabinet.owed.Goals as goal

pub returns : goal.returns
returns g c =
    let m = g.Self.Cabinet.model c.args.self.now in
    let n : c.ports.result - 0 ≡ length m.ports = omega (arith, c.ports.ensures) in
    let test = λ (p : ℕ). has_due m.slot (port_in m p).line in
    sym (option_map_id c.find.result) ∙
    find_from_yields_List test _ _ c.find.result c.find.ensures.ran (YieldsList-from_range 0 c.ports.result (length m.ports) refl n) (λ x b q k. search (rules, tests))
    ∙ owed_by_number m.slot test m.ports 0 (λ i l. ap test (zero-add i))
