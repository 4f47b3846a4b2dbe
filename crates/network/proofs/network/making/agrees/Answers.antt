use Rattle.std.proofs.Common.{◌≡◌, ℕ, Bool, true, ◌&&◌, eqb, length, sym, ap, ◌∙◌, rules}
use borrow.Author.Tests.{tests}
use Rattle.std.proofs.lemmas.Bool.{eq-eqb}
use Rattle.refusal.proofs.Chains.{all_below_by_all}
use Rattle.refusal.specs.Firsts.{all_below}
use Rattle.draft.specs.Plans.{port_at}
use Rattle.cabinet.specs.Model.{port_in}
use Rattle.network.specs.Makes.{same_figures}
use Rattle.network.proofs.network.making.agrees.Goals as goal

pub returns-then-ports : goal.returns-then-ports
returns-then-ports g c =
    let P = c.args.plan.now.parts in
    let m = g.C.Cabinet.model c.args.cabinet.now in
    let F : ℕ → Bool = λ p. same_figures (port_in m p).figures (port_at P p) in
    let all : c.all.result ≡ all_below F P.size.ports = all_below_by_all F P.size.ports _ _ _ _ (search rules) c.all.ensures.ran (λ x q k. search (rules, tests)) (λ x q k. search (rules, tests)) in
    let ports : eqb (length m.ports) P.size.ports ≡ true = eq-eqb (length m.ports) P.size.ports (sym c.ports.ensures ∙ c.if-ports.true) in
    all ∙ ap (λ (b : Bool). b && all_below F P.size.ports) (sym ports)
