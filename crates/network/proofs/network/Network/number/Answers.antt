use Rattle.std.proofs.Common.{◌≡◌, true, ltb, sym, ◌∙◌, arith}
use Rattle.std.proofs.lemmas.Bool.{and_from, lt-ltb}
use Rattle.draft.specs.Masks.{regulated}
use Rattle.draft.specs.Plans.{flow_at}
use Rattle.plan.proofs.Keeps.{kept_of}
use Rattle.model.specs.Networks.{gated}
use Rattle.network.proofs.Numbers.{firsts_few, number_few, number_is}
use Rattle.network.proofs.network.Network.number.Goals as goal

pub overflow_add-result : goal.overflow_add-result
overflow_add-result g c =
    let w = c.args.self.now in
    let few = firsts_few w.plan.parts (kept_of w.plan.parts w.plan.kept) c.args.flow c.if-flow-self.false in
    record { fits = omega (arith, few, w.numbered c.args.flow c.if-flow-self.false, c.before-then-has.ensures.few) }

pub returns-then-has : goal.returns-then-has
returns-then-has g c =
    let w = c.args.self.now in
    let P = w.plan.parts in
    let f = c.args.flow in
    let set : regulated (flow_at P f).mask c.args.hop ≡ true = sym c.has.ensures ∙ c.if-has.true in
    let there : gated P f c.args.hop ≡ true =
    and_from (ltb f P.size.flows) (regulated (flow_at P f).mask c.args.hop) (lt-ltb f P.size.flows c.if-flow-self.false) set in
    let is = number_is P f c.args.hop _ _ set (w.numbered f c.if-flow-self.false) c.before-then-has.ensures.value in
    (there, is, omega (arith, is, number_few P (kept_of P w.plan.kept) f c.args.hop there), c.if-flow-self.false)
