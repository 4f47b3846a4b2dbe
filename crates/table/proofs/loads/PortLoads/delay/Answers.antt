use Rattle.std.proofs.Common.{get_or, arith}
use Rattle.table.proofs.Figures.{ports_few}
use Rattle.table.proofs.Rows.{delay_few}
use Rattle.table.proofs.loads.PortLoads.delay.Goals as goal

pub overflow_add-result : goal.overflow_add-result
overflow_add-result c =
    let P = c.args.plan.now in
    let p = c.args.p in
    let b = c.args.self.now in
    omega (arith, c.up.ensures.value, delay_few P.parts P.kept p (get_or b.bits p 0) c.requires (b.few p (ports_few P.parts P.kept p c.requires)))

pub returns-clause-few : goal.returns-clause-few
returns-clause-few c =
    let P = c.args.plan.now in
    let p = c.args.p in
    let b = c.args.self.now in
    let u = rw c.from-2.ensures at c.up.ensures.value in
    omega (arith, delay_few P.parts P.kept p (get_or b.bits p 0) c.requires (b.few p (ports_few P.parts P.kept p c.requires)))
