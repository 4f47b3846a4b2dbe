use Rattle.std.proofs.Common.{◌≡◌, ℕ, ◌*◌, ◌<◌, ◌≤◌, mul-le-mul, arith}
use Rattle.plan.specs.Limits.{rates_through}
use Rattle.plan.specs.declared.plan.Plan.{Plan}
use Rattle.table.specs.Bounds.{most_delay}
use Rattle.table.proofs.Figures.{ports_few, rates_few}
use Rattle.table.proofs.loads.PortLoads.backlog.Goals as goal

product_few : (P : Plan) (p r d : ℕ) → p < P.parts.size.ports → r ≡ rates_through P.parts p → d ≤ most_delay → r * d ≤ 10000 * most_delay
product_few P p r d h e few = mul-le-mul {n₁ = r} {m₁ = d} {n₂ = 10000} {m₂ = most_delay} (omega (arith, e, rates_few P.parts P.kept p h)) few

pub overflow_mul-result : goal.overflow_mul-result
overflow_mul-result c =
    omega (arith, product_few c.args.plan.now c.args.p c.args.rates c.args.delay c.requires.port c.requires.rates c.requires.few)

pub overflow_add-result : goal.overflow_add-result
overflow_add-result c =
    let P = c.args.plan.now in
    let p = c.args.p in
    omega (arith, c.args.self.now.few p (ports_few P.parts P.kept p c.requires.port), product_few P p c.args.rates c.args.delay c.requires.port c.requires.rates c.requires.few)
