use Rattle.plan.proofs.Keeps.{kept_of}
use Rattle.plan.proofs.Sums.{simples_of}
use Rattle.plan.proofs.plan.Plan.rates.Goals as goal

pub rates-requires : goal.rates-requires
rates-requires c =
    let P = c.args.self.now in
    record { size = P.few; paths = simples_of P.parts (kept_of P.parts P.kept) }
