use Rattle.std.proofs.Common.{arith}
use Rattle.plan.proofs.Keeps.{kept_of}
use Rattle.plan.proofs.plan.Plan.rates_through.Goals as goal

pub returns : goal.returns
returns c =
    let P = c.args.self.now in
    record {
      value = c.rates_through.ensures;
      within = λ h. omega (arith, c.rates_through.ensures, (kept_of P.parts P.kept).rates c.args.port h);
    }
