use Rattle.table.proofs.Exact.{judged}
use Rattle.table.proofs.check.check.Goals as goal

pub returns-clause-exact : goal.returns-clause-exact
returns-clause-exact c =
    let P = c.args.plan.now in
    judged P.parts P.kept c.args.table c.first_fault.result c.first_fault.ensures
