use Rattle.std.proofs.Common.{◌∙◌}
use Rattle.table.proofs.Figures.{ports_few}
use Rattle.table.proofs.Rows.{delay_at}
use Rattle.table.proofs.reckons.delay.Goals as goal

pub returns : goal.returns
returns c =
    let P = c.args.plan.now in
    let p = c.args.p in
    c.delay.ensures.value ∙ delay_at P.parts c.args.table.now _ p c.if-p-plan.false (c.loads.ensures p (ports_few P.parts P.kept p c.if-p-plan.false))
