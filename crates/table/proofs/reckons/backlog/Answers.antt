use Rattle.std.proofs.Common.{◌∙◌}
use Rattle.table.proofs.Figures.{ports_few}
use Rattle.table.proofs.Rows.{backlog_is}
use Rattle.table.proofs.reckons.backlog.Goals as goal

pub returns : goal.returns
returns c =
    let P = c.args.plan.now in
    let p = c.args.p in
    c.backlog.ensures ∙ backlog_is P.parts c.args.table.now _ _ p c.if-p-plan.false (c.loads-loads.ensures p (ports_few P.parts P.kept p c.if-p-plan.false)) c.delay-delay.ensures.value
