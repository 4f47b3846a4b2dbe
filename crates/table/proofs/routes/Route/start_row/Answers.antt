use Rattle.table.proofs.Tables.{row_filled}
use Rattle.table.proofs.routes.Route.start_row.Goals as goal

pub returns : goal.returns
returns c =
    row_filled c.args.self.now.flow.now c.args.self.now.flow.now.burst c.hops.result c.fill.new.self c.hops.ensures (c.args.self.now.routed.hops_most) (c.fill.ensures.after (λ y e. e))
