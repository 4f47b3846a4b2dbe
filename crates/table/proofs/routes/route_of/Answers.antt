use Rattle.table.proofs.Figures.{flows_few, routed_of}
use Rattle.table.proofs.routes.route_of.Goals as goal

pub invariant_of-result : goal.invariant_of-result
invariant_of-result c =
    let P = c.args.plan.now.parts in
    let kept = c.args.plan.now.kept in
    record { among = flows_few P kept c.args.f c.requires; routed = routed_of P kept c.args.f c.requires }
