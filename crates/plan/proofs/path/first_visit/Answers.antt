use Rattle.std.proofs.Common.{eqb, refl, take, rules}
use Rattle.refusal.proofs.Chains.{all_below_by_found}
use Rattle.draft.specs.Plans.{hop_port}
use Rattle.plan.proofs.Crossings.{first_named}
use Rattle.plan.proofs.path.first_visit.Goals as goal

pub returns : goal.returns
returns c =
    let w = c.args.flow in
    let k = c.args.hop in
    let xs = take k w.path.ports in
    first_named w k xs c.contains.result refl (search rules) (all_below_by_found (λ n. eqb n (hop_port w k)) xs 0 c.contains.result c.contains.ensures.cases)
