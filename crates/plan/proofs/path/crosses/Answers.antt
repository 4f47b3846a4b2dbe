use Rattle.std.proofs.Common.{◌∙◌, eqb, rules}
use borrow.Author.Tests.{tests}
use Rattle.refusal.proofs.Chains.{all_below_by_any_of}
use Rattle.plan.proofs.Crossings.{crosses_named}
use Rattle.plan.proofs.path.crosses.Goals as goal

pub returns : goal.returns
returns c =
    let p = c.args.port in
    let xs = c.crossed.result.now in
    all_below_by_any_of (λ n. eqb n p) xs 0 _ _ _ c.any.ensures.ran (search rules) (λ x q k. search (rules, tests)) (λ x q k. search (rules, tests))
    ∙ crosses_named c.args.flow p xs c.crossed.ensures.value c.crossed.ensures.long
