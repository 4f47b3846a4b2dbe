use Rattle.std.proofs.Common.{refl, rules}
use borrow.Author.Tests.{tests}
use Rattle.refusal.proofs.Chains.{all_below_by_all}
use Rattle.plan.specs.Checks.{bit_fits}
use Rattle.plan.proofs.flows.mask_fits.Goals as goal

pub returns : goal.returns
returns c = all_below_by_all (bit_fits c.args.flow) 8 _ _ _ _ refl c.all.ensures.ran (λ x q k. search (rules, tests)) (λ x q k. search (rules, tests))
