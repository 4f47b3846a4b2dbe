use Rattle.std.proofs.Common.{rules}
use borrow.Author.Tests.{tests}
use Rattle.refusal.proofs.Chains.{all_below_by_all}
use Rattle.draft.specs.Plans.{hops}
use Rattle.plan.specs.Checks.{frame_fits}
use Rattle.plan.proofs.flows.frames_fit.Goals as goal

pub returns : goal.returns
returns c = all_below_by_all (frame_fits c.args.parts.now c.args.flow) (hops c.args.flow) _ _ _ _ (search rules) c.all.ensures.ran (λ x q k. search (rules, tests)) (λ x q k. search (rules, tests))
