use Rattle.std.proofs.Common.{◌≡◌, ◌≤◌, Bool, true, ◌&&◌, leb, refl, sym, ap, ◌∙◌, arith, rules}
use borrow.Author.Tests.{tests}
use Rattle.std.proofs.lemmas.Bool.{and_from, le-leb}
use Rattle.refusal.specs.Firsts.{all_below}
use Rattle.refusal.proofs.Chains.{all_below_by_all}
use Rattle.draft.specs.Plans.{hops}
use Rattle.plan.specs.Checks.{byte_fits}
use Rattle.plan.proofs.path.path_fits.Goals as goal

pub returns-then-hops-le-MOST_HOPS : goal.returns-then-hops-le-MOST_HOPS
returns-then-hops-le-MOST_HOPS c =
    let B = byte_fits c.args.ports c.args.flow in
    let all = all_below_by_all B 8 _ _ _ _ refl c.all.ensures.ran (λ x q k. search (rules, tests)) (λ x q k. search (rules, tests)) in
    let n = hops c.args.flow in
    let least : 1 ≤ n = omega arith in
    let most : n ≤ 8 = omega arith in
    let few : leb 1 n && leb n 8 ≡ true = and_from (leb 1 n) (leb n 8) (le-leb 1 n least) (le-leb n 8 most) in
    all ∙ ap (λ (b : Bool). b && all_below B 8) (sym few)
