use Rattle.std.proofs.Common.{◌≡◌, Ok}
use Rattle.refusal.specs.Firsts.{first_refusal}
use Rattle.plan.specs.Checks.{rates_answer}
use Rattle.plan.proofs.rates.check_rates.Given as goal

abbrev pub invariant-loop-p : goal.invariant-loop-p
invariant-loop-p l = first_refusal (rates_answer l.parts) l.p ≡ Ok tt
