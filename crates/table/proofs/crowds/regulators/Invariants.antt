use Rattle.std.proofs.Common.{◌≡◌, Ok}
use Rattle.refusal.specs.Firsts.{first_refusal}
use Rattle.draft.specs.Plans.{flow_at}
use Rattle.table.specs.Checks.{regulators_in}
use Rattle.table.proofs.crowds.regulators.Given as goal

abbrev pub invariant-loop-f : goal.invariant-loop-f
invariant-loop-f l = first_refusal (λ f. regulators_in f (flow_at l.plan.parts f) l.delays.slots) l.f ≡ Ok tt
