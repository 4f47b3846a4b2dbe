use Rattle.std.proofs.Common.{◌≡◌, ◌≤◌, Ok}
use Rattle.refusal.specs.Firsts.{first_refusal}
use Rattle.plan.specs.Checks.{flow_answer}
use Rattle.plan.specs.Limits.{regulators_of}
use Rattle.plan.proofs.flows.check_flows.Given as goal

abbrev pub invariant-loop-f : goal.invariant-loop-f
invariant-loop-f l = (first_refusal (flow_answer l.parts) l.f ≡ Ok tt) × (l.regulators ≡ regulators_of l.parts l.f) × (l.regulators ≤ 32)
