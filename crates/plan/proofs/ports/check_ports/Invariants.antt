use Rattle.std.proofs.Common.{◌≡◌, Ok}
use Rattle.refusal.specs.Firsts.{first_refusal}
use Rattle.plan.specs.Checks.{port_answer}
use Rattle.plan.proofs.ports.check_ports.Given as goal

abbrev pub invariant-loop-p : goal.invariant-loop-p
invariant-loop-p l = first_refusal (port_answer l.parts) l.p ≡ Ok tt
