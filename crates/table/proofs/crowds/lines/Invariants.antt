use Rattle.std.proofs.Common.{◌≡◌, ◌+◌, ◌*◌, get_or, Ok}
use Rattle.refusal.specs.Firsts.{first_refusal}
use Rattle.draft.specs.Plans.{port_at}
use Rattle.plan.specs.Limits.{rates_through}
use Rattle.table.specs.Checks.{line_fits, unless}
use Rattle.table.specs.declared.fault.TableFault.TheVariants.{Crowded}
use Rattle.table.proofs.crowds.lines.Given as goal

abbrev pub invariant-loop-p : goal.invariant-loop-p
invariant-loop-p l =
    first_refusal (λ p. unless (line_fits (port_at l.plan.parts p) (get_or l.figures.loads.bits p 0 + rates_through l.plan.parts p * get_or l.figures.delays.slots p 0)) (Crowded p)) l.p ≡ Ok tt
