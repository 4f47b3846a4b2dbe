use Rattle.std.proofs.Common.{◌≡◌, Ok}
use Rattle.refusal.specs.Firsts.{first_refusal}
use Rattle.draft.specs.Plans.{flow_at, row_at}
use Rattle.table.specs.Checks.{cells_in}
use Rattle.table.proofs.check.cells.Given as goal

abbrev pub invariant-loop-f : goal.invariant-loop-f
invariant-loop-f l = first_refusal (λ f. cells_in f (flow_at l.plan.parts f) (row_at l.table f)) l.f ≡ Ok tt
