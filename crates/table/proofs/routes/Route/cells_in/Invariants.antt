use Rattle.std.proofs.Common.{◌≡◌, ◌+◌, ◌*◌, Ok}
use Rattle.refusal.specs.Firsts.{first_refusal}
use Rattle.table.specs.Checks.{cell_fits, unless}
use Rattle.table.specs.declared.fault.TableFault.TheVariants.{Cell}
use Rattle.table.proofs.routes.Route.cells_in.Given as goal

abbrev pub invariant-loop-k : goal.invariant-loop-k
invariant-loop-k l = first_refusal (λ k. unless (cell_fits l.self.flow.now l.row k) (Cell (l.self.number * 8 + k))) l.k ≡ Ok tt
