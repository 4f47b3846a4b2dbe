use Rattle.std.proofs.Common.{◌+◌, ◌*◌, sym, arith}
use Rattle.table.specs.Checks.{cell_fits}
use Rattle.table.specs.declared.fault.TableFault.TheVariants.{Cell}
use Rattle.table.proofs.Turns.{tests_all, tests_at}
use Rattle.table.proofs.routes.Route.cells_in.Goals as goal

pub returns-then-not-cell_fits : goal.returns-then-not-cell_fits
returns-then-not-cell_fits c =
    rw c.place.ensures
    (tests_at (cell_fits c.args.self.now.flow.now c.args.row.now) (λ k. Cell (c.args.self.now.number * 8 + k)) 8 c.loop-k.k (omega arith) c.loop-k.invariant (sym c.if-not-cell_fits.ensures))

pub returns : goal.returns
returns c =
    tests_all (cell_fits c.args.self.now.flow.now c.args.row.now) (λ k. Cell (c.args.self.now.number * 8 + k)) 8 c.loop-k.k (omega arith) c.loop-k.invariant
