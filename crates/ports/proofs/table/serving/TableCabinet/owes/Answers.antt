use Rattle.std.proofs.Common.{rules}
use borrow.Author.Tests.{tests}
use Rattle.cabinet.specs.Advances.{has_due}
use Rattle.ports.proofs.TableSteps.{by_row}
use Rattle.ports.proofs.table.serving.TableCabinet.owes.Goals as goal

pub returns : goal.returns
returns g c =
    by_row c.args.self.now c.args.port (λ q. has_due c.args.self.now.slot q.line) c.is_some_and.result c.row.result c.row.ensures (λ e. search (rules, tests)) (λ w e o. search (rules, tests))
