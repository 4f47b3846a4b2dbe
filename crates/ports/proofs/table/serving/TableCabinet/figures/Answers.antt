use Rattle.std.proofs.Common.{rules}
use borrow.Author.Tests.{tests}
use Rattle.ports.proofs.TableSteps.{by_row}
use Rattle.ports.proofs.table.serving.TableCabinet.figures.Goals as goal

pub returns : goal.returns
returns g c =
    by_row c.args.self.now c.args.port (λ q. q.figures) c.map_or.result c.row.result c.row.ensures (λ e. search (rules, tests)) (λ w e o. search (rules, tests))
