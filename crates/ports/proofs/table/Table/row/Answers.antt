use Rattle.ports.proofs.TableSteps.{row_at}
use Rattle.ports.proofs.table.Table.row.Goals as goal

pub returns : goal.returns
returns g c = row_at c.args.self.now c.args.port c.get.result c.get.ensures.lookup
