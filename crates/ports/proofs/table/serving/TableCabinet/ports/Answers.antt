use Rattle.std.proofs.Common.{sym}
use Rattle.ports.specs.Laws.{ports_long}
use Rattle.ports.proofs.table.serving.TableCabinet.ports.Goals as goal

pub returns : goal.returns
returns g c = sym (ports_long c.args.self.now)
