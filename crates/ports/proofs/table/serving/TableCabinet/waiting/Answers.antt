use Rattle.std.proofs.Common.{◌≡◌, length, rules, sym, ◌∙◌}
use borrow.Author.Tests.{tests}
use Rattle.ports.specs.Laws.{line_long}
use Rattle.ports.proofs.TableSteps.{by_row}
use Rattle.ports.proofs.table.serving.TableCabinet.waiting.Goals as goal

pub returns : goal.returns
returns g c =
    by_row c.args.self.now c.args.port (λ q. length q.line) c.map_or.result c.row.result c.row.ensures (λ e. search (rules, tests))
    (λ w e o. let is : c.map_or.result ≡ w.now.lane.waiting = search (rules, tests) in is ∙ sym (line_long w.now.lane o.sound.filled))
