use Rattle.std.proofs.Common.{rules}
use borrow.Author.Tests.{tests}
use Rattle.ports.proofs.TableSteps.{by_word}
use Rattle.ports.proofs.table.Table.ready.Goals as goal

pub returns : goal.returns
returns g c =
    let both = by_word c.args.self.now c.args.port c.is_some_and.result c.row.result c.row.ensures (λ e. search (rules, tests)) (λ w e o. search (rules, tests)) in
    record { value = both.0; timely = both.1 }
