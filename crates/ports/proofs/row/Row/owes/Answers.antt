use Rattle.std.proofs.Common.{rules}
use borrow.Author.Tests.{tests}
use Rattle.ports.proofs.RowSteps.{first_owes}
use Rattle.ports.proofs.row.Row.owes.Goals as goal

pub returns : goal.returns
returns g c =
    rw (first_owes g.K.Kind.keeps c.args.self.now c.requires c.args.slot, ← c.frame.ensures) (search (rules, tests))
