use Rattle.std.proofs.Common.{arith}
use Rattle.printing.proofs.Widths.{port_width}
use Rattle.printing.proofs.sheet.port_line.Goals as goal

pub returns-clause-short : goal.returns-clause-short
returns-clause-short c = port_width c.args.p c.args.delay c.args.backlog (omega (arith, c.requires)) (omega arith) (omega arith)
