use Rattle.std.proofs.Common.{arith}
use Rattle.printing.proofs.Widths.{no_width}
use Rattle.printing.proofs.sheet.no_line.Goals as goal

pub returns-clause-short : goal.returns-clause-short
returns-clause-short c =
    let r = c.args.refusal in
    omega (arith, no_width r.layer r.number r.place (omega arith) (omega arith) (omega arith))
