use Rattle.std.proofs.Common.{take, All}
use Rattle.file.specs.Writers.{Wrote, in_order}
use Rattle.file.proofs.encoder.record.put_all.Given as goal

abbrev pub invariant-loop-number : goal.invariant-loop-number
invariant-loop-number g l =
    Wrote l.initial.writer (in_order g.T.Record.bytes 0 (take l.number l.records)) l.writer
    × All g.T.Record.full (take l.number l.records)
