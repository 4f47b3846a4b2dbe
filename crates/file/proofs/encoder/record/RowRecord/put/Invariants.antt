use Rattle.file.specs.Writers.{Wrote}
use Rattle.file.specs.Writes.{cell_bytes, records}
use Rattle.file.proofs.encoder.record.RowRecord.put.Given as goal

abbrev pub invariant-loop-cell : goal.invariant-loop-cell
invariant-loop-cell l = Wrote l.initial.writer (records (cell_bytes l.self) l.cell-index) l.writer
