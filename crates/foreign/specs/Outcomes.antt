-- What the exported outcome is, as a number.
use Rattle.std.specs.Prelude.{ℕ, ◌+◌, Ok, Err, Result}
use Rattle.table.specs.Quotes.{Quoted}
use Rattle.printing.specs.Faults.{refusal_of}
use Rattle.printing.specs.declared.fault.SheetFault.{SheetFault}

-- the number of the refusal, or 256 and the rounds
abbrev pub outcome : Result Quoted SheetFault → ℕ
outcome (Ok q) = 256 + q.rounds
outcome (Err e) = (refusal_of e).number
