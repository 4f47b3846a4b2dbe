use Rattle.std.proofs.Common.{take}
use Rattle.printing.specs.Prints.{Printed}
use Rattle.printing.proofs.text.text.Given as goal

abbrev pub invariant-loop-b : goal.invariant-loop-b
invariant-loop-b l = Printed l.initial.out (take l.b-index l.bytes) l.out
