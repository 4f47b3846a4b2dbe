use Rattle.std.proofs.Common.{take}
use Rattle.std.specs.List.{flat_map}
use Rattle.printing.specs.Lines.{field}
use Rattle.printing.specs.Prints.{Printed}
use Rattle.printing.proofs.text.line.Given as goal

abbrev pub invariant-loop-n : goal.invariant-loop-n
invariant-loop-n l = Printed l.initial.out (flat_map field (take l.n-index l.numbers)) l.out
