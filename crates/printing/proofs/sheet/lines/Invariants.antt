use Rattle.printing.specs.Sheets.{flow_line, port_line}
use Rattle.printing.proofs.Pastes.{FirstLines}
use Rattle.printing.proofs.sheet.lines.Given as goal

abbrev pub invariant-loop-p : goal.invariant-loop-p
invariant-loop-p l = FirstLines l.initial.out (port_line l.quote.plan.parts l.quote.table) 50 l.p l.out

abbrev pub invariant-loop-f : goal.invariant-loop-f
invariant-loop-f l = FirstLines l.initial.out (flow_line l.quote.plan.parts l.quote.table) 29 l.f l.out
