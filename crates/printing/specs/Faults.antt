-- The number and the place of each fault of a sheet; those below are told as their layers tell them.
use Rattle.refusal.specs.Numbers.{refused}
use Rattle.refusal.specs.declared.Refusal.{Refusal}
use Rattle.plan.specs.Faults as plans
use Rattle.table.specs.Faults as tables
use Rattle.printing.specs.declared.fault.SheetFault.{SheetFault}
use Rattle.printing.specs.declared.fault.SheetFault.TheVariants.{Place, Plan, Table}

abbrev pub refusal_of : SheetFault → Refusal
refusal_of (Plan fault) = plans.refusal_of fault
refusal_of (Table fault) = tables.refusal_of fault
refusal_of Place = refused 27 0
