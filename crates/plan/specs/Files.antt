-- The answer to a plan file: its own first refusal, then the plan's.
use Rattle.std.specs.Prelude.{ℕ, List, Ok, Err, Result}
use Rattle.draft.specs.declared.draft.Draft.{Draft}
use Rattle.file.specs.Reads.{read}
use Rattle.file.specs.declared.fault.FileFault.{FileFault}
use Rattle.plan.specs.Checks.{limits_answer}
use Rattle.plan.specs.declared.fault.PlanFault.{PlanFault}
use Rattle.plan.specs.declared.fault.PlanFault.TheVariants.{File}

abbrev pub checked : Draft → Result (Unit {0}) PlanFault → Result Draft PlanFault
checked d (Ok u) = Ok d
checked d (Err e) = Err e

abbrev pub answered : Result Draft FileFault → Result Draft PlanFault
answered (Err e) = Err (File e)
answered (Ok d) = checked d (limits_answer d.parts)

abbrev pub file_answer : List ℕ → Result Draft PlanFault
file_answer bytes = answered (read bytes)
