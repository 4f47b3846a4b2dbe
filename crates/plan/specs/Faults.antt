-- The number and the place of each fault of a plan; a fault of its file is told as the file tells it.
use Rattle.refusal.specs.Numbers.{refused}
use Rattle.refusal.specs.declared.Refusal.{Refusal}
use Rattle.file.specs.Faults as files
use Rattle.plan.specs.declared.fault.PlanFault.{PlanFault}
use Rattle.plan.specs.declared.fault.PlanFault.TheVariants.{Bucket, Figures, File, Frames, Mask, Path, Rates, Stay}

abbrev pub refusal_of : PlanFault → Refusal
refusal_of (File fault) = files.refusal_of fault
refusal_of (Figures port) = refused 10 port
refusal_of (Stay port) = refused 11 port
refusal_of (Bucket flow) = refused 12 flow
refusal_of (Path flow) = refused 13 flow
refusal_of (Frames flow) = refused 14 flow
refusal_of (Mask flow) = refused 15 flow
refusal_of (Rates port) = refused 16 port
