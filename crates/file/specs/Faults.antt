-- The number and the place of each fault of a file.
use Rattle.refusal.specs.Numbers.{refused}
use Rattle.refusal.specs.declared.Refusal.{Refusal}
use Rattle.file.specs.declared.fault.FileFault.{FileFault}
use Rattle.file.specs.declared.fault.FileFault.TheVariants.{Count, Cut, Excess, Kind, Order, Trailing}

abbrev pub refusal_of : FileFault → Refusal
refusal_of (Cut place) = refused 1 place
refusal_of (Kind place) = refused 2 place
refusal_of (Order place) = refused 3 place
refusal_of (Count place) = refused 4 place
refusal_of (Trailing place) = refused 5 place
refusal_of (Excess place) = refused 6 place
