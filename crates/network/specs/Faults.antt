-- The number and the place of each fault of a network.
use Rattle.std.specs.Prelude.{Bool, cond, Ok, Err, Result}
use Rattle.refusal.specs.Numbers.{refused}
use Rattle.refusal.specs.declared.Refusal.{Refusal}
use Rattle.network.specs.declared.fault.NetworkFault.{NetworkFault}
use Rattle.network.specs.declared.fault.NetworkFault.TheVariants.{Closed, Finish, Full, LastSlot, Length, Level, NoFlow, Tray}

abbrev pub refusal_of : NetworkFault → Refusal
refusal_of (NoFlow flow) = refused 30 flow
refusal_of Closed = refused 31 0
refusal_of (Length flow) = refused 32 flow
refusal_of (Level flow) = refused 33 flow
refusal_of LastSlot = refused 34 0
refusal_of Tray = refused 35 0
refusal_of (Full flow) = refused 36 flow
refusal_of (Finish port) = refused 43 port

-- passed, or refused with this fault
abbrev pub unless : Bool → NetworkFault → Result (Unit {0}) NetworkFault
unless b e = cond b (Ok tt) (Err e)
