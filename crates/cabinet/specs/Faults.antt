-- The number and the place of each fault of a cabinet.
use Rattle.std.specs.Prelude.{Bool, cond, Ok, Err, Result}
use Rattle.refusal.specs.Numbers.{refused}
use Rattle.refusal.specs.declared.Refusal.{Refusal}
use Rattle.cabinet.specs.declared.fault.CabinetFault.{CabinetFault}
use Rattle.cabinet.specs.declared.fault.CabinetFault.TheVariants.{Finish, Full, LastSlot, Length, NoPort, Owed}

abbrev pub refusal_of : CabinetFault → Refusal
refusal_of (NoPort port) = refused 40 port
refusal_of (Length port) = refused 41 port
refusal_of (Full port) = refused 42 port
refusal_of (Finish port) = refused 43 port
refusal_of (Owed port) = refused 44 port
refusal_of LastSlot = refused 44 32

-- passed, or refused with this fault
abbrev pub unless : Bool → CabinetFault → Result (Unit {0}) CabinetFault
unless b e = cond b (Ok tt) (Err e)
