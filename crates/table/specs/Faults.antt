-- The number and the place of each fault of a table.
use Rattle.refusal.specs.Numbers.{refused}
use Rattle.refusal.specs.declared.Refusal.{Refusal}
use Rattle.table.specs.declared.fault.TableFault.{TableFault}
use Rattle.table.specs.declared.fault.TableFault.TheVariants.{Cell, Climbs, Crowded, Low, Rounds, Rows, Scratch}

abbrev pub refusal_of : TableFault → Refusal
refusal_of (Rows rows) = refused 20 rows
refusal_of (Low place) = refused 21 place
refusal_of (Cell place) = refused 22 place
refusal_of (Crowded place) = refused 23 place
refusal_of (Climbs place) = refused 24 place
refusal_of Rounds = refused 25 0
refusal_of Scratch = refused 26 0
