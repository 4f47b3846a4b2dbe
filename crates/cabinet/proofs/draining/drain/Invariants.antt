use Rattle.std.proofs.Common.{◌≡◌, ◌-◌, length, take}
use Rattle.cabinet.specs.Drains.{Fetched, Laid}
use Rattle.cabinet.specs.Model.{port_in}
use Rattle.cabinet.proofs.draining.drain.Given as goal

abbrev pub invariant-loop-frame : goal.invariant-loop-frame
invariant-loop-frame g l =
    let m = g.C.Cabinet.model l.initial.cabinet in
    (l.tray.places.ghost_name ≡ l.initial.tray.places.ghost_name)
    × Fetched m l.port l.came (g.C.Cabinet.model l.cabinet)
    × Laid l.initial.tray (take l.came (port_in m l.port).line) l.tray

abbrev pub decreases-loop-frame : goal.decreases-loop-frame
decreases-loop-frame g l = length (port_in (g.C.Cabinet.model l.initial.cabinet) l.port).line - l.came
