use Rattle.std.proofs.Common.{◌≡◌, ◌-◌}
use Rattle.table.specs.Loads.{gaps}
use Rattle.table.specs.Rounds.{Shaped, find, least_from}
use Rattle.table.proofs.search.find.Given as goal

abbrev pub invariant-loop-done : goal.invariant-loop-done
invariant-loop-done l =
    (least_from l.plan.parts (l.allowed - l.done) l.done l.table ≡ find l.plan.parts l.allowed)
    × (l.gaps.slots ≡ gaps l.plan.parts l.table) × Shaped l.plan.parts l.table
