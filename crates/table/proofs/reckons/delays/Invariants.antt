use Rattle.std.proofs.Common.{◌≡◌, ℕ, ◌<◌, cond, ltb, length, get_or}
use Rattle.draft.specs.Plans.{port_at}
use Rattle.table.specs.Loads.{delay_by}
use Rattle.table.proofs.reckons.delays.Given as goal

abbrev pub invariant-loop-p : goal.invariant-loop-p
invariant-loop-p l =
    (length l.found.slots ≡ 32)
    × ((k : ℕ) → k < 32 → get_or l.found.slots k 0 ≡ cond (ltb k l.p) (delay_by (port_at l.plan.parts k) (get_or l.loads.bits k 0)) 0)
