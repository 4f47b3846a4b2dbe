use Rattle.std.proofs.Common.{◌≡◌, ℕ, ◌+◌, ◌*◌, ◌<◌, length, get_or, slice_index_or}
use Rattle.plan.specs.Limits.{rates_through}
use Rattle.table.proofs.quotes.all.port_figures.Given as goal

abbrev pub invariant-loop-p : goal.invariant-loop-p
invariant-loop-p l =
    (length l.used ≡ l.plan.parts.size.ports)
    × ((k : ℕ) → k < l.p → slice_index_or l.used k (record { delay = 0; backlog = 0 }) ≡ record { delay = get_or l.reckoned.delays.slots k 0; backlog = get_or l.reckoned.loads.bits k 0 + rates_through l.plan.parts k * get_or l.reckoned.delays.slots k 0 })
