use Rattle.std.proofs.Common.{◌≡◌, ℕ, ◌+◌, ◌*◌, ◌<◌, ◌≤◌, length, get_or}
use Rattle.table.specs.Loads.{load_in}
use Rattle.table.proofs.loads.PortLoads.add_row.Given as goal

abbrev pub invariant-loop-port : goal.invariant-loop-port
invariant-loop-port l =
    ((p : ℕ) → p < 32 → get_or l.self.bits p 0 ≡ get_or l.initial.self.bits p 0 + load_in l.route.flow.now l.row p (length l.yielded))
    × ((p : ℕ) → p < 32 → get_or l.self.bits p 0 ≤ get_or l.initial.self.bits p 0 + length l.yielded * 4294967295)
