use Rattle.std.proofs.Common.{◌≡◌, ℕ, ◌+◌, ◌*◌, ◌<◌, ◌≤◌, cond, ltb, leb, length, get_or, Ok}
use Rattle.refusal.specs.Firsts.{first_refusal}
use Rattle.table.specs.Checks.{unless}
use Rattle.table.specs.Loads.{load_in}
use Rattle.table.specs.Rounds.{made, made_row}
use Rattle.table.specs.declared.fault.TableFault.TheVariants.{Climbs}
use Rattle.table.proofs.routes.Route.make_row.Given as goal

abbrev pub invariant-loop-k : goal.invariant-loop-k
invariant-loop-k l =
    (length l.row.cells ≡ 8)
    × ((j : ℕ) → j < 8 → get_or l.row.cells j 0 ≡ cond (ltb j l.k) (made l.self.flow.now l.gaps.slots j) (get_or l.initial.row.cells j 0))
    × (l.need ≡ made l.self.flow.now l.gaps.slots l.k)
    × (first_refusal (λ k. unless (leb (made l.self.flow.now l.gaps.slots k) 1000000000) (Climbs (l.self.number * 8 + k))) l.k ≡ Ok tt)
    × ((p : ℕ) → p < 32 → get_or l.sums.bits p 0 ≡ get_or l.initial.sums.bits p 0 + load_in l.self.flow.now (made_row l.self.flow.now l.gaps.slots) p l.k)
    × ((p : ℕ) → p < 32 → get_or l.sums.bits p 0 ≤ get_or l.initial.sums.bits p 0 + l.k * 4294967295)
