use Rattle.std.proofs.Common.{◌≡◌, ℕ, ◌+◌, ◌*◌, ◌/◌, ◌%◌, ◌<◌, cond, ltb, length, get_or}
use Rattle.draft.specs.Plans.{cell}
use Rattle.table.proofs.search.lay.Given as goal

abbrev pub invariant-loop-f : goal.invariant-loop-f
invariant-loop-f l =
    (j : ℕ) → j < length l.scratch → get_or l.scratch j 0 ≡ cond (ltb j (l.f * 8)) (cell l.table (j / 8) (j % 8)) (get_or l.fn.scratch j 0)

abbrev pub invariant-loop-k : goal.invariant-loop-k
invariant-loop-k l =
    (j : ℕ) → j < length l.scratch → get_or l.scratch j 0 ≡ cond (ltb j (l.f * 8 + l.k)) (cell l.table (j / 8) (j % 8)) (get_or l.fn.scratch j 0)
