use Rattle.std.proofs.Common.{◌≡◌, ℕ, ◌*◌, ◌<◌, ◌≤◌, cond, ltb, length, get_or, Ok}
use Rattle.refusal.specs.Firsts.{first_refusal}
use Rattle.draft.specs.Plans.{flow_at, no_row}
use Rattle.table.specs.Bounds.{most_row}
use Rattle.table.specs.Loads.{load_of}
use Rattle.table.specs.Rounds.{climb_in, made_by, made_row, still_by}
use Rattle.table.proofs.rounds.make_rows.Given as goal

abbrev pub invariant-loop-f : goal.invariant-loop-f
invariant-loop-f l =
    (length l.used ≡ l.plan.parts.size.flows)
    × ((g : ℕ) → g < l.plan.parts.size.flows → get_or l.used g no_row ≡ cond (ltb g l.f) (made_row (flow_at l.plan.parts g) l.gaps.slots) (get_or l.fn.rows g no_row))
    × (first_refusal (λ f. climb_in f (flow_at l.plan.parts f) l.gaps.slots) l.f ≡ Ok tt)
    × (l.still ≡ still_by l.plan.parts l.gaps.slots (record { rows = l.fn.rows }) l.f)
    × ((p : ℕ) → p < 32 → get_or l.sums.bits p 0 ≡ load_of l.plan.parts (made_by l.plan.parts l.gaps.slots) p l.f)
    × ((p : ℕ) → p < 32 → get_or l.sums.bits p 0 ≤ l.f * most_row)
