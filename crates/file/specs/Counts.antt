-- How much a draft holds.
use Rattle.std.specs.Prelude.{◌≡◌, ℕ, ◌≤◌, length}
use Rattle.draft.specs.declared.draft.Draft.{Draft}
use Rattle.draft.specs.declared.flow.Flow.{Flow}
use Rattle.draft.specs.declared.table.Row.{Row}

abbrev pub ports : Draft → ℕ
ports d = d.parts.size.ports

abbrev pub flows : Draft → ℕ
flows d = d.parts.size.flows

-- how many rows are proposed
abbrev pub rows : Draft → ℕ
rows d = d.proposal.rows

-- no more than a file may hold
abbrev pub Few : Draft → Type 0
Few d = (ports d ≤ 32) × (flows d ≤ 64) × (rows d ≤ 64)

-- eight bytes of path; eight cells
abbrev pub HasPath : Flow → Type 0
HasPath w = length w.path.ports ≡ 8

abbrev pub HasCells : Row → Type 0
HasCells r = length r.cells ≡ 8
