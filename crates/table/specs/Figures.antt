-- Every figure of a quote at once, port by port and flow by flow.
use Rattle.std.specs.Prelude.{◌≡◌, ℕ, ◌<◌, slice_index, slice_index_or}
use Rattle.draft.specs.declared.parts.Parts.{Parts}
use Rattle.draft.specs.declared.table.Table.{Table}
use Rattle.table.specs.Loads.{backlog, delay}
use Rattle.table.specs.Paths.{flow_delay}
use Rattle.table.specs.declared.quotes.figures.Figures.{Figures}
use Rattle.table.specs.declared.quotes.figures.PortFigures.{PortFigures}

-- those of port p
abbrev pub port_figures : Figures → ℕ → PortFigures
port_figures r p = slice_index_or r.ports p (record { delay = 0; backlog = 0 })

-- they are those of this plan by this table
pub record Figured (P : Parts) (t : Table) (r : Figures) : Type 0 where
  pub delays : (p : ℕ) → p < 32 → (port_figures r p).delay ≡ delay P t p
  pub backlogs : (p : ℕ) → p < 32 → (port_figures r p).backlog ≡ backlog P t p
  pub flows : (f : ℕ) → f < 64 → slice_index r.flows f ≡ flow_delay P t f
