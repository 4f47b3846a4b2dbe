-- A row of a table: a port, and what the cabinet's kind keeps for it.
use Rattle.std.specs.Prelude.{◌≡◌, ℕ, ◌<◌, Bool, true, List, slice_index_or}
use Rattle.draft.specs.declared.port.Port.{Port}
use Rattle.cabinet.specs.Model.{PortModel}
use Rattle.ports.specs.Lanes.{Filled, Fits, Rises, Sound, blank_lane, lane_port}
use Rattle.ports.specs.declared.row.Row.{Row}

-- the port of a row
abbrev pub row_port : {K : Type 0} → Row K → PortModel
row_port w = lane_port w.lane

-- a row of these figures into which nothing has been put
abbrev pub blank_row : {K : Type 0} → Port → K → Row K
blank_row q k = record { lane = blank_lane q; own = k }

-- what the kind keeps, of the row
abbrev pub KeptBy : {K : Type 0} → (K → PortModel → Bool) → Row K → Type 0
KeptBy keeps w = keeps w.own (row_port w) ≡ true

-- what every row in use keeps
pub record Whole {K : Type 0} (keeps : K → PortModel → Bool) (w : Row K) : Type 0 where
  pub sound : Sound w.lane
  pub kept : KeptBy keeps w

abbrev pub FitsRow : {K : Type 0} → Row K → Type 0
FitsRow w = Fits w.lane

abbrev pub FilledRow : {K : Type 0} → Row K → Type 0
FilledRow w = Filled w.lane

abbrev pub RisesRow : {K : Type 0} → Row K → Type 0
RisesRow w = Rises w.lane

-- each of the first n, whatever is taken for what stands past the end
abbrev pub Each : {X : Type 0} → (X → Type 0) → ℕ → List X → Type 0
Each P n xs = (k : ℕ) → k < n → (d : _) → P (slice_index_or xs k d)
