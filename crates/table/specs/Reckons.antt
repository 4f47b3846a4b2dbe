-- What is reckoned of the ports once, before a table is checked.
use Rattle.std.specs.Prelude.{◌≡◌, ℕ, ◌<◌, List, slice_index}
use Rattle.draft.specs.declared.parts.Parts.{Parts}
use Rattle.draft.specs.declared.table.Table.{Table}
use Rattle.table.specs.Loads.{delays, gaps, load}
use Rattle.table.specs.declared.loads.Reckoned.{Reckoned}

-- these are the loads of the ports
abbrev pub Loaded : Parts → Table → List ℕ → Type 0
Loaded P t bs = (p : ℕ) → p < 32 → slice_index bs p ≡ load P t p

-- they are the loads, delays and gaps that the table makes
pub record Reckons (P : Parts) (t : Table) (r : Reckoned) : Type 0 where
  pub loads : Loaded P t r.loads.bits
  pub delays : r.delays.slots ≡ delays P t
  pub gaps : r.gaps.slots ≡ gaps P t
