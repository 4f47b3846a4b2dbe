-- What the search for the least table has shown when it ends.
use Rattle.std.specs.Prelude.{◌≡◌, ℕ, zero, suc, ◌-◌, ◌<◌, ◌≤◌, Ok, Err, Result, ◌≢◌}
use Rattle.draft.specs.Plans.{cell, flow_at, hops}
use Rattle.draft.specs.declared.parts.Parts.{Parts}
use Rattle.draft.specs.declared.table.Table.{Table}
use Rattle.table.specs.Accepts.{Accepted, Below, Cells, Hopeless, Least}
use Rattle.table.specs.Loads.{gaps}
use Rattle.table.specs.Paths.{need}
use Rattle.table.specs.Rounds.{made_by, start}
use Rattle.table.specs.declared.fault.TableFault.{TableFault}
use Rattle.table.specs.declared.fault.TableFault.TheVariants.{Cell, Climbs, Crowded, Low, Rounds, Rows, Scratch}

-- the table after n rounds
abbrev pub after : Parts → ℕ → Table
after P zero = start P
after P (suc n) = made_by P (gaps P (after P n))

-- round n is the first that changes nothing
pub record FirstStill (P : Parts) (n : ℕ) : Type 0 where
  pub made : 1 ≤ n
  pub still : after P n ≡ after P (n - 1)
  pub first : (m : ℕ) → suc m < n → after P (suc m) ≢ after P m

-- the least table, made by the first round that changes nothing
pub record LeastFound (P : Parts) (t : Table) (n : ℕ) : Type 0 where
  pub least : Least P t
  pub made : t ≡ after P n
  pub rounds : FirstStill P n

-- what a refusal shows: where a need climbs, or the least table is crowded, no table is accepted
abbrev pub Excluded : Parts → TableFault → Type 0
Excluded P (Climbs place) = Hopeless P
Excluded P (Crowded place) = Hopeless P
Excluded P (Rows rows) = Unit {0}
Excluded P (Low place) = Unit {0}
Excluded P (Cell place) = Unit {0}
Excluded P Rounds = Unit {0}
Excluded P Scratch = Unit {0}

-- a table that its rounds have made and left as it is, whether crowded or not
pub record Settled (P : Parts) (t : Table) (n : ℕ) : Type 0 where
  pub reached : Cells P (λ f k. need P t f k ≤ cell t f k)
  pub within : Cells P (λ f k. cell t f k ≤ 1000000000)
  pub unused : (f : ℕ) → f < P.size.flows → (k : ℕ) → hops (flow_at P f) ≤ k → k < 8 → cell t f k ≡ 0
  pub below : (u : Table) → Accepted P u → Below P t u
  pub made : t ≡ after P n
  pub rounds : FirstStill P n

-- what the rounds show, by their answer
abbrev pub Sought : Parts → Table → Result ℕ TableFault → Type 0
Sought P t (Ok n) = Settled P t n
Sought P t (Err e) = Excluded P e

-- what the rounds and the limits of lines and regulators show
abbrev pub Shown : Parts → Table → Result ℕ TableFault → Type 0
Shown P t (Ok n) = LeastFound P t n
Shown P t (Err e) = Excluded P e
