-- Which tables are accepted, and which of them is the least.
use Rattle.std.specs.Prelude.{◌≡◌, ℕ, ◌+◌, ◌*◌, ◌/◌, ◌<◌, ◌≤◌, true, Ok, Err, Result}
use Rattle.draft.specs.Masks.{regulated}
use Rattle.draft.specs.Plans.{cell, flow_at, hops, port_at}
use Rattle.draft.specs.declared.parts.Parts.{Parts}
use Rattle.draft.specs.declared.table.Table.{Table}
use Rattle.table.specs.Loads.{backlog}
use Rattle.table.specs.Paths.{need, stretch}
use Rattle.table.specs.declared.fault.TableFault.{TableFault}

-- of every used cell
abbrev pub Cells : Parts → (ℕ → ℕ → Type 0) → Type 0
Cells P R = (f : ℕ) → f < P.size.flows → (k : ℕ) → k < hops (flow_at P f) → R f k

-- each cell reaches its need, none passes the limit, a cell past the path is 0, and neither lines nor regulators are crowded
pub record Accepted (P : Parts) (t : Table) : Type 0 where
  pub reached : Cells P (λ f k. need P t f k ≤ cell t f k)
  pub within : Cells P (λ f k. cell t f k ≤ 1000000000)
  pub unused : (f : ℕ) → f < P.size.flows → (k : ℕ) → hops (flow_at P f) ≤ k → k < 8 → cell t f k ≡ 0
  pub lines : (p : ℕ) → p < P.size.ports → backlog P t p / (port_at P p).shortest ≤ 32
  pub regulators : Cells P (λ f k.
      regulated (flow_at P f).mask k ≡ true → ((flow_at P f).burst + (flow_at P f).rate * stretch P t f k) / (flow_at P f).shortest ≤ 16)

-- no used cell of u is above that of t
abbrev pub Below : Parts → Table → Table → Type 0
Below P u t = Cells P (λ f k. cell u f k ≤ cell t f k)

-- accepted, and below every accepted table
pub record Least (P : Parts) (u : Table) : Type 0 where
  pub accepted : Accepted P u
  pub below : (t : Table) → Accepted P t → Below P u t

-- no table is accepted
abbrev pub Hopeless : Parts → Type 0
Hopeless P = (t : Table) → Accepted P t → ⊥

-- what an answer says of a table: none is given exactly where it is accepted
abbrev pub Judged : Parts → Table → Result (Unit {0}) TableFault → Type 0
Judged P t (Ok u) = Accepted P t
Judged P t (Err e) = Accepted P t → ⊥
