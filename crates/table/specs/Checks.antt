-- The first fault of a table: cells past their limit, then low cells, then crowded ports, then crowded regulators.
use Rattle.std.specs.Prelude.{ℕ, ◌+◌, ◌*◌, ◌/◌, Bool, true, cond, List, is_ok, Ok, Err, Result, ◌==◌, nat_le, nat_lt, slice_index}
use Rattle.refusal.specs.Firsts.{and_then, first_refusal}
use Rattle.draft.specs.Masks.{regulated}
use Rattle.draft.specs.Plans.{flow_at, hops, port_at, row_at}
use Rattle.draft.specs.declared.flow.Flow.{Flow}
use Rattle.draft.specs.declared.parts.Parts.{Parts}
use Rattle.draft.specs.declared.port.Port.{Port}
use Rattle.draft.specs.declared.table.Row.{Row}
use Rattle.draft.specs.declared.table.Table.{Table}
use Rattle.plan.specs.Limits.{rates_through}
use Rattle.table.specs.Loads.{backlog, delays, gaps}
use Rattle.table.specs.Paths.{need_by, stretch_by}
use Rattle.table.specs.declared.fault.TableFault.{TableFault}
use Rattle.table.specs.declared.fault.TableFault.TheVariants.{Cell, Crowded, Low}

-- passed, or refused with this fault
abbrev pub unless : Bool → TableFault → Result (Unit {0}) TableFault
unless b e = cond b (Ok tt) (Err e)

-- at hop k a used cell is within the limit, an unused one is 0
abbrev pub cell_within : Flow → ℕ → ℕ → Bool
cell_within w k cell = cond (nat_lt k (hops w)) (nat_le cell 1000000000) (cell == 0)

-- so is the cell of a row
abbrev pub cell_fits : Flow → Row → ℕ → Bool
cell_fits w r k = cell_within w k (slice_index r.cells k)

abbrev pub cells_in : ℕ → Flow → Row → Result (Unit {0}) TableFault
cells_in f w r = first_refusal (λ k. unless (cell_fits w r k) (Cell (f * 8 + k))) 8

abbrev pub cells_answer : Parts → Table → Result (Unit {0}) TableFault
cells_answer P t = first_refusal (λ f. cells_in f (flow_at P f) (row_at t f)) P.size.flows

-- a cell reaches its need
abbrev pub reaches : Flow → List ℕ → Row → ℕ → Bool
reaches w gs r k = nat_le (need_by w gs r k) (slice_index r.cells k)

abbrev pub lows_in : ℕ → Flow → List ℕ → Row → Result (Unit {0}) TableFault
lows_in f w gs r = first_refusal (λ k. unless (reaches w gs r k) (Low (f * 8 + k))) (hops w)

abbrev pub lows_answer : Parts → Table → Result (Unit {0}) TableFault
lows_answer P t = first_refusal (λ f. lows_in f (flow_at P f) (gaps P t) (row_at t f)) P.size.flows

-- the first low cell by the gaps of the ports
abbrev pub lows_by : Parts → List ℕ → Table → Result (Unit {0}) TableFault
lows_by P gs t = first_refusal (λ f. lows_in f (flow_at P f) gs (row_at t f)) P.size.flows

-- no more frames can wait at a port than its line holds
abbrev pub line_fits : Port → ℕ → Bool
line_fits q backlog = nat_le (backlog / q.shortest) 32

abbrev pub lines_answer : Parts → Table → Result (Unit {0}) TableFault
lines_answer P t = first_refusal (λ p. unless (line_fits (port_at P p) (backlog P t p)) (Crowded p)) P.size.ports

-- no more frames can wait before hop k than a regulator holds, by its stretch
abbrev pub regulator_fits : Flow → ℕ → ℕ → Bool
regulator_fits w stretch k = cond (regulated w.mask k) (nat_le ((w.burst + w.rate * stretch) / w.shortest) 16) true

abbrev pub regulators_in : ℕ → Flow → List ℕ → Result (Unit {0}) TableFault
regulators_in f w ds = first_refusal (λ k. unless (regulator_fits w (stretch_by w ds k) k) (Crowded (32 + (f * 8 + k)))) (hops w)

abbrev pub regulators_answer : Parts → Table → Result (Unit {0}) TableFault
regulators_answer P t = first_refusal (λ f. regulators_in f (flow_at P f) (delays P t)) P.size.flows

-- the first crowded port by the loads and delays of the ports, and the first crowded regulator by the delays
abbrev pub lines_by : Parts → List ℕ → List ℕ → Result (Unit {0}) TableFault
lines_by P bs ds =
    first_refusal (λ p. unless (line_fits (port_at P p) (slice_index bs p + rates_through P p * slice_index ds p)) (Crowded p)) P.size.ports

abbrev pub regulators_by : Parts → List ℕ → Result (Unit {0}) TableFault
regulators_by P ds = first_refusal (λ f. regulators_in f (flow_at P f) ds) P.size.flows

abbrev pub crowds_answer : Parts → Table → Result (Unit {0}) TableFault
crowds_answer P t = and_then (lines_answer P t) (regulators_answer P t)

-- the first fault of a table
abbrev pub table_answer : Parts → Table → Result (Unit {0}) TableFault
table_answer P t = and_then (cells_answer P t) (and_then (lows_answer P t) (crowds_answer P t))

-- no fault is found
abbrev pub accepts : Parts → Table → Bool
accepts P t = is_ok (table_answer P t)
