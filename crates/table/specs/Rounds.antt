-- The rounds towards the least table.
use Rattle.std.specs.Prelude.{◌≡◌, ℕ, zero, suc, ◌+◌, ◌*◌, ◌<◌, ◌≤◌, Bool, cond, List, [], ◌∷◌, map, length, Ok, Err, Result, nat_eq, nat_le, nat_lt, slice_index}
use Rattle.std.specs.List.{range_with_len}
use Rattle.refusal.specs.Firsts.{all_below, first_refusal}
use Rattle.draft.specs.Plans.{flow_at, hops, row_at}
use Rattle.draft.specs.declared.flow.Flow.{Flow}
use Rattle.draft.specs.declared.parts.Parts.{Parts}
use Rattle.draft.specs.declared.table.Row.{Row}
use Rattle.draft.specs.declared.table.Table.{Table}
use Rattle.table.specs.Checks.{unless}
use Rattle.table.specs.Loads.{gaps}
use Rattle.table.specs.Paths.{need_after}
use Rattle.table.specs.declared.fault.TableFault.{TableFault}
use Rattle.table.specs.declared.fault.TableFault.TheVariants.{Climbs, Rounds}

-- where the rounds end: the last table made, how many they were, and why it is not the least
pub record Found : Type 0 where
  pub table : Table
  pub rounds : ℕ
  pub answer : Result (Unit {0}) TableFault

-- what a round makes, and whether the table before was the same
pub record Made : Type 0 where
  pub table : Table
  pub still : Bool

abbrev pub zero_row : Row
zero_row = record { cells = 0 ∷ 0 ∷ 0 ∷ 0 ∷ 0 ∷ 0 ∷ 0 ∷ 0 ∷ [] }

-- a row whose used cells are as g says; a cell past the path is 0
unfoldable pub row_by : Flow → (ℕ → ℕ) → Row
row_by w g = record { cells = map (λ k. cond (nat_lt k (hops w)) (g k) 0) (range_with_len 0 8) }

-- a table whose rows are as g says, one a flow; a row past them is 0
unfoldable pub table_by : Parts → (ℕ → Row) → Table
table_by P g = record { rows = map (λ f. cond (nat_lt f P.size.flows) (g f) zero_row) (range_with_len 0 64) }

-- a row of eight cells, 0 past the path
abbrev pub Tidy : Flow → Row → Type 0
Tidy w r = (length r.cells ≡ 8) × ((k : ℕ) → hops w ≤ k → k < 8 → slice_index r.cells k ≡ 0)

-- a table of such rows, 0 past the flows
pub record Shaped (P : Parts) (t : Table) : Type 0 where
  pub rows : length t.rows ≡ 64
  pub used : (f : ℕ) → f < P.size.flows → Tidy (flow_at P f) (row_at t f)
  pub rest : (f : ℕ) → P.size.flows ≤ f → f < 64 → row_at t f ≡ zero_row

-- each used cell at the flow's burst
abbrev pub start_row : Flow → Row
start_row w = row_by w (λ _. w.burst)

abbrev pub start : Parts → Table
start P = table_by P (λ f. start_row (flow_at P f))

-- each cell its need, by the gaps of the table before and the cell before it as just made
abbrev pub made : Flow → List ℕ → ℕ → ℕ
made w gs zero = w.burst
made w gs (suc k) = need_after w gs (made w gs k) k

abbrev pub made_row : Flow → List ℕ → Row
made_row w gs = row_by w (made w gs)

abbrev pub made_by : Parts → List ℕ → Table
made_by P gs = table_by P (λ f. made_row (flow_at P f) gs)

-- the first need of a flow that passes the limit
abbrev pub climb_in : ℕ → Flow → List ℕ → Result (Unit {0}) TableFault
climb_in f w gs = first_refusal (λ k. unless (nat_le (made w gs k) 1000000000) (Climbs (f * 8 + k))) (hops w)

-- and the first of all
abbrev pub climb : Parts → List ℕ → Result (Unit {0}) TableFault
climb P gs = first_refusal (λ f. climb_in f (flow_at P f) gs) P.size.flows

-- what is given where nothing is refused
abbrev pub gives : {X : Type 0} → Result (Unit {0}) TableFault → X → Result X TableFault
gives (Err e) x = Err e
gives (Ok u) x = Ok x

-- the first n cells of a flow are as a round makes them
abbrev pub same_row : Flow → List ℕ → Row → ℕ → Bool
same_row w gs r n = all_below (λ k. nat_eq (made w gs k) (slice_index r.cells k)) n

-- a round leaves the first n rows as they are
abbrev pub still_by : Parts → List ℕ → Table → ℕ → Bool
still_by P gs t n = all_below (λ f. same_row (flow_at P f) gs (row_at t f) (hops (flow_at P f))) n

abbrev pub round_by : Parts → List ℕ → Table → Result Made TableFault
round_by P gs t = gives (climb P gs) (record { table = made_by P gs; still = still_by P gs t P.size.flows })

-- one round
abbrev pub round : Parts → Table → Result Made TableFault
round P t = round_by P (gaps P t) t

-- what a round leads to: a climb, the end, or the next round
abbrev pub settle : Result Made TableFault → Table → ℕ → (Table → Found) → Found
settle (Err e) t d go = record { table = t; rounds = d; answer = Err e }
settle (Ok m) t d go = cond m.still (record { table = m.table; rounds = d + 1; answer = Ok tt }) (go m.table)

-- n more rounds are allowed, d are made
abbrev pub least_from : Parts → ℕ → ℕ → Table → Found
least_from P zero d t = record { table = t; rounds = d; answer = Err Rounds }
least_from P (suc n) d t = settle (round P t) t d (least_from P n (d + 1))

-- what the rounds find, n allowed
abbrev pub find : Parts → ℕ → Found
find P n = least_from P n 0 (start P)

-- how many rounds there were, or why they ended
abbrev pub rounds_told : Found → Result ℕ TableFault
rounds_told u = gives u.answer u.rounds
