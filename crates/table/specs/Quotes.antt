-- What the two calls answer: a proposal's quote, and the least table's with the scratch that then holds it.
use Rattle.std.specs.Prelude.{◌≡◌, ℕ, ◌/◌, ◌%◌, cond, ◌||◌, List, ◌++◌, map, length, drop, Ok, Err, Result, ◌==◌, nat_lt}
use Rattle.std.specs.List.{range_with_len}
use Rattle.refusal.specs.Firsts.{and_then}
use Rattle.draft.specs.Plans.{cell}
use Rattle.draft.specs.declared.parts.Parts.{Parts}
use Rattle.draft.specs.declared.table.Proposal.{Proposal}
use Rattle.draft.specs.declared.table.Table.{Table}
use Rattle.table.specs.Accepts.{Accepted}
use Rattle.table.specs.Checks.{crowds_answer, table_answer}
use Rattle.table.specs.Leasts.{Excluded, LeastFound}
use Rattle.table.specs.Rounds.{Found, find, gives}
use Rattle.table.specs.declared.fault.TableFault.{TableFault}
use Rattle.table.specs.declared.fault.TableFault.TheVariants.{Rounds, Rows, Scratch}
use Rattle.table.specs.declared.quotes.Quote.{Quote}

-- a quote's plan, table and rounds
pub record Quoted : Type 0 where
  pub parts : Parts
  pub table : Table
  pub rounds : ℕ

-- what an answer tells
abbrev pub told : Result Quote TableFault → Result Quoted TableFault
told (Ok q) = Ok (record { parts = q.plan.parts; table = q.table; rounds = q.rounds })
told (Err e) = Err e

-- the quote by these rows, or the first fault
abbrev pub quote_answer : Parts → Proposal → Result Quoted TableFault
quote_answer P x =
    cond (x.rows == P.size.flows)
    (gives (table_answer P x.table) (record { parts = P; table = x.table; rounds = 0 }))
    (Err (Rows x.rows))

-- a quote is given exactly where the rows are one a flow and the table is accepted
abbrev pub Exactly : Parts → Proposal → Result Quote TableFault → Type 0
Exactly P x (Ok q) = (x.rows ≡ P.size.flows) × Accepted P x.table
Exactly P x (Err e) = x.rows ≡ P.size.flows → Accepted P x.table → ⊥

-- how many rounds made the least table, unless it is crowded
abbrev pub rounds_answer : Parts → Found → Result ℕ TableFault
rounds_answer P u = gives (and_then u.answer (crowds_answer P u.table)) u.rounds

-- what was found, unless it is crowded
abbrev pub found_answer : Parts → Found → Result Quoted TableFault
found_answer P u =
    gives (and_then u.answer (crowds_answer P u.table)) (record { parts = P; table = u.table; rounds = u.rounds })

-- the quote by the least table, or why there is none: the limits of the rounds and of the scratch come first
abbrev pub least_answer : Parts → ℕ → ℕ → Result Quoted TableFault
least_answer P n room =
    cond (nat_lt n 1 || nat_lt 100000 n) (Err Rounds) (cond (nat_lt room 512) (Err Scratch) (found_answer P (find P n)))

-- a quote's table is the least, made by the first round that changes nothing; a climb or a crowd shows that no table is accepted
abbrev pub LeastOrNone : Parts → Result Quote TableFault → Type 0
LeastOrNone P (Ok q) = LeastFound P q.table q.rounds
LeastOrNone P (Err e) = Excluded P e

-- a table's cells, row after row
unfoldable pub flat : Table → List ℕ
flat t = map (λ i. cell t (i / 8) (i % 8)) (range_with_len 0 512)

-- the last table made, and then the rest as it was
abbrev pub scratch_after : Parts → ℕ → List ℕ → List ℕ
scratch_after P n xs =
    cond (nat_lt n 1 || nat_lt 100000 n) xs (cond (nat_lt (length xs) 512) xs (flat (find P n).table ++ drop 512 xs))
