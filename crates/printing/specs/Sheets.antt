-- The sheet of a plan file, over what the layers below answer.
use Rattle.std.specs.Prelude.{ℕ, zero, suc, cond, List, [], ◌∷◌, ◌++◌, length, Ok, Err, codes, Result, ◌==◌, nat_lt}
use Rattle.std.proofs.Math.Seq.{paste}
use Rattle.draft.specs.declared.draft.Draft.{Draft}
use Rattle.draft.specs.declared.parts.Parts.{Parts}
use Rattle.draft.specs.declared.table.Table.{Table}
use Rattle.plan.specs.Files.{file_answer}
use Rattle.plan.specs.declared.fault.PlanFault.{PlanFault}
use Rattle.refusal.specs.declared.Refusal.{Refusal}
use Rattle.table.specs.Loads.{backlog, delay}
use Rattle.table.specs.Paths.{flow_delay}
use Rattle.table.specs.Quotes.{Quoted, least_answer, quote_answer}
use Rattle.table.specs.declared.quotes.Quote.{Quote}
use Rattle.table.specs.declared.fault.TableFault.{TableFault}
use Rattle.printing.specs.Faults.{refusal_of}
use Rattle.printing.specs.Lines.{line}
use Rattle.printing.specs.declared.fault.SheetFault.{SheetFault}
use Rattle.printing.specs.declared.fault.SheetFault.TheVariants.{Place, Plan, Table as InTable}

-- a quote's plan, table and rounds
abbrev pub quoted : Quote → Quoted
quoted q = record { parts = q.plan.parts; table = q.table; rounds = q.rounds }

abbrev pub of_table : Result Quoted TableFault → Result Quoted SheetFault
of_table (Ok q) = Ok q
of_table (Err e) = Err (InTable e)

-- by the rows where any are proposed, else by the least table with 100,000 rounds
abbrev pub draft_quote : Draft → Result Quoted TableFault
draft_quote d = cond (d.proposal.rows == 0) (least_answer d.parts 100000 512) (quote_answer d.parts d.proposal)

abbrev pub of_plan : Result Draft PlanFault → Result Quoted SheetFault
of_plan (Ok d) = of_table (draft_quote d)
of_plan (Err e) = Err (Plan e)

-- the quote of a plan file, or its first refusal
abbrev pub sheet_quote : List ℕ → Result Quoted SheetFault
sheet_quote bytes = of_plan (file_answer bytes)

abbrev pub kit_line : Parts → ℕ → List ℕ
kit_line P rounds = line (codes "KIT") (P.size.ports ∷ P.size.flows ∷ rounds ∷ [])

abbrev pub port_line : Parts → Table → ℕ → List ℕ
port_line P t p = line (codes "PORT") (p ∷ delay P t p ∷ backlog P t p ∷ [])

abbrev pub flow_line : Parts → Table → ℕ → List ℕ
flow_line P t f = line (codes "FLOW") (f ∷ flow_delay P t f ∷ [])

-- the first n lines of these
abbrev pub lines_of : (ℕ → List ℕ) → ℕ → List ℕ
lines_of l zero = []
lines_of l (suc n) = lines_of l n ++ l n

-- the sheet of a quote
abbrev pub quote_sheet : Quoted → List ℕ
quote_sheet q =
    kit_line q.parts q.rounds
    ++ lines_of (port_line q.parts q.table) q.parts.size.ports
    ++ lines_of (flow_line q.parts q.table) q.parts.size.flows

-- the line that says no
abbrev pub no_line : Refusal → List ℕ
no_line r = line (codes "NO") (r.layer ∷ r.number ∷ r.place ∷ [])

abbrev pub answer_sheet : Result Quoted SheetFault → List ℕ
answer_sheet (Ok q) = quote_sheet q
answer_sheet (Err e) = no_line (refusal_of e)

-- the sheet of a plan file
abbrev pub sheet : List ℕ → List ℕ
sheet bytes = answer_sheet (sheet_quote bytes)

-- how many bytes are printed, in a place of this length
abbrev pub print_answer : List ℕ → ℕ → Result ℕ SheetFault
print_answer bytes room = cond (nat_lt room 4096) (Err Place) (Ok (length (sheet bytes)))

-- the place afterwards: the sheet at its front, and the rest as it was
abbrev pub place_after : List ℕ → List ℕ → List ℕ
place_after bytes place = cond (nat_lt (length place) 4096) place (paste place 0 (sheet bytes) (length (sheet bytes)))
