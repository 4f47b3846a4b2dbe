-- What a file says, record by record, or the first refusal with its place.
use Rattle.std.specs.Prelude.{ℕ, zero, suc, ◌+◌, cond, ◌&&◌, List, [], ◌∷◌, length, drop, Ok, Err, Result, ◌==◌, nat_lt}
use Rattle.draft.specs.Plans.{empty_draft}
use Rattle.draft.specs.declared.draft.Draft.{Draft}
use Rattle.file.specs.Additions.{with_flow, with_port, with_row}
use Rattle.file.specs.Counts.{flows, ports, rows}
use Rattle.file.specs.Kinds.{body_length, kind_of}
use Rattle.file.specs.Records.{flow_of, number_at, port_of, row_flow, row_of}
use Rattle.file.specs.declared.fault.FileFault.{FileFault}
use Rattle.file.specs.declared.fault.FileFault.TheVariants.{Count, Cut, Excess, Kind as NoKind, Order, Trailing}
use Rattle.file.specs.declared.kind.Kind.{Kind}
use Rattle.file.specs.declared.kind.Kind.TheVariants.{End, Flow, Port, Row}
use Rattle.file.specs.declared.kind.UnknownKind.{UnknownKind}
use Rattle.file.specs.declared.reader.Progress.{Progress}
use Rattle.file.specs.declared.reader.Progress.TheVariants.{Done, More}

-- a port comes before every flow and row, and is one of 32
abbrev pub port_answer : Draft → ℕ → Result Progress FileFault
port_answer d at = cond (flows d == 0 && rows d == 0) (cond (nat_lt (ports d) 32) (Ok More) (Err (Excess at))) (Err (Order at))

-- a flow comes before every row, and is one of 64
abbrev pub flow_answer : Draft → ℕ → Result Progress FileFault
flow_answer d at = cond (rows d == 0) (cond (nat_lt (flows d) 64) (Ok More) (Err (Excess at))) (Err (Order at))

-- a row is of the next flow, and one of 64
abbrev pub row_answer : Draft → ℕ → ℕ → Result Progress FileFault
row_answer d at flow = cond (flow == rows d) (cond (nat_lt (rows d) 64) (Ok More) (Err (Excess at))) (Err (Order at))

-- the end record tells how many records came before it, and nothing comes after it
abbrev pub end_answer : Draft → ℕ → List ℕ → Result Progress FileFault
end_answer d at body =
    cond (number_at body 0 == ports d + flows d + rows d) (cond (length body == 4) (Ok Done) (Err (Trailing (at + 5)))) (Err (Count at))

-- the answer to a record that is whole
abbrev pub whole_answer : Draft → ℕ → Kind → List ℕ → Result Progress FileFault
whole_answer d at Port body = port_answer d at
whole_answer d at Flow body = flow_answer d at
whole_answer d at Row body = row_answer d at (row_flow body)
whole_answer d at End body = end_answer d at body

-- the draft with what a record says
abbrev pub whole_draft : Draft → Kind → List ℕ → Draft
whole_draft d Port body = with_port d (port_of body)
whole_draft d Flow body = with_flow d (flow_of body)
whole_draft d Row body = with_row d (row_of body)
whole_draft d End body = d

-- the answer to a record of this kind at this place: first its kind, then its length, then the rest
abbrev pub kind_answer : Draft → ℕ → Result Kind UnknownKind → List ℕ → Result Progress FileFault
kind_answer d at (Err e) body = Err (NoKind at)
kind_answer d at (Ok kind) body = cond (nat_lt (length body) (body_length kind)) (Err (Cut at)) (whole_answer d at kind body)

-- the answer to the record at a place, from the bytes on; where there is none, the file is cut off
abbrev pub record_answer : Draft → ℕ → List ℕ → Result Progress FileFault
record_answer d at [] = Err (Cut at)
record_answer d at (byte ∷ body) = kind_answer d at (kind_of byte) body

-- the draft after it
abbrev pub kind_draft : Draft → Result Kind UnknownKind → List ℕ → Draft
kind_draft d (Err e) body = d
kind_draft d (Ok kind) body = whole_draft d kind body

abbrev pub record_draft : Draft → List ℕ → Draft
record_draft d [] = d
record_draft d (byte ∷ body) = kind_draft d (kind_of byte) body

-- how many bytes a record takes, its letter included; 0 where there is none
abbrev pub kind_size : Result Kind UnknownKind → ℕ
kind_size (Err e) = 0
kind_size (Ok kind) = body_length kind + 1

abbrev pub record_size : List ℕ → ℕ
record_size [] = 0
record_size (byte ∷ body) = kind_size (kind_of byte)

-- the answer of a whole file, from that of one record, the draft after it, and the answer of the records behind it
abbrev pub then_read : Result Progress FileFault → Draft → Result Draft FileFault → Result Draft FileFault
then_read (Err e) d next = Err e
then_read (Ok Done) d next = Ok d
then_read (Ok More) d next = next

-- the records from a place on, n at the most
abbrev pub read_from : ℕ → Draft → ℕ → List ℕ → Result Draft FileFault
read_from zero d at bytes = Err (Cut at)
read_from (suc n) d at bytes =
    let rest = drop at bytes in
    then_read (record_answer d at rest) (record_draft d rest) (read_from n (record_draft d rest) (at + record_size rest) bytes)

-- what a file says; it has no more records than bytes
abbrev pub read : List ℕ → Result Draft FileFault
read bytes = read_from (length bytes) empty_draft 0 bytes
