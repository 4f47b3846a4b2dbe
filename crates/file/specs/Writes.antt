-- The file of a draft, record by record: every port, then every flow, then every row, then the end.
use Rattle.std.specs.Prelude.{ℕ, zero, suc, ◌+◌, ◌*◌, ◌/◌, ◌%◌, Bool, cond, ◌&&◌, List, [], ◌∷◌, ◌++◌, length, drop, is_some, Some, None, Option, nat_le, slice_index}
use Rattle.draft.specs.Plans.{flow_at, hop_port, hops, port_at, row_at}
use Rattle.draft.specs.declared.draft.Draft.{Draft}
use Rattle.draft.specs.declared.flow.Flow.{Flow}
use Rattle.draft.specs.declared.port.Port.{Port}
use Rattle.draft.specs.declared.table.Row.{Row}
use Rattle.file.specs.Counts.{flows, ports, rows}
use Rattle.file.specs.Kinds.{end_kind, flow_kind, port_kind, row_kind}

-- a number below 2 ^ 32 in four bytes, the highest first
abbrev pub bytes_of : ℕ → List ℕ
bytes_of n = n / 16777216 ∷ n / 65536 % 256 ∷ n / 256 % 256 ∷ n % 256 ∷ []

abbrev pub port_record : Port → List ℕ
port_record q = port_kind ∷ (bytes_of q.rate ++ (bytes_of q.latency ++ (bytes_of q.stay ++ bytes_of q.shortest)))

abbrev pub path_bytes : Flow → List ℕ
path_bytes w =
    hop_port w 0 ∷ hop_port w 1 ∷ hop_port w 2 ∷ hop_port w 3 ∷ hop_port w 4 ∷ hop_port w 5 ∷ hop_port w 6 ∷ hop_port w 7 ∷ []

abbrev pub flow_record : Flow → List ℕ
flow_record w =
    flow_kind ∷ (bytes_of w.rate ++ (bytes_of w.burst ++ (bytes_of w.shortest ++ (bytes_of w.longest ++ (hops w ∷ w.mask.bits ∷ path_bytes w)))))

-- the first n of some pieces, one behind the other
abbrev pub records : (ℕ → List ℕ) → ℕ → List ℕ
records r zero = []
records r (suc n) = records r n ++ r n

abbrev pub cell_bytes : Row → ℕ → List ℕ
cell_bytes r k = bytes_of (slice_index r.cells k)

-- the row of flow f
abbrev pub row_record : ℕ → Row → List ℕ
row_record f r = row_kind ∷ f ∷ records (cell_bytes r) 8

-- the end, after so many records
abbrev pub end_record : ℕ → List ℕ
end_record n = end_kind ∷ bytes_of n

-- the records of port p, flow f, and flow f's row
abbrev pub port_bytes : Draft → ℕ → List ℕ
port_bytes d p = port_record (port_at d.parts p)

abbrev pub flow_bytes : Draft → ℕ → List ℕ
flow_bytes d f = flow_record (flow_at d.parts f)

abbrev pub row_bytes : Draft → ℕ → List ℕ
row_bytes d f = row_record f (row_at d.proposal.table f)

-- all records before the end
abbrev pub front : Draft → List ℕ
front d = records (port_bytes d) (ports d) ++ (records (flow_bytes d) (flows d) ++ records (row_bytes d) (rows d))

abbrev pub encoded : Draft → List ℕ
encoded d = front d ++ end_record (ports d + flows d + rows d)

abbrev pub encoded_size : Draft → ℕ
encoded_size d = 17 * ports d + 27 * flows d + 34 * rows d + 5

-- a file can say no more than this
abbrev pub few : Draft → Bool
few d = nat_le (ports d) 32 && (nat_le (flows d) 64 && nat_le (rows d) 64)

-- the length of a draft's file, where it has one
abbrev pub file_size : Draft → Option ℕ
file_size d = cond (few d) (Some (encoded_size d)) None

abbrev pub fitting : Option ℕ → ℕ → Option ℕ
fitting None room = None
fitting (Some n) room = cond (nat_le n room) (Some n) None

-- the answer of the encoder: the length of the file, where it has one and there is room
abbrev pub encode_answer : Draft → ℕ → Option ℕ
encode_answer d room = fitting (file_size d) room

-- what the place holds then: the file and the rest as it was, or all of it as it was
abbrev pub encode_after : Draft → List ℕ → List ℕ
encode_after d place = cond (is_some (encode_answer d (length place))) (encoded d ++ drop (encoded_size d) place) place
