-- The kinds of records.
use Rattle.std.specs.Prelude.{◌≡◌, ℕ, cond, Ok, Err, Result, ◌==◌}
use Rattle.file.specs.declared.kind.Kind.{Kind}
use Rattle.file.specs.declared.kind.Kind.TheVariants.{End, Flow, Port, Row}
use Rattle.file.specs.declared.kind.UnknownKind.{UnknownKind}

-- P, F, B and E: port, flow, burst row, end
abbrev pub port_kind : ℕ
port_kind = 0x50

abbrev pub flow_kind : ℕ
flow_kind = 0x46

abbrev pub row_kind : ℕ
row_kind = 0x42

abbrev pub end_kind : ℕ
end_kind = 0x45

abbrev pub letter : Kind → ℕ
letter Port = port_kind
letter Flow = flow_kind
letter Row = row_kind
letter End = end_kind

-- the kind that a byte tells, or the byte, where it tells none
abbrev pub kind_of : ℕ → Result Kind UnknownKind
kind_of byte =
    cond (byte == port_kind) (Ok Port)
    (cond (byte == flow_kind) (Ok Flow) (cond (byte == row_kind) (Ok Row) (cond (byte == end_kind) (Ok End) (Err (record { 0 = byte })))))

abbrev pub Decodes : ℕ → Result Kind UnknownKind → Type 0
Decodes byte result = result ≡ kind_of byte

-- how many bytes follow the letter
abbrev pub body_length : Kind → ℕ
body_length Port = 16
body_length Flow = 26
body_length Row = 33
body_length End = 4
