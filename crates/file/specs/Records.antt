-- What the bodies of records say.
use Rattle.std.specs.Prelude.{ℕ, ◌+◌, ◌*◌, List, [], ◌∷◌, slice_index}
use Rattle.draft.specs.declared.flow.Flow.{Flow}
use Rattle.draft.specs.declared.path.Path.{Path}
use Rattle.draft.specs.declared.port.Port.{Port}
use Rattle.draft.specs.declared.table.Row.{Row}

-- four bytes from place i on, the highest first
abbrev pub number_at : List ℕ → ℕ → ℕ
number_at xs i = ((slice_index xs i * 256 + slice_index xs (i + 1)) * 256 + slice_index xs (i + 2)) * 256 + slice_index xs (i + 3)

abbrev pub port_of : List ℕ → Port
port_of xs = record { rate = number_at xs 0; latency = number_at xs 4; stay = number_at xs 8; shortest = number_at xs 12 }

abbrev pub path_of : List ℕ → Path
path_of xs =
    record {
      hops = slice_index xs 16;
      ports =
          slice_index xs 18 ∷ slice_index xs 19 ∷ slice_index xs 20 ∷ slice_index xs 21 ∷ slice_index xs 22 ∷ slice_index xs 23 ∷ slice_index xs 24 ∷ slice_index xs 25 ∷ [];
    }

abbrev pub flow_of : List ℕ → Flow
flow_of xs =
    record {
      rate = number_at xs 0;
      burst = number_at xs 4;
      shortest = number_at xs 8;
      longest = number_at xs 12;
      path = path_of xs;
      mask = record { bits = slice_index xs 17 };
    }

-- the flow byte of a row
abbrev pub row_flow : List ℕ → ℕ
row_flow xs = slice_index xs 0

abbrev pub row_of : List ℕ → Row
row_of xs =
    record {
      cells =
          number_at xs 1 ∷ number_at xs 5 ∷ number_at xs 9 ∷ number_at xs 13 ∷ number_at xs 17 ∷ number_at xs 21 ∷ number_at xs 25
          ∷ number_at xs 29 ∷ [];
    }
