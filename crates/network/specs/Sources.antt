-- What a network keeps for its flows, by their numbers.
use Rattle.std.specs.Prelude.{ℕ, List, map, slice_index_or}
use Rattle.network.specs.declared.source.Source.{Source}

-- what stands where there is no flow
abbrev pub no_source : Source
no_source = record { level = 0; first = 0 }

-- the number of the first regulator of flow f
abbrev pub first_of : List Source → ℕ → ℕ
first_of sources f = (slice_index_or sources f no_source).first

-- the levels alone
abbrev pub levels : List Source → List ℕ
levels = map (λ s. s.level)
