-- FIFO ports with a rate and a latency.
use Rattle.std.specs.Prelude.{ℕ, ◌+◌, ◌*◌, ◌<◌, ◌≤◌, max}
use Rattle.rounding.specs.Quotients.{up}
use Rattle.calculus.specs.Windows.{Conforms, affine}

-- the finish once l bits more have entered in the slot s
abbrev pub finish_of : ℕ → ℕ → ℕ → ℕ → ℕ
finish_of rate finish s l = max finish (s * rate) + l

-- since some slot u the port has had no more than what came in from u on
abbrev pub Busy : ℕ → ℕ → ℕ → (ℕ → ℕ → ℕ) → Type 0
Busy rate finish s W = (u : ℕ) × (u ≤ s) × (finish ≤ u * rate + W u s)

-- l bits enter
abbrev pub Enters : Type 0
Enters =
    (rate finish s l : ℕ) (W W' : ℕ → ℕ → ℕ) → ((u : ℕ) → u ≤ s → W u s + l ≤ W' u s) → Busy rate finish s W → Busy rate (finish_of rate finish s l) s W'

-- where all that comes in stays below burst + rate × n, the finish is near and so is what is due
abbrev pub Serves : Type 0
Serves =
    (rate latency burst finish s : ℕ) (W : ℕ → ℕ → ℕ) → 0 < rate → Conforms W (affine burst rate) → Busy rate finish s W
    → (finish ≤ s * rate + burst) × (up finish rate + latency ≤ s + (latency + up burst rate))
