-- A ring over a list of places: the elements from a first place on, going round at the end.
use Rattle.std.specs.Prelude.{ℕ, ◌+◌, ◌-◌, cond, List, ◌++◌, take, drop, nat_lt}

-- `count` elements from place `first` on
abbrev pub turned : {X : Type 0} → List X → ℕ → ℕ → List X
turned places first count = take count (drop first (places ++ places))

-- the place of element i, among `room` places
abbrev pub placed : ℕ → ℕ → ℕ → ℕ
placed room first i = cond (nat_lt (first + i) room) (first + i) (first + i - room)
