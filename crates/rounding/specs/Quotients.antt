-- Quotients rounded up.
use Rattle.std.specs.Prelude.{ℕ, ◌+◌, ◌-◌, ◌*◌, ◌/◌, ◌≤◌}

-- a / b rounded up, and 0 where b is 0
unfoldable pub up : ℕ → ℕ → ℕ
up a b = (a + (b - 1)) / b

-- q times b covers a, and no smaller number does
pub record LeastCover (a b q : ℕ) : Type 0 where
  pub covers : a ≤ q * b
  pub least : (p : ℕ) → a ≤ p * b → q ≤ p
