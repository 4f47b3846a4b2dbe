-- FIFO ports: the finish never runs far ahead of what came in.
use Rattle.std.proofs.Common.{◌≡◌, ℕ, ◌+◌, ◌-◌, ◌*◌, ◌≤◌, List, ap, arith}
use native.Mathlib.Decide.{dec_le}
use Rattle.rounding.proofs.Ceilings.{up_rises, up_shifts}
use Rattle.calculus.proofs.Sums.{total_below}
use Rattle.calculus.specs.Ports.{Busy, Enters, Serves, finish_of}
use Rattle.calculus.specs.Systems.{Leg}
use Rattle.calculus.specs.Windows.{total}

pub port_enters : Enters
port_enters R F s l W W' more (u, le, f) = go (dec_le (s * R) F)
  where
    go : Dec (s * R ≤ F) → Busy R (finish_of R F s l) s W'
    go (yes h) = (u, le, omega (arith, more u le))
    go (no h) = (s, omega arith, omega (arith, more s (omega arith)))

pub port_serves : Serves
port_serves R T B F s W pos curve (u, le, f) = (below, omega (arith, up_rises F (s * R + B) R below, up_shifts s B R pos))
  where
    below_at : (n : ℕ) → s ≡ u + n → F ≤ s * R + B
    below_at n e = omega (arith, rw e at f, curve u n, ap (λ x. x * R) e)

    below : F ≤ s * R + B
    below = below_at (s - u) (omega arith)

-- more may have come in than is known
pub busier : (R F now : ℕ) (cs : List Leg) (h h' : Leg → ℕ → ℕ → ℕ) → ((c : Leg) (u : ℕ) → h c u now ≤ h' c u now)
    → Busy R F now (λ u v. total (λ c. h c u v) cs) → Busy R F now (λ u v. total (λ c. h' c u v) cs)
busier R F now cs h h' le (u, past, f) = (u, past, omega (arith, f, total_below (λ c. h c u now) (λ c. h' c u now) cs (λ c. le c u)))
