-- What one hop makes of the traffic that it hands to the next.
use Rattle.std.proofs.Common.{◌≡◌, ℕ, ◌+◌, ◌-◌, ◌*◌, ◌<◌, ◌≤◌, ◌⊎◌, inl, inr, le-div_iff_mul-le, arith}
use native.Mathlib.Decide.{dec_le}
use native.Mathlib.Nat.{lt_of_mul-lt-mul_left}
use Rattle.calculus.proofs.Sums.{total_many}
use Rattle.calculus.specs.Hops.{Counts, Holds, Waits, Widens}

pub widens : Widens
widens curve m D W W' le wide later c u n =
    omega (arith, later u (u + n), wide (u - (D + 1)) (u + n - (m + 1)) (u - (D + 1) + (n + (D - m))) (omega arith), c (u - (D + 1)) (n + (D - m)))

pub holds : Holds
holds curve D s bits W h c = omega (arith, h, c (s - D) D)

pub counts : Counts
counts lens l bits pos each h = (le-div_iff_mul-le pos).1 (omega (arith, total_many (λ n. n) l lens each))

pub bucket_waits : Waits
bucket_waits b ρ s level X l t W V curve own behind none k short = go k.tight
  where
    fits : l ≤ b
    fits = omega (arith, own, curve t 0)

    late : (u n n' : ℕ) → u + n ≡ s → u - X + n' ≡ t → b + ρ * n ≤ level + W u s → n < n'
    late u n n' q q' h = lt_of_mul-lt-mul_left ρ (omega (arith, h, behind u (omega arith), rw q' at (curve (u - X) n')))

    go : (level ≡ b) ⊎ ((u : ℕ) × (n : ℕ) × (u + n ≡ s) × (b + ρ * n ≤ level + W u s)) → s < t + X
    go (inl q) = absurd (omega (arith, fits))
    go (inr (u, n, q, h)) = elim (dec_le (u - X) t) [
      | yes p ↦ omega (arith, late u n (t - (u - X)) q (omega arith) h)
      | no p ↦ absurd (omega (arith, fits, none u (omega arith)))
    ]
