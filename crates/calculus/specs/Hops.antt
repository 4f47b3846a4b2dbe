-- What one hop makes of the traffic that it hands to the next.
use Rattle.std.specs.Prelude.{◌≡◌, ℕ, ◌+◌, ◌-◌, ◌/◌, ◌<◌, ◌≤◌, List, length}
use Rattle.std.specs.List.{AllByRecursion}
use Rattle.calculus.specs.Buckets.{Bucket}
use Rattle.calculus.specs.Windows.{Conforms, affine, total}

-- W' has what W had at least m + 1 and at most D + 1 slots before
abbrev pub Later : ℕ → ℕ → (ℕ → ℕ → ℕ) → (ℕ → ℕ → ℕ) → Type 0
Later m D W W' = (u v : ℕ) → W' u v ≤ W (u - (D + 1)) (v - (m + 1))

-- a wider window holds more
abbrev pub Widening : (ℕ → ℕ → ℕ) → Type 0
Widening W = (u v w : ℕ) → v ≤ w → W u v ≤ W u w

-- a stay that varies between m and D widens the curve by their difference
abbrev pub Widens : Type 0
Widens = (curve : ℕ → ℕ) (m D : ℕ) (W W' : ℕ → ℕ → ℕ) → m ≤ D → Widening W → Later m D W W' → Conforms W curve → Conforms W' (λ n. curve (n + (D - m)))

-- bits that all entered within the last D slots are no more than the curve has at D
abbrev pub Holds : Type 0
Holds = (curve : ℕ → ℕ) (D s bits : ℕ) (W : ℕ → ℕ → ℕ) → bits ≤ W (s - D) (s - D + D) → Conforms W curve → bits ≤ curve D

-- frames of at least l bits are no more than their bits div l
abbrev pub Counts : Type 0
Counts = (lens : List ℕ) (l bits : ℕ) → 0 < l → AllByRecursion (λ n. l ≤ n) lens → total (λ n. n) lens ≤ bits → length lens ≤ bits / l

-- A regulator adds nothing: let W be what it has let pass and V the same traffic where it last conformed, in each case at most X slots before.
-- If l bits that V had in the slot t still wait, t is less than X slots ago.
abbrev pub Waits : Type 0
Waits =
    (burst rate s level X l t : ℕ) (W V : ℕ → ℕ → ℕ) → Conforms V (affine burst rate) → l ≤ V t (t + 0) → ((u : ℕ) → u - X ≤ t → W u s + l ≤ V (u - X) t)
    → ((u : ℕ) → t + X < u → W u s ≡ 0) → Bucket burst rate s level W → level < l → s < t + X
