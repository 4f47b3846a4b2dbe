-- Token buckets.
use Rattle.std.specs.Prelude.{◌≡◌, ℕ, ◌+◌, ◌-◌, ◌*◌, ◌≤◌, min, ◌⊎◌}
use Rattle.calculus.specs.Windows.{Conforms, Until, affine, hit}

-- What a bucket of this burst and rate, at this level in the slot s, has let pass.
pub record Bucket (burst rate s level : ℕ) (W : ℕ → ℕ → ℕ) : Type 0 where
  -- no window up to now leaves less room than the level
  pub room : (u n : ℕ) → u + n ≡ s → W u s + level ≤ burst + rate * n
  -- the bucket is full, or some window up to now has used all but the level
  pub tight : (level ≡ burst) ⊎ ((u : ℕ) × (n : ℕ) × (u + n ≡ s) × (burst + rate * n ≤ level + W u s))
  pub conforms : Conforms W (affine burst rate)

-- it starts full
abbrev pub Starts : Type 0
Starts = (burst rate s : ℕ) (W : ℕ → ℕ → ℕ) → ((u v : ℕ) → W u v ≡ 0) → Bucket burst rate s burst W

-- with each slot the level rises by the rate, at most to the burst
abbrev pub Rises : Type 0
Rises = (burst rate s level : ℕ) (W : ℕ → ℕ → ℕ) → Until s W → Bucket burst rate s level W → Bucket burst rate (s + 1) (min burst (level + rate)) W

-- l bits that the level covers pass, and the level falls by them
abbrev pub Passes : Type 0
Passes =
    (burst rate s level l : ℕ) (W W' : ℕ → ℕ → ℕ) → l ≤ level → ((u v : ℕ) → W u v ≤ W u s) → ((u v : ℕ) → W' u v ≡ W u v + hit u v s l)
    → Bucket burst rate s level W → Bucket burst rate s (level - l) W'
