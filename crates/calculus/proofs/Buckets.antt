-- Token buckets: what passes conforms, and the level is as high as it can be.
use Rattle.std.proofs.Common.{◌≡◌, ℕ, zero, suc, ◌+◌, ◌-◌, ◌*◌, ◌≤◌, min, ◌⊎◌, refl, ap, inl, inr, mul-le-mul_left, arith}
use native.Mathlib.Decide.{dec_le}
use Rattle.calculus.proofs.Sums.{hit_all, hit_early, hit_in, hit_out}
use Rattle.calculus.specs.Buckets.{Bucket, Passes, Rises, Starts}

abbrev Tight : ℕ → ℕ → ℕ → ℕ → (ℕ → ℕ → ℕ) → Type 0
Tight b ρ s level W = (level ≡ b) ⊎ ((u : ℕ) × (n : ℕ) × (u + n ≡ s) × (b + ρ * n ≤ level + W u s))

pub bucket_same : (b ρ s level : ℕ) (W W' : ℕ → ℕ → ℕ) → ((u v : ℕ) → W u v ≡ W' u v) → Bucket b ρ s level W → Bucket b ρ s level W'
bucket_same b ρ s level W W' e k =
    record { room = λ u n q. omega (arith, k.room u n q, e u s); tight = tight' k.tight; conforms = λ u n. omega (arith, k.conforms u n, e u (u + n)) }
  where
    tight' : Tight b ρ s level W → Tight b ρ s level W'
    tight' (inl q) = inl q
    tight' (inr (u, n, q, t)) = inr (u, n, q, omega (arith, t, e u s))

pub bucket_starts : Starts
bucket_starts b ρ s W none =
    record { room = λ u n e. omega (arith, none u s); tight = inl refl; conforms = λ u n. omega (arith, none u (u + n)) }

pub bucket_rises : Rises
bucket_rises b ρ s level W til k = record { room = room'; tight = tight' (dec_le b (level + ρ)) k.tight; conforms = k.conforms }
  where
    same : (u : ℕ) → W u (s + 1) ≡ W u s
    same u = omega (arith, til.ends u (s + 1), til.next u)

    room' : (u n : ℕ) → u + n ≡ s + 1 → W u (s + 1) + min b (level + ρ) ≤ b + ρ * n
    room' u zero e = let q : u ≡ s + 1 = omega arith in omega (arith, til.none (s + 1), ap (λ z. W z (s + 1)) q)
    room' u (suc n) e = omega (arith, same u, k.room u n (omega arith))

    tight' : Dec (b ≤ level + ρ) → Tight b ρ s level W → Tight b ρ (s + 1) (min b (level + ρ)) W
    tight' (yes h) t = inl (omega arith)
    tight' (no h) (inl e) = absurd (omega arith)
    tight' (no h) (inr (u, n, e, t)) = inr (u, suc n, omega arith, omega (arith, same u))

pub bucket_passes : Passes
bucket_passes b ρ s level l W W' fits ends put k =
    record {
      room = λ u n e. omega (arith, put u s, k.room u n e, hit_all u s s l);
      tight = inr (tight' k.tight);
      conforms = λ u n. go u n (dec_le u s) (dec_le s (u + n));
    }
  where
    tight' : Tight b ρ s level W → (u : ℕ) × (n : ℕ) × (u + n ≡ s) × (b + ρ * n ≤ level - l + W' u s)
    tight' (inl e) = (s, 0, omega arith, omega (arith, put s s, hit_in s s s l (omega arith) (omega arith)))
    tight' (inr (u, n, e, t)) = (u, n, e, omega (arith, t, put u s, hit_in u s s l (omega arith) (omega arith)))

    go : (u n : ℕ) → Dec (u ≤ s) → Dec (s ≤ u + n) → W' u (u + n) ≤ b + ρ * n
    go u n (yes a) (yes c) =
        omega (arith, put u (u + n), hit_all u (u + n) s l, ends u (u + n), k.room u (s - u) (omega arith), mul-le-mul_left {m = s - u} {n = n} ρ (omega arith))
    go u n (yes a) (no c) = omega (arith, put u (u + n), k.conforms u n, hit_out u (u + n) s l (omega arith))
    go u n (no a) _ = omega (arith, put u (u + n), k.conforms u n, hit_early u (u + n) s l (omega arith))
