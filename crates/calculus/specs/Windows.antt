-- Bits in windows of slots, and the curves that bound them.
use Rattle.std.specs.Prelude.{◌≡◌, ℕ, ◌+◌, ◌*◌, ◌≤◌, cond, ◌&&◌, List, [], ◌∷◌, nat_le}

-- the sum of g over a list
abbrev pub total : {X : Type 0} → (X → ℕ) → List X → ℕ
total g [] = 0
total g (x ∷ xs) = g x + total g xs

-- l where the slot s lies in u..v, both counted, and 0 elsewhere
unfoldable pub hit : ℕ → ℕ → ℕ → ℕ → ℕ
hit u v s l = cond (nat_le u s && nat_le s v) l 0

-- A count of windows W tells the bits W u v that entered in the slots u..v. It conforms to an arrival curve
-- if no window of n + 1 slots holds more than the curve has at n.
abbrev pub Conforms : (ℕ → ℕ → ℕ) → (ℕ → ℕ) → Type 0
Conforms W curve = (u n : ℕ) → W u (u + n) ≤ curve n

-- the arrival curve of a burst and a rate
abbrev pub affine : ℕ → ℕ → ℕ → ℕ
affine burst rate n = burst + rate * n

-- nothing has entered past the slot s
pub record Until (s : ℕ) (W : ℕ → ℕ → ℕ) : Type 0 where
  pub ends : (u v : ℕ) → W u v ≤ W u s
  pub next : (u : ℕ) → W u s ≤ W u (s + 1)
  pub none : (v : ℕ) → W (s + 1) v ≡ 0
