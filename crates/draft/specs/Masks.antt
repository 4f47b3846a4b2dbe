-- Regulator masks, bit by bit.
use Rattle.std.specs.Prelude.{ℕ, zero, suc, ◌+◌, ◌/◌, ◌%◌, ◌^◌, Bool, false, cond, ◌==◌, nat_le}
use Rattle.draft.specs.declared.mask.Mask.{Mask}

-- bit k, from the lowest: 0 or 1
abbrev pub bit : ℕ → ℕ → ℕ
bit bits k = bits / 2 ^ k % 2

-- a regulator stands before hop k
abbrev pub regulated : Mask → ℕ → Bool
regulated m k = cond (nat_le 8 k) false (bit m.bits k == 1)

-- how many of the first n bits are set
abbrev pub bits_below : ℕ → ℕ → ℕ
bits_below bits zero = 0
bits_below bits (suc n) = bits_below bits n + bit bits n

-- how many regulators a mask puts
abbrev pub regulators : Mask → ℕ
regulators m = bits_below m.bits 8
