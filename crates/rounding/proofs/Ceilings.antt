-- The laws of quotients rounded up.
use mathlib.Core.Path.{◌≡◌, sym}
use Prim.Native.Nat.{ℕ, min, ◌+◌, ◌-◌, ◌*◌, ◌/◌, ◌%◌, ◌<◌, ◌≤◌}
use native.Mathlib.Nat.{div-add-mod', div-zero, lt-div-mul-add, div-mul-le_self, div-eq_of_lt-le, lt_of_mul-lt-mul_right, mod-lt, add-mul}
use native.Mathlib.Decide.{ℕ_discrete}
use native.Mathlib.Omega.{arith}
use Rattle.rounding.specs.Quotients.{up}

-- it is the one q that covers a and that, less one, does not
pub up_is : (a b q : ℕ) → 0 < b → a ≤ q * b → q * b < a + b → up a b ≡ q
unfolding up
up_is a b q hb low high = div-eq_of_lt-le b (omega arith) (omega arith)

pub up_none : (a : ℕ) → up a 0 ≡ 0
unfolding up
up_none a = div-zero (a + (0 - 1))

pub up_covers : (a b : ℕ) → 0 < b → a ≤ up a b * b
unfolding up
up_covers a b hb = omega (arith, lt-div-mul-add {a = a + (b - 1)} hb)

pub up_tight : (a b : ℕ) → 0 < b → up a b * b < a + b
unfolding up
up_tight a b hb = omega (arith, div-mul-le_self (a + (b - 1)) b)

pub up_least : (a b p : ℕ) → 0 < b → a ≤ p * b → up a b ≤ p
up_least a b p hb h =
    let t : up a b < p + 1 = lt_of_mul-lt-mul_right b (omega (arith, up_tight a b hb, add-mul p 1 b)) in omega arith

pub up_rises : (a c b : ℕ) → a ≤ c → up a b ≤ up c b
up_rises a c b h = elim (ℕ_discrete b 0) [
  | yes z ↦ rw z (rw up_none (omega arith))
  | no p ↦ let hb : 0 < b = omega arith in up_least a b (up c b) hb (omega (arith, up_covers c b hb))
]

pub up_shifts : (s a b : ℕ) → 0 < b → up (s * b + a) b ≡ s + up a b
up_shifts s a b hb =
    up_is (s * b + a) b (s + up a b) hb (omega (arith, up_covers a b hb, add-mul s (up a b) b)) (omega (arith, up_tight a b hb, add-mul s (up a b) b))

-- a quotient, and one more where something is left
pub up_by_rest : (a b : ℕ) → 0 < b → a / b + min 1 (a % b) ≡ up a b
up_by_rest a b hb =
    let q = a / b in
    let whole = div-add-mod' a b in
    let rest = mod-lt a hb in
    elim (ℕ_discrete (a % b) 0) [
      | yes z ↦ let e : min 1 (a % b) ≡ 0 = omega arith in sym (up_is a b (q + min 1 (a % b)) hb (rw e (omega (arith, add-mul q 0 b))) (rw e (omega (arith, add-mul q 0 b))))
      | no p ↦ let e : min 1 (a % b) ≡ 1 = omega arith in sym (up_is a b (q + min 1 (a % b)) hb (rw e (omega (arith, add-mul q 1 b))) (rw e (omega (arith, add-mul q 1 b))))
    ]
