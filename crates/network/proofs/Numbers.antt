-- The numbers of regulators: below 32, and each its own.
use Rattle.std.proofs.Common.{◌≡◌, ℕ, zero, suc, ◌+◌, ◌<◌, ◌≤◌, min, Bool, true, false, cond, eqb, ltb, leb, refl, ap, ◌∙◌, ap₂, arith}
use native.Mathlib.Decide.{dec_le, dec_lt}
use Rattle.std.proofs.lemmas.Bool.{and_parts, eqb-true, leb-false, ltb-true}
use Rattle.draft.specs.Masks.{bit, bits_below, regulated}
use Rattle.draft.specs.Plans.{flow_at}
use Rattle.draft.specs.declared.mask.Mask.{Mask}
use Rattle.draft.specs.declared.parts.Parts.{Parts}
use Rattle.plan.specs.Limits.{Kept, regulators_of}
use Rattle.model.specs.Networks.{gated}
use Rattle.network.specs.Views.{number}

-- a set bit is one of the first eight
set_bit : (m : Mask) (k : ℕ) → regulated m k ≡ true → (k < 8) × (bit m.bits k ≡ 1)
set_bit m k e = go (leb 8 k) refl e
  where
    go : (b : Bool) → leb 8 k ≡ b → cond b false (eqb (bit m.bits k) 1) ≡ true → (k < 8) × (bit m.bits k ≡ 1)
    go true q e = absurd (let z : ◌≡◌ {A = ℕ} 0 1 = cc in omega arith)
    go false q e = (leb-false 8 k q, eqb-true (bit m.bits k) 1 e)

bits_rise : (b j k : ℕ) → j ≤ k → bits_below b j ≤ bits_below b k
bits_rise b j zero h = let e : j ≡ 0 = omega arith in rw e (omega arith)
bits_rise b j (suc k) h = elim (dec_le j k) [
  | yes l ↦ omega (arith, bits_rise b j k l)
  | no l ↦ let e : j ≡ suc k = omega arith in rw e (omega arith)
]

regulators_rise : (P : Parts) (f g : ℕ) → f ≤ g → regulators_of P f ≤ regulators_of P g
regulators_rise P f zero h = let e : f ≡ 0 = omega arith in rw e (omega arith)
regulators_rise P f (suc g) h = elim (dec_le f g) [
  | yes l ↦ omega (arith, regulators_rise P f g l)
  | no l ↦ let e : f ≡ suc g = omega arith in rw e (omega arith)
]

-- what comes later has a higher number
before_hop : (P : Parts) (f j k : ℕ) → gated P f j ≡ true → j < k → number P f j < number P f k
before_hop P f j k e h =
    let s = set_bit (flow_at P f).mask j (and_parts (ltb f P.size.flows) (regulated (flow_at P f).mask j) e).1 in
    omega (arith, s.1, bits_rise (flow_at P f).mask.bits (suc j) k h)

before_flow : (P : Parts) (f g j k : ℕ) → gated P f j ≡ true → f < g → number P f j < number P g k
before_flow P f g j k e h =
    let s = set_bit (flow_at P f).mask j (and_parts (ltb f P.size.flows) (regulated (flow_at P f).mask j) e).1 in
    omega (arith, s.1, bits_rise (flow_at P f).mask.bits (suc j) 8 s.0, regulators_rise P (suc f) g h)

pub number_few : (P : Parts) → Kept P → (f k : ℕ) → gated P f k ≡ true → number P f k < 32
number_few P kept f k e =
    let known = ltb-true f P.size.flows (and_parts (ltb f P.size.flows) (regulated (flow_at P f).mask k) e).0 in
    omega (arith, before_flow P f P.size.flows k 0 e known, kept.regulators_most)

-- regulators of one number are one
pub number_own : (P : Parts) (f g j k : ℕ) → gated P f j ≡ true → gated P g k ≡ true → number P f j ≡ number P g k → (f ≡ g) × (j ≡ k)
number_own P f g j k a b e = elim (dec_lt f g) [
  | yes l ↦ absurd (omega (arith, before_flow P f g j k a l))
  | no l ↦ elim (dec_lt g f) [
    | yes r ↦ absurd (omega (arith, before_flow P g f k j b r))
    | no r ↦ let z : f ≡ g = omega arith in (z, hop z)
  ]
]
  where
    hop : f ≡ g → j ≡ k
    hop z = elim (dec_lt j k) [
      | yes l ↦ absurd (omega (arith, before_hop P f j k a l, ap (λ g. number P g k) z))
      | no l ↦ elim (dec_lt k j) [
        | yes r ↦ absurd (omega (arith, before_hop P g k j b r, ap (λ g. number P g j) z))
        | no r ↦ omega arith
      ]
    ]

pub firsts_few : (P : Parts) → Kept P → (f : ℕ) → f < P.size.flows → regulators_of P f ≤ 32
firsts_few P kept f h = omega (arith, regulators_rise P f P.size.flows (omega arith), kept.regulators_most)

-- the number as it is counted
pub number_is : (P : Parts) (f k n b : ℕ) → regulated (flow_at P f).mask k ≡ true → n ≡ regulators_of P f
    → b ≡ bits_below (flow_at P f).mask.bits (min k 8) → n + b ≡ number P f k
number_is P f k n b e p q =
    let l : min k 8 ≡ k = omega (arith, (set_bit (flow_at P f).mask k e).0) in
    ap₂ (λ x y. x + y) p (q ∙ ap (bits_below (flow_at P f).mask.bits) l)
