-- What a loop over tests tried in order knows at each turn.
use Rattle.std.proofs.Common.{◌≡◌, ℕ, zero, suc, ◌+◌, ◌<◌, ◌≤◌, Bool, true, false, ◌&&◌, Ok, Err, Result, sym, refl, ap, ◌∙◌, subst, ⊎_elim, add-one, arith}
use native.Mathlib.Decide.{ℕ_discrete}
use Rattle.std.proofs.lemmas.Bool.{and_cases, and_parts, and_right, both_ways, cases_lt}
use Rattle.refusal.specs.Firsts.{all_below, and_then, first_refusal}

-- one fails
pub all_below_fails : (b : ℕ → Bool) (n k : ℕ) → k < n → b k ≡ false → all_below b n ≡ false
all_below_fails b zero k h e = absurd (omega arith)
all_below_fails b (suc n) k h e = elim (ℕ_discrete k n) [
  | yes q ↦ and_right (all_below b n) (b n) (sym (ap b q) ∙ e)
  | no q ↦ ap (λ x. x && b n) (all_below_fails b n k (omega arith) e)
]

-- all pass, so each does
pub all_below_each : (b : ℕ → Bool) (n : ℕ) → all_below b n ≡ true → (k : ℕ) → k < n → b k ≡ true
all_below_each b zero e k h = absurd (omega arith)
all_below_each b (suc n) e k h =
    let t = and_parts (all_below b n) (b n) e in
    elim (ℕ_discrete k n) [ yes q ↦ ap b q ∙ t.1 | no q ↦ all_below_each b n t.0 k (omega arith) ]

-- where not every number passes, one of them does not
pub all_below_some : (b : ℕ → Bool) (n : ℕ) → all_below b n ≡ false → (k : ℕ) × (k < n) × (b k ≡ false)
all_below_some b zero e = absurd (both_ways true e refl)
all_below_some b (suc n) e =
    ⊎_elim
    (λ h. let t = all_below_some b n h in (t.0, omega (arith, t.1), t.2))
    (λ h. (n, omega arith, h))
    (and_cases (all_below b n) (b n) e)

-- each passes, so all do
pub all_below_from : (b : ℕ → Bool) (n : ℕ) → ((k : ℕ) → k < n → b k ≡ true) → all_below b n ≡ true
all_below_from b zero h = refl
all_below_from b (suc n) h =
    ap (λ x. x && b n) (all_below_from b n (λ k l. h k (omega arith))) ∙ h n (omega arith)

-- the same tests below n, and none that fails from there on
pub all_below_past : (a b : ℕ → Bool) (n m : ℕ) → n ≤ m → ((k : ℕ) → k < n → a k ≡ b k) → ((k : ℕ) → n ≤ k → k < m → b k ≡ true) → all_below a n ≡ all_below b m
all_below_past a b n m l same rest = decide (all_below a n) refl
  where
    decide : (v : Bool) → all_below a n ≡ v → v ≡ all_below b m
    decide true e = sym (all_below_from b m (λ k h. ⊎_elim
        (λ (low : k < n). sym (same k low) ∙ all_below_each a n e k low)
        (λ (high : n ≤ k). rest k high h)
        (cases_lt k n)))
    decide false e =
        let t = all_below_some a n e in
        sym (all_below_fails b m t.0 (omega (arith, t.1)) (sym (same t.0 t.1) ∙ t.2))

-- a loop over tests: one more refuses nothing
pub first_refusal_more : {E : Type 0} (F : ℕ → Result (Unit {0}) E) (k : ℕ) → first_refusal F k ≡ Ok tt → F k ≡ Ok tt → first_refusal F (k + 1) ≡ Ok tt
first_refusal_more F k e h = rw add-one (ap (λ r. and_then r (F k)) e ∙ h)

-- it ends, and nothing is refused
pub first_refusal_done : {E : Type 0} (F : ℕ → Result (Unit {0}) E) (n k : ℕ) → n ≤ k → k ≤ n → first_refusal F k ≡ Ok tt → Ok tt ≡ first_refusal F n
first_refusal_done F n k l h e = let q : k ≡ n = omega arith in sym (subst (λ (i : ℕ). first_refusal F i ≡ Ok tt) q e)

-- nothing below k is refused and k is, so its refusal is the first
pub first_refusal_at : {E : Type 0} (F : ℕ → Result (Unit {0}) E) (n k : ℕ) (x : E) → k < n → first_refusal F k ≡ Ok tt → F k ≡ Err x → first_refusal F n ≡ Err x
first_refusal_at F zero k x h e r = absurd (omega arith)
first_refusal_at F (suc n) k x h e r = elim (ℕ_discrete k n) [
  | yes q ↦ ap (λ y. and_then y (F n)) (subst (λ (i : ℕ). first_refusal F i ≡ Ok tt) q e) ∙ subst (λ (i : ℕ). F i ≡ Err x) q r
  | no q ↦ ap (λ y. and_then y (F n)) (first_refusal_at F n k x (omega arith) e r)
]

-- it stops, since one refuses
pub first_refusal_stop : {E : Type 0} (F : ℕ → Result (Unit {0}) E) (n k : ℕ) (x : E) → k < n → first_refusal F k ≡ Ok tt → Err x ≡ F k → Err x ≡ first_refusal F n
first_refusal_stop F n k x h e r = sym (first_refusal_at F n k x h e (sym r))

-- both refuse nothing
pub then_ok : {E : Type 0} (a b : Result (Unit {0}) E) → and_then a b ≡ Ok tt → (a ≡ Ok tt) × (b ≡ Ok tt)
then_ok (Ok tt) b e = (refl, e)
then_ok (Err x) b e = absurd (let z : ◌≡◌ {A = ℕ} 0 1 = cc in omega arith)

-- nothing is refused, so no test refuses
pub first_refusal_each : {E : Type 0} (F : ℕ → Result (Unit {0}) E) (n : ℕ) → first_refusal F n ≡ Ok tt → (k : ℕ) → k < n → F k ≡ Ok tt
first_refusal_each F zero e k h = absurd (omega arith)
first_refusal_each F (suc n) e k h =
    let t = then_ok (first_refusal F n) (F n) e in
    elim (ℕ_discrete k n) [ yes q ↦ ap F q ∙ t.1 | no q ↦ first_refusal_each F n t.0 k (omega arith) ]

-- no test refuses, so nothing is refused
pub first_refusal_from : {E : Type 0} (F : ℕ → Result (Unit {0}) E) (n : ℕ) → ((k : ℕ) → k < n → F k ≡ Ok tt) → first_refusal F n ≡ Ok tt
first_refusal_from F zero h = refl
first_refusal_from F (suc n) h =
    ap (λ r. and_then r (F n)) (first_refusal_from F n (λ k l. h k (omega arith))) ∙ h n (omega arith)
