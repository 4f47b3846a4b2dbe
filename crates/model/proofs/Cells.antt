-- One place or one cell replaced.
use Rattle.std.proofs.Common.{◌≡◌, ℕ, Bool, true, false, cond, ◌&&◌, eqb, refl, ap, arith}
use native.Mathlib.Decide.{ℕ_discrete}
use Rattle.std.proofs.lemmas.Bool.{eq-eqb, ne_eqb}
use Rattle.std.proofs.lemmas.Bool.Decides.{nat_tests}
use Rattle.model.specs.Networks.{with_at, with_cell}

-- two equations at once
pub both_yes : (a b c d : ℕ) → a ≡ b → c ≡ d → (eqb a b && eqb c d) ≡ true
both_yes a b c d e q = grind (arith, nat_tests)

pub both_no : (a b c d : ℕ) → (a ≡ b → c ≡ d → ⊥) → (eqb a b && eqb c d) ≡ false
both_no a b c d h = go (eqb a b) (eqb c d) refl refl
  where
    go : (x y : Bool) → eqb a b ≡ x → eqb c d ≡ y → (x && y) ≡ false
    go true true p q = absurd (h (grind (arith, nat_tests)) (grind (arith, nat_tests)))
    go true false p q = refl
    go false true p q = refl
    go false false p q = refl

pub dec_both : (a b c d : ℕ) → Dec ((a ≡ b) × (c ≡ d))
dec_both a b c d = go (ℕ_discrete a b) (ℕ_discrete c d)
  where
    go : Dec (a ≡ b) → Dec (c ≡ d) → Dec ((a ≡ b) × (c ≡ d))
    go (yes p) (yes q) = yes (p, q)
    go (yes p) (no q) = no (λ h. q h.1)
    go (no p) _ = no (λ h. p h.0)

pub with_at_same : {X : Type 0} (q : ℕ) (v : X) (g : ℕ → X) → with_at q v g q ≡ v
with_at_same q v g = ap (λ (b : Bool). cond b v (g q)) (eq-eqb q q refl)

pub with_at_other : {X : Type 0} (q : ℕ) (v : X) (g : ℕ → X) (p : ℕ) → (p ≡ q → ⊥) → with_at q v g p ≡ g p
with_at_other q v g p h = ap (λ (b : Bool). cond b v (g p)) (ne_eqb p q h)

pub with_cell_same : {X : Type 0} (f k : ℕ) (v : X) (g : ℕ → ℕ → X) → with_cell f k v g f k ≡ v
with_cell_same f k v g = ap (λ (b : Bool). cond b v (g f k)) (both_yes f f k k refl refl)

pub with_cell_other : {X : Type 0} (f k : ℕ) (v : X) (g : ℕ → ℕ → X) (i j : ℕ) → (i ≡ f → j ≡ k → ⊥) → with_cell f k v g i j ≡ g i j
with_cell_other f k v g i j h = ap (λ (b : Bool). cond b v (g i j)) (both_no i f j k h)
