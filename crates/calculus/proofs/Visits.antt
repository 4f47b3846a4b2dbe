-- Entries of a frame, hop by hop.
use Rattle.std.proofs.Common.{◌≡◌, ℕ, ◌+◌, ◌-◌, ◌<◌, ◌≤◌, List, [], ◌∷◌, ◌++◌, length, get_or, sym, ap, ◌∙◌, arith}
use native.Mathlib.Decide.{dec_lt}
use Rattle.std.proofs.lemmas.List.{get_or_append_left, get_or_push, length_push}
use Rattle.std.proofs.lemmas.Bool.Decides.{nat_tests}
use Rattle.calculus.proofs.Invariants.{Seen}
use Rattle.calculus.proofs.Sums.{hit_early, hit_le}
use Rattle.calculus.specs.Systems.{only, visit}
use Rattle.calculus.specs.Windows.{hit}

pub only_le : (f g a b : ℕ) → (f ≡ g → a ≤ b) → only f g a ≤ only f g b
unfolding only
only_le f g a b h = grind (arith, nat_tests)

pub only_same : (f a : ℕ) → only f f a ≡ a
unfolding only
only_same f a = grind (arith, nat_tests)

pub only_all : (f g a : ℕ) → only f g a ≤ a
unfolding only
only_all f g a = grind (arith, nat_tests)

pub only_zero : (f g a : ℕ) → a ≡ 0 → only f g a ≡ 0
unfolding only
only_zero f g a h = grind (arith, nat_tests)

pub only_other : (f g a : ℕ) → (f ≡ g → ⊥) → only f g a ≡ 0
unfolding only
only_other f g a h = grind (arith, nat_tests)

pub visit_at : (k u v l : ℕ) (past : List ℕ) → k < length past → visit k u v past l ≡ hit u v (get_or past k 0) l
unfolding visit
visit_at k u v l past h = grind (arith, nat_tests)

pub visit_none : (k u v l : ℕ) (past : List ℕ) → length past ≤ k → visit k u v past l ≡ 0
unfolding visit
visit_none k u v l past h = grind (arith, nat_tests)

-- one more entry, in the slot s
pub visit_old : (k u v l s : ℕ) (past : List ℕ) → k < length past → visit k u v (past ++ s ∷ []) l ≡ visit k u v past l
visit_old k u v l s past h =
    visit_at k u v l (past ++ s ∷ []) (simp length_push (omega arith)) ∙ ap (λ t. hit u v t l) (get_or_append_left past (s ∷ []) 0 k h) ∙ sym (visit_at k u v l past h)

pub visit_new : (k u v l s : ℕ) (past : List ℕ) → length past ≡ k → visit k u v (past ++ s ∷ []) l ≡ hit u v s l
visit_new k u v l s past h =
    visit_at k u v l (past ++ s ∷ []) (simp length_push (omega arith)) ∙ ap (λ t. hit u v t l) (get_or_push past s 0 k h)

pub visit_grows : (k u v l s : ℕ) (past : List ℕ) → visit k u v past l ≤ visit k u v (past ++ s ∷ []) l
visit_grows k u v l s past =
    elim (dec_lt k (length past)) [ yes h ↦ omega (arith, visit_old k u v l s past h) | no h ↦ omega (arith, visit_none k u v l past (omega arith)) ]

pub visit_le : (k u v u' v' l : ℕ) (past : List ℕ) → u' ≤ u → v ≤ v' → visit k u v past l ≤ visit k u' v' past l
visit_le k u v u' v' l past a b =
    elim (dec_lt k (length past)) [
      | yes h ↦ omega (
        arith,
        visit_at k u v l past h,
        visit_at k u' v' l past h,
        hit_le u v u' v' (get_or past k 0) (get_or past k 0) l l (omega arith) (λ p q. (omega arith, omega arith)),
      )
      | no h ↦ omega (arith, visit_none k u v l past (omega arith))
    ]

-- nothing comes after `now`
pub visit_now : (k u v now l : ℕ) (past : List ℕ) → Seen now past → visit k u v past l ≤ visit k u now past l
visit_now k u v now l past seen =
    elim (dec_lt k (length past)) [
      | yes h ↦ omega (
        arith,
        visit_at k u v l past h,
        visit_at k u now l past h,
        hit_le u v u now (get_or past k 0) (get_or past k 0) l l (omega arith) (λ p q. (p, seen k h)),
      )
      | no h ↦ omega (arith, visit_none k u v l past (omega arith))
    ]

pub seen_push : (now : ℕ) (past : List ℕ) → Seen now past → Seen now (past ++ now ∷ [])
seen_push now past seen k h =
    elim (dec_lt k (length past)) [
      | yes l ↦ rw (get_or_append_left past (now ∷ []) 0 k l) (seen k l)
      | no l ↦ rw (get_or_push past now 0 k (omega (arith, length_push past now))) (omega arith)
    ]

pub visit_step : (k u v l m D : ℕ) (past : List ℕ)
    → (k + 1 < length past → (get_or past k 0 + m + 1 ≤ get_or past (k + 1) 0) × (get_or past (k + 1) 0 ≤ get_or past k 0 + D + 1)) →
    visit (k + 1) u v past l ≤ visit k (u - (D + 1)) (v - (m + 1)) past l
visit_step k u v l m D past gap =
    elim (dec_lt (k + 1) (length past)) [
      | yes h ↦ omega (
        arith,
        visit_at (k + 1) u v l past h,
        visit_at k (u - (D + 1)) (v - (m + 1)) l past (omega arith),
        hit_le u v (u - (D + 1)) (v - (m + 1)) (get_or past (k + 1) 0) (get_or past k 0) l l (omega arith)
            (λ p q. (omega (arith, gap h), omega (arith, gap h))),
      )
      | no h ↦ omega (arith, visit_none (k + 1) u v l past (omega arith))
    ]

-- the hop k later by at most X than the hop j, which was not past t
pub visit_back : (j k u s X t l : ℕ) (past : List ℕ) → j < k → (k < length past → (get_or past k 0 ≤ get_or past j 0 + X) × (get_or past j 0 ≤ t))
    → visit k u s past l ≤ visit j (u - X) t past l
visit_back j k u s X t l past lt h =
    elim (dec_lt k (length past)) [
      | yes a ↦ omega (
        arith,
        visit_at k u s l past a,
        visit_at j (u - X) t l past (omega arith),
        hit_le u s (u - X) t (get_or past k 0) (get_or past j 0) l l (omega arith) (λ p q. (omega (arith, h a), (h a).1)),
      )
      | no a ↦ omega (arith, visit_none k u s l past (omega arith))
    ]

pub visit_early : (k u v l : ℕ) (past : List ℕ) → (k < length past → get_or past k 0 < u) → visit k u v past l ≡ 0
visit_early k u v l past h =
    elim (dec_lt k (length past)) [ yes a ↦ visit_at k u v l past a ∙ hit_early u v (get_or past k 0) l (h a) | no a ↦ visit_none k u v l past (omega arith) ]
