-- Sums over lists, and what falls into a window.
use Rattle.std.proofs.Common.{◌≡◌, ℕ, zero, suc, ◌+◌, ◌*◌, ◌<◌, ◌≤◌, List, [], ◌∷◌, ◌++◌, length, get_or, set, sym, refl, arith}
use Rattle.std.proofs.lemmas.Bool.Decides.{nat_tests}
use Rattle.std.specs.List.{AllByRecursion}
use Rattle.calculus.specs.Windows.{hit, total}

pub total_append : {X : Type 0} (f : X → ℕ) (xs ys : List X) → total f (xs ++ ys) ≡ total f xs + total f ys
total_append f [] ys = omega arith
total_append f (x ∷ xs) ys = omega (arith, total_append f xs ys)

pub total_push : {X : Type 0} (f : X → ℕ) (xs : List X) (y : X) → total f (xs ++ y ∷ []) ≡ total f xs + f y
total_push f xs y = omega (arith, total_append f xs (y ∷ []))

-- pointwise below, at each element of the list
pub total_le : {X : Type 0} (f g : X → ℕ) (xs : List X) → AllByRecursion (λ x. f x ≤ g x) xs → total f xs ≤ total g xs
total_le f g [] h = omega arith
total_le f g (x ∷ xs) h = omega (arith, total_le f g xs h.1)

pub total_below : {X : Type 0} (f g : X → ℕ) (xs : List X) → ((x : X) → f x ≤ g x) → total f xs ≤ total g xs
total_below f g [] h = omega arith
total_below f g (x ∷ xs) h = omega (arith, total_below f g xs h, h x)

pub total_add : {X : Type 0} (f g : X → ℕ) (xs : List X) → total (λ x. f x + g x) xs ≡ total f xs + total g xs
total_add f g [] = omega arith
total_add f g (x ∷ xs) = omega (arith, total_add f g xs)

pub total_zero : {X : Type 0} (xs : List X) → total (λ (x : X). 0) xs ≡ 0
total_zero [] = refl
total_zero (x ∷ xs) = omega (arith, total_zero xs)

pub total_scale : {X : Type 0} (f : X → ℕ) (k : ℕ) (xs : List X) → total (λ x. f x * k) xs ≡ total f xs * k
total_scale f k [] = omega arith
total_scale f k (x ∷ xs) = omega (arith, total_scale f k xs)

-- two sums change places
pub total_swap : {X Y : Type 0} (f : X → Y → ℕ) (xs : List X) (ys : List Y) → total (λ x. total (λ y. f x y) ys) xs ≡ total (λ y. total (λ x. f x y) xs) ys
total_swap f [] ys = sym (total_zero ys)
total_swap f (x ∷ xs) ys = omega (arith, total_swap f xs ys, total_add (λ y. f x y) (λ y. total (λ x. f x y) xs) ys)

-- where the slot lies in the one window, the other slot lies in the other window
pub hit_le : (u v u' v' s s' l l' : ℕ) → l ≤ l' → (u ≤ s → s ≤ v → (u' ≤ s') × (s' ≤ v')) → hit u v s l ≤ hit u' v' s' l'
unfolding hit
hit_le u v u' v' s s' l l' le h = grind (arith, nat_tests)

pub hit_all : (u v s l : ℕ) → hit u v s l ≤ l
unfolding hit
hit_all u v s l = grind (arith, nat_tests)

pub hit_in : (u v s l : ℕ) → u ≤ s → s ≤ v → hit u v s l ≡ l
unfolding hit
hit_in u v s l h k = grind (arith, nat_tests)

pub hit_out : (u v s l : ℕ) → v < s → hit u v s l ≡ 0
unfolding hit
hit_out u v s l h = grind (arith, nat_tests)

pub hit_early : (u v s l : ℕ) → s < u → hit u v s l ≡ 0
unfolding hit
hit_early u v s l h = grind (arith, nat_tests)

-- each element counts at least l
pub total_many : {X : Type 0} (g : X → ℕ) (l : ℕ) (xs : List X) → AllByRecursion (λ x. l ≤ g x) xs → length xs * l ≤ total g xs
total_many g l [] h = omega arith
total_many g l (x ∷ xs) h = omega (arith, h.0, total_many g l xs h.1)

-- and at most b
pub total_most : {X : Type 0} (g : X → ℕ) (b : ℕ) (xs : List X) → AllByRecursion (λ x. g x ≤ b) xs → total g xs ≤ length xs * b
total_most g b [] h = omega arith
total_most g b (x ∷ xs) h = omega (arith, h.0, total_most g b xs h.1)

pub total_set : {X : Type 0} (h : X → ℕ) (xs : List X) (i : ℕ) (y d : X) → i < length xs → total h (set xs i y) + h (get_or xs i d) ≡ total h xs + h y
total_set h [] i y d lt = absurd (omega arith)
total_set h (x ∷ xs) zero y d lt = omega arith
total_set h (x ∷ xs) (suc i) y d lt = omega (arith, total_set h xs i y d (omega arith))

pub total_at : {X : Type 0} (h : X → ℕ) (xs : List X) (i : ℕ) (d : X) → i < length xs → h (get_or xs i d) ≤ total h xs
total_at h [] i d lt = absurd (omega arith)
total_at h (x ∷ xs) zero d lt = omega arith
total_at h (x ∷ xs) (suc i) d lt = omega (arith, total_at h xs i d (omega arith))
