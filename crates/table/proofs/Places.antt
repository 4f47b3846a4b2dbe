-- What a list holds after one of its places is written.
use Rattle.std.proofs.Common.{◌≡◌, ℕ, ◌+◌, ◌-◌, ◌<◌, Bool, cond, ltb, List, ◌++◌, length, get_or, set, drop, sym, ap, ◌∙◌, ⊎_elim, arith, get_or-set_other, get_or-set_same}
use native.Mathlib.Decide.{dec_lt, ℕ_discrete}
use Rattle.std.proofs.lemmas.List.{get_or_append_left, get_or-append_right, get_or-drop}
use Rattle.std.proofs.lemmas.Bool.{cases_lt, cond-false, cond-true, le-ltb, lt-ltb}

same_test : (k i : ℕ) → (k ≡ i → ⊥) → ltb k i ≡ ltb k (i + 1)
same_test k i q = elim (dec_lt k i) [
  | yes a ↦ lt-ltb k i a ∙ sym (lt-ltb k (i + 1) (omega arith))
  | no a ↦ le-ltb k i (omega arith) ∙ sym (le-ltb k (i + 1) (omega arith))
]

-- the places below i are as f says, the others as z does: one more
pub fill_more : {X : Type 0} (f z : ℕ → X) (xs : List X) (i : ℕ) (x d : X) → i < length xs → x ≡ f i
    → ((k : ℕ) → k < length xs → get_or xs k d ≡ cond (ltb k i) (f k) (z k)) → (k : ℕ) → k < length xs → get_or (set xs i x) k d ≡ cond (ltb k (i + 1)) (f k) (z k)
fill_more {X = X} f z xs i x d l e h k lt = elim (ℕ_discrete k i) [
  | yes q ↦ rw (q, get_or-set_same xs i x d l, lt-ltb i (i + 1) (omega arith)) e
  | no q ↦ rw (get_or-set_other xs i k x d q) (h k lt ∙ ap (λ (b : Bool). cond b (f k) (z k)) (same_test k i q))
]

-- a list whose first n places were written over
pub front_over : {X : Type 0} (front all : List X) (n : ℕ) (d : X) → length front ≡ n → (k : ℕ) → get_or (front ++ drop n all) k d ≡ cond (ltb k n) (get_or front k d) (get_or all k d)
front_over front all n d e k = ⊎_elim
    (λ l. get_or_append_left front (drop n all) d k (omega arith) ∙ sym (cond-true (ltb k n) (get_or front k d) (get_or all k d) (lt-ltb k n l)))
    (λ l.
    let back : n + (k - n) ≡ k = omega arith in
    get_or-append_right front (drop n all) n k d e l ∙ get_or-drop n all (k - n) d ∙ ap (λ (i : ℕ). get_or all i d) back
    ∙ sym (cond-false (ltb k n) (get_or front k d) (get_or all k d) (le-ltb k n l)))
    (cases_lt k n)

-- the places below n are as g says, the others as z does
pub front_filled : {X : Type 0} (g z : ℕ → X) (d : X) (front all : List X) (n m : ℕ) → length front ≡ n
    → ((k : ℕ) → k < n → get_or front k d ≡ g k) → ((k : ℕ) → k < m → get_or all k d ≡ z k) → (k : ℕ) → k < m → get_or (front ++ drop n all) k d ≡ cond (ltb k n) (g k) (z k)
front_filled g z d front all n m e h a k lt = front_over front all n d e k ∙ ⊎_elim
    (λ l. rw (lt-ltb k n l) (h k l))
    (λ l. rw (le-ltb k n l) (a k lt))
    (cases_lt k n)
