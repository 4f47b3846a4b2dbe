-- What is asked number by number, as an iterator over the numbers asks it, is asked of the list.
use Rattle.std.proofs.Common.{◌≡◌, ℕ, zero, suc, ◌+◌, ◌<◌, Bool, cond, ◌&&◌, ◌||◌, List, [], ◌∷◌, length, get_or, Some, sym, refl, ap, ◌∙◌, add-zero, arith}
use Rattle.std.specs.List.{find, list_all, list_any, range_with_len}
use Rattle.service.specs.declared.frame.Frame.{Frame}
use Rattle.cabinet.specs.Advances.{has_due, owed_from}
use Rattle.cabinet.specs.Model.{PortModel, frame_in, vacant}
use Rattle.cabinet.specs.Takes.{passes}

-- the numbers from k on stand for the elements
module _ {X : Type 0} (f : X → Bool) (test : ℕ → Bool) (d : X) where
  rest : (k : ℕ) (x : X) (xs : List X) → ((i : ℕ) → i < length (x ∷ xs) → test (k + i) ≡ f (get_or (x ∷ xs) i d)) → (i : ℕ) → i < length xs → test (k + 1 + i) ≡ f (get_or xs i d)
  rest k x xs h i l = let e : k + 1 + i ≡ k + suc i = omega arith in ap test e ∙ h (suc i) (omega arith)

  first : (k : ℕ) (x : X) (xs : List X) → ((i : ℕ) → i < length (x ∷ xs) → test (k + i) ≡ f (get_or (x ∷ xs) i d)) → test k ≡ f x
  first k x xs h = ap test (sym (add-zero k)) ∙ h 0 (omega arith)

  pub all_by_number : (xs : List X) (k : ℕ) → ((i : ℕ) → i < length xs → test (k + i) ≡ f (get_or xs i d)) → list_all test (range_with_len k (length xs)) ≡ list_all f xs
  all_by_number [] k h = refl
  all_by_number (x ∷ xs) k h = rw (first k x xs h) (ap (λ b. f x && b) (all_by_number xs (k + 1) (rest k x xs h)))

  pub any_by_number : (xs : List X) (k : ℕ) → ((i : ℕ) → i < length xs → test (k + i) ≡ f (get_or xs i d)) → list_any test (range_with_len k (length xs)) ≡ list_any f xs
  any_by_number [] k h = refl
  any_by_number (x ∷ xs) k h = rw (first k x xs h) (ap (λ b. f x || b) (any_by_number xs (k + 1) (rest k x xs h)))

-- the i-th frame is there, and the test tells of it
pub passes_at : (test : Frame → Bool) (xs : List Frame) (i : ℕ) (d : Frame) → i < length xs → passes test (frame_in xs i) ≡ test (get_or xs i d)
passes_at test [] i d h = absurd (omega arith)
passes_at test (x ∷ xs) zero d h = refl
passes_at test (x ∷ xs) (suc i) d h = passes_at test xs i d (omega arith)

-- the first port at which a frame is due is found
pub owed_by_number : (s : ℕ) (test : ℕ → Bool) (qs : List PortModel) (k : ℕ) → ((i : ℕ) → i < length qs → test (k + i) ≡ has_due s (get_or qs i vacant).line) → find test (range_with_len k (length qs)) ≡ owed_from s qs k
owed_by_number s test [] k h = refl
owed_by_number s test (q ∷ qs) k h =
    rw (first (λ (p : PortModel). has_due s p.line) test vacant k q qs h)
    (ap (cond (has_due s q.line) (Some k)) (owed_by_number s test qs (k + 1) (rest (λ (p : PortModel). has_due s p.line) test vacant k q qs h)))
