-- What `all` and `any` answer over the numbers below n, and over a list.
use Rattle.std.proofs.Common.{◌≡◌, ℕ, ◌<◌, Bool, true, false, not, List, length, get_or, Option, sym, ap, ◌∙◌, subst, zero-add, arith}
use denote.Param.Members.{Mut}
use denote.Ref.{Bor}
use Rattle.std.specs.Bool.{MatchBool}
use Rattle.std.specs.Fn.{Called}
use Rattle.std.specs.Iterator.{YieldsThen}
use Rattle.std.specs.List.{AllWithin, FoldsTo, HoldsAt, IsAnyAnswer, range_with_len}
use Rattle.std.specs.Option.{MatchOption}
use Rattle.std.specs.declared.ops.Range.{Range}
use Rattle.std.specs.Slice.Iter.{iter_rest}
use Rattle.std.specs.declared.slice.Iter.{Iter}
use Rattle.std.proofs.iter.Yields.{fronts, nat_range_steps}
use Rattle.std.proofs.lemmas.Iterator.{YieldsList, YieldsList-from_range, YieldsList-from_slice, cases_from_all, cases_from_any}
use Rattle.std.proofs.lemmas.List.FromFn.{get_or-range_with_len, length-range_with_len}
use Rattle.refusal.specs.Firsts.{all_below}
use Rattle.refusal.proofs.Orders.{all_below_fails, all_below_from}

-- the numbers below n, one after another
below : (s : Range ℕ) (n : ℕ) → s ≡ record { start = 0; end = n } → YieldsList {B = ℕ} nat_range_steps (λ x. x) s (range_with_len 0 n)
below s n e = YieldsList-from_range 0 n n e (omega arith)

-- number k of them is k
number : (n k : ℕ) → k < n → get_or (range_with_len 0 n) k 0 ≡ k
number n k l = get_or-range_with_len 0 n k 0 l ∙ zero-add k

decided : (b : ℕ → Bool) (n : ℕ) (r : Bool)
    → MatchBool r (AllWithin (λ k. b k ≡ true) (range_with_len 0 n) 0 (length (range_with_len 0 n))) ((k : ℕ) × (k < length (range_with_len 0 n)) × HoldsAt (λ k. b k ≡ false) (range_with_len 0 n) k)
    → r ≡ all_below b n
decided b n true h =
    sym (all_below_from b n (λ k l. subst (λ (i : ℕ). b i ≡ true) (number n k l) (h k 0 (omega arith) (omega (arith, length-range_with_len 0 n)))))
decided b n false h =
    let l : h.0 < n = omega (arith, h.1, length-range_with_len 0 n) in
    sym (all_below_fails b n h.0 l (subst (λ (i : ℕ). b i ≡ false) (number n h.0 l) (h.2 0)))

-- `(0..n).all(f)`, where f answers b
pub all_below_by_all : {F : Type 0} {g : Mut F (ℕ × Unit {0}) Bool} (b : ℕ → Bool) (n : ℕ) (s u : Range ℕ) (f : F) (r : Bool) → s ≡ record { start = 0; end = n }
    → (xs : List ℕ) × (o : Option ℕ) × (j : F) × YieldsThen nat_range_steps s xs o u × FoldsTo (λ p x q. Called g p (x, tt) true q) f xs j × MatchOption o (r ≡ true) (λ x. (r ≡ false) × ((h : F) × Called g j (x, tt) false h))
    → ((x : ℕ) (q : F) → Called g f (x, tt) true q → (q ≡ f) × (b x ≡ true)) → ((x : ℕ) (q : F) → Called g f (x, tt) false q → b x ≡ false)
    → r ≡ all_below b n
all_below_by_all b n s u f r e ran pass fail =
    decided b n r (cases_from_all u f r (λ k. b k ≡ true) (λ k. b k ≡ false) ran (below s n e) pass fail)

-- an element that passes p is found, or there is none
pub all_below_by_found : {A : Type 0} (p : A → Bool) (xs : List A) (d : A) (r : Bool) → IsAnyAnswer (λ x b. p x ≡ b) xs r → r ≡ not (all_below (λ k. not (p (get_or xs k d))) (length xs))
all_below_by_found p xs d true h =
    sym (ap not (all_below_fails (λ k. not (p (get_or xs k d))) (length xs) h.0 h.1 (ap not (h.2 d))))
all_below_by_found p xs d false h =
    sym (ap not (all_below_from (λ k. not (p (get_or xs k d))) (length xs) (λ k l. ap not (h k d (omega arith) l))))

-- `xs.iter().any(f)`, where f answers p
pub all_below_by_any_of : {A F : Type 0} {g : Mut F (Bor A × Unit {0}) Bool} {s : Iter A} (p : A → Bool) (xs : List A) (d : A) (u : Iter A) (f : F) (r : Bool)
    → (ys : List (Bor A)) × (o : Option (Bor A)) × (j : F) × YieldsThen fronts s ys o u × FoldsTo (λ h x q. Called g h (x, tt) false q) f ys j × MatchOption o (r ≡ false) (λ x. (r ≡ true) × ((h : F) × Called g j (x, tt) true h))
    → iter_rest s ≡ xs
    → ((x : Bor A) (q : F) → Called g f (x, tt) true q → p x.now ≡ true) → ((x : Bor A) (q : F) → Called g f (x, tt) false q → (q ≡ f) × (p x.now ≡ false))
    → r ≡ not (all_below (λ k. not (p (get_or xs k d))) (length xs))
all_below_by_any_of p xs d u f r ran rest pass fail =
    all_below_by_found p xs d r (cases_from_any u f r (λ x. p x ≡ true) (λ x. p x ≡ false) ran (YieldsList-from_slice xs rest) pass fail)
