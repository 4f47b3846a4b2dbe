-- What a loop over tests knows at each turn, where a test that fails is a fault of the table.
use Rattle.std.proofs.Common.{◌≡◌, ℕ, zero, suc, ◌+◌, ◌<◌, Bool, true, false, Ok, Err, Result, sym, refl, ap, ◌∙◌, arith}
use Rattle.std.proofs.lemmas.Bool.{cond-false, cond-true}
use Rattle.refusal.proofs.Orders.{first_refusal_at, first_refusal_more}
use Rattle.refusal.specs.Firsts.{and_then, first_refusal}
use Rattle.table.specs.Checks.{unless}
use Rattle.table.specs.declared.fault.TableFault.{TableFault}

module _ (b : ℕ → Bool) (e : ℕ → TableFault) where
  pub tests_more : (n : ℕ) → first_refusal (λ k. unless (b k) (e k)) n ≡ Ok tt → b n ≡ true → first_refusal (λ k. unless (b k) (e k)) (n + 1) ≡ Ok tt
  tests_more n h t = first_refusal_more (λ k. unless (b k) (e k)) n h (cond-true (b n) (Ok tt) (Err (e n)) t)

  pub tests_at : (n k : ℕ) → k < n → first_refusal (λ k. unless (b k) (e k)) k ≡ Ok tt → b k ≡ false → Err (e k) ≡ first_refusal (λ k. unless (b k) (e k)) n
  tests_at n k l h t = sym (first_refusal_at (λ k. unless (b k) (e k)) n k (e k) l h (cond-false (b k) (Ok tt) (Err (e k)) t))

  pub tests_all : (n k : ℕ) → k ≡ n → first_refusal (λ k. unless (b k) (e k)) k ≡ Ok tt → Ok tt ≡ first_refusal (λ k. unless (b k) (e k)) n
  tests_all n k q h = sym h ∙ ap (first_refusal (λ k. unless (b k) (e k))) q

module _ (F : ℕ → Result (Unit {0}) TableFault) where
  pub rows_more : (n : ℕ) → first_refusal F n ≡ Ok tt → Ok tt ≡ F n → first_refusal F (n + 1) ≡ Ok tt
  rows_more n h t = first_refusal_more F n h (sym t)

  pub rows_at : (n k : ℕ) (x : TableFault) → k < n → first_refusal F k ≡ Ok tt → Err x ≡ F k → Err x ≡ first_refusal F n
  rows_at n k x l h t = sym (first_refusal_at F n k x l h (sym t))

-- the same tests refuse the same
pub same_refusal : (F G : ℕ → Result (Unit {0}) TableFault) (n : ℕ) → ((k : ℕ) → k < n → F k ≡ G k) → first_refusal F n ≡ first_refusal G n
same_refusal F G zero h = refl
same_refusal F G (suc n) h =
    ap (λ r. and_then r (F n)) (same_refusal F G n (λ k l. h k (omega arith))) ∙ ap (and_then (first_refusal G n)) (h n (omega arith))
