-- Tests tried in order: whether all pass, and the first that refuses.
use Rattle.std.specs.Prelude.{ℕ, zero, suc, Bool, true, ◌&&◌, Ok, Err, Result}

-- every number below n passes
abbrev pub all_below : (ℕ → Bool) → ℕ → Bool
all_below b zero = true
all_below b (suc n) = all_below b n && b n

-- the second answer counts where the first refused nothing
abbrev pub and_then : {E : Type 0} → Result (Unit {0}) E → Result (Unit {0}) E → Result (Unit {0}) E
and_then (Err e) r = Err e
and_then (Ok u) r = r

-- the first refusal among the first n tests
abbrev pub first_refusal : {E : Type 0} → (ℕ → Result (Unit {0}) E) → ℕ → Result (Unit {0}) E
first_refusal F zero = Ok tt
first_refusal F (suc n) = and_then (first_refusal F n) (F n)
