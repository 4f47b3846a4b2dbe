-- The ports that a path names, as its hops have them.
use Rattle.std.proofs.Common.{◌≡◌, ℕ, ◌<◌, Bool, true, false, not, ◌&&◌, eqb, ltb, min, List, length, get_or, take, refl, ap, ◌∙◌, arith}
use Rattle.std.proofs.lemmas.Bool.{le-ltb, lt-ltb}
use Rattle.std.proofs.lemmas.List.{get_or-take}
use Rattle.refusal.specs.Firsts.{all_below}
use Rattle.refusal.proofs.Orders.{all_below_past}
use Rattle.draft.specs.Plans.{crossed, hop_port, hops}
use Rattle.draft.specs.declared.flow.Flow.{Flow}
use Rattle.plan.specs.Checks.{first_visit}
use Rattle.plan.specs.Limits.{crosses}

-- a port is crossed where it is one of them
pub crosses_named : (w : Flow) (p : ℕ) (xs : List ℕ) → xs ≡ crossed w.path → length xs ≡ min (hops w) 8 → not (all_below (λ k. not (eqb (get_or xs k 0) p)) (length xs)) ≡ crosses w p
crosses_named w p xs e l =
    ap not (all_below_past (λ k. not (eqb (get_or xs k 0) p)) (λ k. not (ltb k (hops w) && eqb (hop_port w k) p)) (length xs) 8 (omega arith)
    (λ k h. let i : k < min (hops w) 8 = omega arith in
    rw (e, get_or-take (min (hops w) 8) w.path.ports k 0 i, lt-ltb k (hops w) (omega arith)) refl)
    (λ k h m. rw (le-ltb k (hops w) (omega arith)) refl))

-- a port is visited for the first time where it is none of those before it
pub first_named : (w : Flow) (k : ℕ) (xs : List ℕ) (r : Bool) → xs ≡ take k w.path.ports → length xs ≡ k → r ≡ not (all_below (λ j. not (eqb (get_or xs j 0) (hop_port w k))) (length xs)) → not r ≡ first_visit w k
first_named w k xs r e l h =
    ap not h ∙ not_not (all_below (λ j. not (eqb (get_or xs j 0) (hop_port w k))) (length xs))
    ∙ all_below_past (λ j. not (eqb (get_or xs j 0) (hop_port w k))) (λ j. not (eqb (hop_port w j) (hop_port w k))) (length xs) k (omega arith)
    (λ j i. rw (e, get_or-take k w.path.ports j 0 (omega arith)) refl)
    (λ j i m. absurd (omega arith))
  where
    not_not : (b : Bool) → not (not b) ≡ b
    not_not true = refl
    not_not false = refl
