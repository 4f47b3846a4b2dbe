-- One place of an array written, as a function of the place.
use Rattle.std.proofs.Common.{◌≡◌, ℕ, ◌<◌, List, length, get_or, set, sym, ap, ◌∙◌}
use native.Mathlib.Decide.{ℕ_discrete}
use Rattle.std.proofs.lemmas.List.{get_or-set_other, get_or-set_same}
use Rattle.model.proofs.Cells.{with_at_other, with_at_same}
use Rattle.model.specs.Networks.{with_at}

pub written : {X Y : Type 0} (g : X → Y) (xs : List X) (k : ℕ) (x d : X) → k < length xs → (λ j. g (get_or (set xs k x) j d)) ≡ with_at k (g x) (λ j. g (get_or xs j d))
written g xs k x d h = λ i j. each j i
  where
    each : (j : ℕ) → g (get_or (set xs k x) j d) ≡ with_at k (g x) (λ j. g (get_or xs j d)) j
    each j = elim (ℕ_discrete j k) [
      | yes z ↦ ap (λ j. g (get_or (set xs k x) j d)) z ∙ ap g (get_or-set_same xs k x d h) ∙ sym (with_at_same k (g x) (λ j. g (get_or xs j d)))
          ∙ ap (with_at k (g x) (λ j. g (get_or xs j d))) (sym z)
      | no z ↦ ap g (get_or-set_other xs k j x d z) ∙ sym (with_at_other k (g x) (λ j. g (get_or xs j d)) j z)
    ]
