-- Levels of regulators, as the questions tell them.
use Rattle.std.proofs.Common.{◌≡◌, ℕ, zero, suc, ◌<◌, min, true, cond, List, sym, ap, ◌∙◌, arith}
use Rattle.std.proofs.lemmas.Bool.{cond-true}
use Rattle.draft.specs.Plans.{flow_at}
use Rattle.draft.specs.declared.parts.Parts.{Parts}
use Rattle.plan.specs.Limits.{Kept}
use Rattle.regulator.specs.declared.regulator.Regulator.{Regulator}
use Rattle.model.proofs.Plans.{clash, fine}
use Rattle.model.specs.Networks.{gated}
use Rattle.network.specs.Views.{level_in, regulator_in}

-- the level at a regulated hop, which is never hop 0
pub regulator_level_is : (P : Parts) → Kept P → (ls : List ℕ) (rs : List Regulator) (f k n : ℕ) (r : Regulator) → f < P.size.flows → gated P f k ≡ true → r ≡ regulator_in P rs f k
    → n ≡ min r.level (flow_at P f).burst → n ≡ cond (gated P f k) (level_in P ls rs f k) 0
regulator_level_is P kept ls rs f zero n r h e q i = clash (sym e ∙ (fine P kept f h).first)
regulator_level_is P kept ls rs f (suc k) n r h e q i =
    i ∙ ap (λ (v : Regulator). min v.level (flow_at P f).burst) q ∙ omega arith
    ∙ sym (cond-true (gated P f (suc k)) (min (flow_at P f).burst (regulator_in P rs f (suc k)).level) 0 e)
    ∙ sym (cond-true (gated P f (suc k)) (level_in P ls rs f (suc k)) 0 e)
