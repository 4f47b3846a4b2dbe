-- The example is a run: offers and slot ends, one by one.
use Rattle.std.proofs.Common.{◌≡◌, ℕ, zero, suc, Bool, true, false, cond, ◌&&◌, ltb, [], ◌∷◌, ◌++◌, refl}
use Rattle.std.proofs.lemmas.Bool.{and_parts, ltb-true}
use Rattle.draft.specs.declared.parts.Parts.{Parts}
use Rattle.draft.specs.declared.table.Table.{Table}
use Rattle.plan.specs.Limits.{Kept}
use Rattle.table.specs.Accepts.{Accepted}
use Rattle.model.proofs.Progress.{never_stuck}
use Rattle.model.specs.Examples.{Show, ending, endings, offering}
use Rattle.model.specs.Networks.{offered, offers, owed, spare}
use Rattle.model.specs.Runs.{Run, accepted, accepts, ends, refused, refuses}

-- a show whose calls are a run
abbrev pub Shown : Parts → Show → Type 0
Shown P w = Run P w.events w.state

pub offering_run : (P : Parts) (f n : ℕ) (w : Show) → Shown P w → Shown P (offering P f n w)
offering_run P f n w r = go (offers P w.state f n) refl
  where
    go : (b : Bool) → offers P w.state f n ≡ b
        → Shown P (cond b (record { events = w.events ++ accepted f n w.state.slot ∷ []; state = offered P w.state f n })
        (record { events = w.events ++ refused f n ∷ []; state = w.state }))
    go true e = accepts f n r e
    go false e = refuses f n r e

-- none of the next n slots is the last
abbrev pub in_time : Parts → ℕ → Show → Bool
in_time P zero w = true
in_time P (suc n) w = ltb w.state.slot 1000000000000 && in_time P n (ending P w)

pub endings_run : (P : Parts) → Kept P → (t : Table) → Accepted P t → (n : ℕ) (w : Show) → in_time P n w ≡ true → Shown P w → Shown P (endings P n w)
endings_run P kept t ok zero w e r = r
endings_run P kept t ok (suc n) w e r =
    let h = and_parts (ltb w.state.slot 1000000000000) (in_time P n (ending P w)) e in
    endings_run P kept t ok n (ending P w) h.1
    (ends (λ p. owed w.state.slot (w.state.line p)) (λ p. spare w.state.slot (w.state.line p)) r (ltb-true w.state.slot 1000000000000 h.0)
    (never_stuck P kept t ok w.events w.state r))
