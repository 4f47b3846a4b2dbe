use Rattle.std.proofs.Common.{ℕ, ◌+◌, ◌*◌, sym, ap, ◌∙◌, arith}
use Rattle.draft.specs.Plans.{hops}
use Rattle.table.specs.Checks.{regulator_fits}
use Rattle.table.specs.Paths.{stretch_by}
use Rattle.table.specs.declared.fault.TableFault.TheVariants.{Crowded}
use Rattle.table.proofs.Crowding.{regulators_none}
use Rattle.table.proofs.Turns.{tests_at}
use Rattle.table.proofs.routes.Route.regulators_in.Goals as goal

pub returns-then-not-regulator_fits : goal.returns-then-not-regulator_fits
returns-then-not-regulator_fits c =
    let w = c.args.self.now.flow.now in
    let ds = c.args.delays.now.slots in
    let k = c.loop-k.k in
    rw c.place.ensures
    (tests_at (λ k. regulator_fits w (stretch_by w ds k) k) (λ k. Crowded (32 + (c.args.self.now.number * 8 + k))) (hops w) k (omega arith) c.loop-k.invariant.2
    (sym (c.if-not-regulator_fits.ensures ∙ ap (λ (x : ℕ). regulator_fits w x k) c.loop-k.invariant.0)))

pub returns-then-self-eq0 : goal.returns-then-self-eq0
returns-then-self-eq0 c = regulators_none c.args.self.now.number c.args.self.now.flow.now c.args.delays.now.slots c.if-self-eq0.true
