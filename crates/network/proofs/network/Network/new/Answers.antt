use Rattle.std.proofs.Common.{ℕ, List, replicate, sym, ap, ◌∙◌}
use Rattle.plan.proofs.Keeps.{kept_of}
use Rattle.regulator.specs.declared.regulator.Regulator.{Regulator}
use Rattle.network.proofs.Makes.{seen_is, state_is}
use Rattle.network.specs.Views.{state_in}
use Rattle.network.proofs.network.Network.new.Goals as goal

pub returns : goal.returns
returns g c =
    let plan = c.args.plan in
    let m = g.C.Cabinet.model c.args.cabinet in
    let kept = kept_of plan.parts plan.kept in
    record {
      «open» = c.fits-open.ensures;
      opened = λ e. (
        seen_is plan.parts m kept plan.sized.0 (sym c.fits-open.ensures ∙ e),
        ap (λ (ls : List ℕ). state_in plan.parts m ls c.fresh_regulators.result) c.sources-sources.ensures.full
            ∙ ap (λ (rs : List Regulator). state_in plan.parts m (replicate 64 4294967295) rs) c.fresh_regulators.ensures
            ∙ state_is plan.parts m kept plan.sized.0 (sym c.fits-open.ensures ∙ e),
      );
    }
