-- Making a network: open where the cabinet is fresh and is what the plan says.
use Rattle.std.specs.Prelude.{◌≡◌, Bool, true, ◌&&◌, length, ◌==◌}
use Rattle.refusal.specs.Firsts.{all_below}
use Rattle.draft.specs.Plans.{port_at}
use Rattle.draft.specs.declared.parts.Parts.{Parts}
use Rattle.draft.specs.declared.port.Port.{Port}
use Rattle.cabinet.specs.Fresh.{fresh_model}
use Rattle.cabinet.specs.Model.{Model, port_in}
use Rattle.model.specs.Networks.{fresh}
use Rattle.network.specs.Views.{Net}

-- the same figures
abbrev pub same_figures : Port → Port → Bool
same_figures q r = q.rate == r.rate && q.latency == r.latency && q.stay == r.stay && q.shortest == r.shortest

-- the cabinet's ports are the plan's
abbrev pub matches : Parts → Model → Bool
matches P m =
    (length m.ports == P.size.ports) && all_below (λ p. same_figures (port_in m p).figures (port_at P p)) P.size.ports

abbrev pub opens : Parts → Model → Bool
opens P m = fresh_model m && matches P m

-- an open network is a network of this plan in its fresh state
abbrev pub Opened : Parts → Net → Type 0
Opened P N = N.is_open ≡ true → (N.parts ≡ P) × (N.state ≡ fresh P)
