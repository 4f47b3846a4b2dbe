use Rattle.std.proofs.Common.{◌∙◌}
use Rattle.network.proofs.Puts.{figures_told}
use Rattle.network.proofs.network.Network.figures.Goals as goal

pub returns : goal.returns
returns g c =
    c.figures.ensures ∙ figures_told c.args.self.now.plan.parts (g.C.Cabinet.model c.args.self.now.cabinet) c.args.port
