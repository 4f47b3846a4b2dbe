use Rattle.plan.proofs.Keeps.{kept_of}
use Rattle.network.proofs.Levels.{regulator_level_is}
use Rattle.network.specs.Sources.{levels}
use Rattle.network.proofs.network.Network.regulator_level.Goals as goal

pub returns-in-Some : goal.returns-in-Some
returns-in-Some g c =
    let w = c.args.self.now in
    let P = w.plan.parts in
    let told = c.in-Some.ensures in
    regulator_level_is P (kept_of P w.plan.kept) (levels w.sources) w.regulators c.args.flow c.args.hop c.min.result c.in-Some.regulator.now
    told.2 told.0 told.1 c.min.ensures
