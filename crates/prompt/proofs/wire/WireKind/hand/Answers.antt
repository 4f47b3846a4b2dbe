use Rattle.std.proofs.Common.{ℕ, ap}
use Rattle.prompt.specs.WireLaws.{wire_small}
use Rattle.prompt.specs.declared.wire.Wire.{Wire}
use Rattle.prompt.proofs.wire.WireKind.hand.Goals as goal

pub returns : goal.returns
returns c =
    let w = c.args.self.now in
    let sent : ℕ → Wire = λ n. record { speed = w.speed; latency = w.latency; sent = n } in
    λ q l. ap sent (c.own_after-self.ensures (wire_small w q c.args.frame l))
