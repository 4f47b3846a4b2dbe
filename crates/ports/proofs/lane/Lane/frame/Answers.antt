use Rattle.std.proofs.Common.{ℕ, get_or, Some, sym, ap, ◌∙◌}
use Rattle.std.proofs.lemmas.Option.{slice_get_past}
use Rattle.ports.specs.Laws.{line_long}
use Rattle.ports.proofs.LaneSteps.{line_at}
use Rattle.ports.specs.Lanes.{lane_port}
use Rattle.ports.proofs.lane.Lane.frame.Goals as goal

pub returns-then-i-self : goal.returns-then-i-self
returns-then-i-self c =
    let w = c.args.self.now in
    ap (λ (k : ℕ). Some (get_or w.frames k _)) c.place.ensures.value ∙ sym (line_at w c.args.i _ c.requires c.if-i-self.true)

pub returns-else-i-self : goal.returns-else-i-self
returns-else-i-self c =
    let w = c.args.self.now in
    sym (slice_get_past (lane_port w).line c.args.i (rw (line_long w c.requires) c.if-i-self.false))
