use Rattle.std.proofs.Common.{List, ap, ◌∙◌, arith}
use Rattle.std.proofs.lemmas.List.{length-set}
use Rattle.service.specs.declared.frame.Frame.{Frame}
use Rattle.ports.proofs.LaneSteps.{line_push}
use Rattle.ports.proofs.lane.Lane.push.Goals as goal

pub returns : goal.returns
returns c =
    let w = c.args.self.now in
    record {
      after = ap (λ (l : List Frame). record { figures = w.figures; finish = c.args.finish; line = l })
          (line_push w c.args.frame c.place-at.result c.requires.0 c.requires.1.0 c.place-at.ensures.value);
      filled = (c.requires.1.1, omega (arith, c.requires.1.0), c.requires.0.2, length-set w.frames c.place-at.result c.args.frame ∙ c.requires.0.3);
    }
