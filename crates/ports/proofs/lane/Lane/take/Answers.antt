use Rattle.std.proofs.Common.{ℕ, ◌+◌, ◌-◌, ◌<◌, List, get_or, Some, sym, refl, ap, ◌∙◌, arith}
use Rattle.service.specs.Entries.{no_frame}
use Rattle.service.specs.declared.frame.Frame.{Frame}
use Rattle.ports.proofs.LaneSteps.{line_at, line_rest, take_rises}
use Rattle.ports.proofs.lane.Lane.take.Goals as goal

pub returns : goal.returns
returns c =
    let w = c.args.self.now in
    let o = c.requires in
    let at = c.place-at.result in
    let some : 0 < w.waiting = omega (arith, c.if-self-eq0.false) in
    let rest = line_rest w at o.filled some c.place-at.ensures.value no_frame in
    record {
      answer = ap (λ (k : ℕ). Some (get_or w.frames k no_frame)) c.place-at.ensures.value ∙ sym (line_at w 0 no_frame o.filled some);
      after = ap (λ (l : List Frame). record { figures = w.figures; finish = w.finish; line = l }) (sym rest);
      sound = record {
        figures = o.figures;
        filled = (o.filled.0, omega (arith, o.filled.1), omega (arith, c.place-at.ensures.within), o.filled.3);
        rises = take_rises w (record { figures = w.figures; finish = w.finish; frames = w.frames; first = at + 1; waiting = w.waiting - 1 }) o.rises refl refl (sym rest);
      };
    }
