use Rattle.std.proofs.Common.{◌≡◌, ℕ, ◌<◌, ◌≤◌, sym, refl, ap, ◌∙◌, subst}
use Rattle.service.specs.declared.frame.Frame.{Frame}
use Rattle.cabinet.specs.Model.{PortModel}
use Rattle.ports.specs.Lanes.{pushed, lane_port, stamped}
use Rattle.ports.specs.Laws.{line_long}
use Rattle.ports.proofs.LaneSteps.{put_rises, said_finish, said_full, said_ok}
use Rattle.ports.proofs.lane.Lane.put.Goals as goal

pub returns-then-self-ge-MOST_LINE : goal.returns-then-self-ge-MOST_LINE
returns-then-self-ge-MOST_LINE c =
    let w = c.args.self.now in
    record {
      answer = said_full c.args.slot c.args.port (lane_port w) c.args.frame (sym c.if-not-length_fits.ensures) (rw (line_long w c.requires.1.filled) c.if-self-ge-MOST_LINE.true);
      after = refl;
      sound = c.requires.1;
    }

pub returns-then-finish-gt-MOST_FINISH : goal.returns-then-finish-gt-MOST_FINISH
returns-then-finish-gt-MOST_FINISH c =
    let w = c.args.self.now in
    let past = subst (λ (n : ℕ). 20000000000000000 < n) c.finish_after-finish.ensures c.if-finish-gt-MOST_FINISH.true in
    record {
      answer = said_finish c.args.slot c.args.port (lane_port w) c.args.frame (sym c.if-not-length_fits.ensures) (rw (line_long w c.requires.1.filled) c.if-self-ge-MOST_LINE.false) past;
      after = refl;
      sound = c.requires.1;
    }

pub returns : goal.returns
returns c =
    let w = c.args.self.now in
    let o = c.requires.1 in
    let s = c.args.slot in
    let x = c.args.frame in
    let fits = sym c.if-not-length_fits.ensures in
    let e = c.finish_after-finish.ensures in
    let within = subst (λ (n : ℕ). n ≤ 20000000000000000) e c.if-finish-gt-MOST_FINISH.false in
    let after = c.push.ensures.after ∙ ap (λ (y : Frame). pushed c.finish_after-finish.result y (lane_port w)) c.stamped.ensures in
    let kept : c.push.new.self.figures ≡ w.figures = ap (λ (q : PortModel). q.figures) after in
    record {
      answer = said_ok s c.args.port (lane_port w) x fits (rw (line_long w o.filled) c.if-self-ge-MOST_LINE.false) within;
      after = after ∙ ap (λ (n : ℕ). pushed n (stamped w.figures s n x) (lane_port w)) e;
      sound = record {
        figures = rw kept o.figures;
        filled = c.push.ensures.filled;
        rises = put_rises w c.push.new.self s c.finish_after-finish.result x o fits e after;
      };
    }
