use Rattle.printing.proofs.Pastes.{pushed_prints}
use Rattle.printing.proofs.text.byte.Goals as goal

pub returns : goal.returns
returns c =
    pushed_prints c.args.out.now c.push.new.self c.args.b c.push.result c.push.ensures.owner c.push.ensures.after
