use mathlib.Core.Path.{sym, ap, ◌∙◌}
use native.Mathlib.Omega.{arith}
use Rattle.rounding.specs.Quotients.{up}
use Rattle.rounding.proofs.Ceilings.{up_none}
use Rattle.rounding.proofs.up.Goals as goal

pub returns-then-b-eq0 : goal.returns-then-b-eq0
returns-then-b-eq0 c =
    record {
      value = sym (ap (up c.args.a) c.if-b-eq0.true ∙ up_none c.args.a);
      least = λ h. absurd (omega arith);
      within = omega arith;
      rises = λ x h. omega arith;
      shifts = λ h. absurd (omega arith);
    }
