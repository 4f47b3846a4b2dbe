use mathlib.Core.Path.{◌≡◌, sym, ap, subst, ◌∙◌}
use Prim.Native.Nat.{ℕ, ◌+◌}
use native.Mathlib.Nat.{mul-le-mul_left}
use native.Mathlib.Omega.{arith}
use Rattle.rounding.specs.Quotients.{LeastCover, up}
use Rattle.rounding.proofs.Ceilings.{up_by_rest, up_covers, up_least, up_rises, up_shifts}
use Rattle.rounding.proofs.ceiling.Goals as goal

pub returns : goal.returns
returns c =
    let a = c.args.a in
    let b = c.args.b in
    let e : c.div_ceil.result ≡ up a b = c.div_ceil.ensures ∙ up_by_rest a b c.requires in
    record {
      value = e;
      least = let P : ℕ → Type 0 = λ q. LeastCover a b q in
          subst P (sym e) (record { covers = up_covers a b c.requires; least = λ p h. up_least a b p c.requires h });
      within = omega (arith, up_least a b a c.requires (omega (arith, mul-le-mul_left {m = 1} {n = b} a c.requires)));
      rises = λ x h. omega (arith, up_rises a x b h);
      shifts = λ s. up_shifts s a b c.requires ∙ ap (λ n. s + n) (sym e);
    }
