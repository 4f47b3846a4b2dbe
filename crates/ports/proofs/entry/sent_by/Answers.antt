use Rattle.std.proofs.Common.{◌≡◌, ℕ, ◌*◌, ◌≤◌, sym, ap, subst, mul-le-mul, arith}
use Rattle.ports.proofs.entry.sent_by.Goals as goal

pub returns : goal.returns
returns c =
    let e : c.from.result ≡ c.args.rate = c.from.ensures in
    let h : c.args.slot * c.args.rate ≤ 1000000000000 * 10000 = mul-le-mul c.requires.1 c.requires.0 in
    record {
      value = ap (λ n. c.args.slot * n) e;
      small = subst (λ (n : ℕ). c.args.slot * n ≤ 10000000000000000) (sym e) (omega arith);
    }
