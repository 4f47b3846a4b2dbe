use Rattle.std.proofs.Common.{◌≡◌, ℕ, ◌/◌, ◌%◌, ◌+◌, ◌^◌, ◌<◌, [], ◌∷◌, decimal, sym, subst, arith}
use native.Mathlib.Nat.{div-lt_self}
use Rattle.std.proofs.lemmas.Fmt.{decimal_digit, decimal_step}
use Rattle.printing.specs.Prints.{Printed}
use Rattle.printing.proofs.Pastes.{printed_then}
use Rattle.printing.proofs.text.+number.Goals as goal

pub returns-then-n-lt10 : goal.returns-then-n-lt10
returns-then-n-lt10 t c =
    let P : _ → Type 0 = λ ds. Printed c.args.out.now ds c.byte.new.out in
    subst P (sym (decimal_digit c.args.n c.if-n-lt10.true)) c.byte.ensures

pub number-requires : goal.number-requires
number-requires t c =
    let n = c.args.n in
    omega (arith, c.decreases, div-lt_self {n = n} {k = 10} (omega arith) (omega arith))

pub returns : goal.returns
returns t c =
    let n = c.args.n in
    let small : n < 2 ^ 64 = omega arith in
    let P : _ → Type 0 = λ ds. Printed c.args.out.now ds c.byte-2.new.out in
    subst P (sym (decimal_step n c.if-n-lt10.false small))
    (printed_then c.args.out.now c.number.new.out c.byte-2.new.out (decimal (n / 10)) ((48 + n % 10) ∷ []) c.number.ensures c.byte-2.ensures)
