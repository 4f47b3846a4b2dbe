use Rattle.std.proofs.Common.{◌≡◌, ℕ, ◌+◌, [], ◌∷◌, ◌++◌, take, get_or, List, sym, subst, ◌∙◌, arith}
use Rattle.std.specs.List.{flat_map}
use Rattle.std.proofs.lemmas.Grind.{common_steps}
use Rattle.std.proofs.lemmas.List.{take_more, take_all, flat_map_more}
use Rattle.printing.specs.Lines.{field}
use Rattle.printing.specs.Prints.{Printed}
use Rattle.printing.proofs.Pastes.{printed_then}
use Rattle.printing.proofs.text.line.Goals as goal

pub loop-n-preserved : goal.loop-n-preserved
loop-n-preserved c =
    let q = c.text.new.out in
    let ns = c.args.numbers.now in
    let n = c.loop-n.n-index in
    let blank = c.byte.new.out in
    let p = c.number.new.out in
    let so_far = flat_map field (take n ns) in
    let P : List ℕ → Type 0 = λ bs. Printed q bs p in
    let e : flat_map field (take (n + 1) ns) ≡ so_far ++ field (get_or ns n 0) =
    grind (arith, common_steps, take_more, flat_map_more) in
    subst P (sym e)
    (printed_then q c.loop-n.out p so_far (field (get_or ns n 0)) c.loop-n.invariant
    (printed_then c.loop-n.out blank p (32 ∷ []) _ c.byte.ensures c.number.ensures))

pub returns : goal.returns
returns c =
    let q = c.args.out.now in
    let w = c.args.word.now in
    let ns = c.args.numbers.now in
    let P : List ℕ → Type 0 = λ ms. Printed q (w ++ flat_map field ms) c.loop-n.out in
    let fields = subst P (take_all c.loop-n.n-index ns c.loop-n-test.false) (printed_then q c.text.new.out c.loop-n.out w _ c.text.ensures c.loop-n.invariant) in
    printed_then q c.loop-n.out c.byte-2.new.out (w ++ flat_map field ns) (10 ∷ []) fields c.byte-2.ensures
