use Rattle.std.proofs.Common.{◌≡◌, ◌-◌, leb, length, rules, refl, ap, ◌∙◌, zero-add, arith}
use borrow.Author.Tests.{tests}
use Rattle.std.proofs.lemmas.Iterator.{YieldsList-from_range}
use Rattle.std.proofs.lemmas.Iterator.Search.{any_from_yields_List}
use Rattle.service.specs.Entries.{no_frame}
use Rattle.service.specs.declared.frame.Frame.{Frame}
use Rattle.cabinet.specs.Model.{frame_in, port_in}
use Rattle.cabinet.specs.Takes.{passes}
use Rattle.cabinet.proofs.Searches.{any_by_number, passes_at}
use Rattle.cabinet.proofs.cabinet.Cabinet.owes.Goals as goal

pub returns : goal.returns
returns g c =
    let m = g.Self.Cabinet.model c.args.self.now in
    let xs = (port_in m c.args.port).line in
    let n : c.waiting.result - 0 ≡ length xs = omega (arith, c.waiting.ensures) in
    let due = λ (x : Frame). leb x.due m.slot in
    any_from_yields_List (λ i. passes due (frame_in xs i)) _ _ c.any.result c.any.ensures.ran (YieldsList-from_range 0 c.waiting.result (length xs) refl n) (λ x b q k. search (rules, tests))
    ∙ any_by_number due (λ i. passes due (frame_in xs i)) no_frame xs 0 (λ i l. ap (λ k. passes due (frame_in xs k)) (zero-add i) ∙ passes_at due xs i no_frame l)
