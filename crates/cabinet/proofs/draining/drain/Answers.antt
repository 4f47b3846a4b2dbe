use Rattle.std.proofs.Common.{◌≡◌, ◌+◌, ◌<◌, List, [], ◌∷◌, ◌++◌, length, take, sym, refl, ap, ◌∙◌, subst, arith}
use Rattle.std.proofs.lemmas.List.{length-take-le, take_more}
use Rattle.service.specs.declared.frame.Frame.{Frame}
use Rattle.line.specs.Queues.{room}
use Rattle.cabinet.specs.Drains.{Laid}
use Rattle.cabinet.specs.Model.{port_in}
use Rattle.cabinet.proofs.Fetches.{fetched_all, fetched_is, fetched_more, fetched_none, fetched_room}
use Rattle.cabinet.proofs.Trays.{laid_none, laid_push}
use Rattle.cabinet.proofs.draining.drain.Goals as goal

pub loop-frame-init : goal.loop-frame-init
loop-frame-init g c =
    (refl, fetched_none (g.C.Cabinet.model c.args.cabinet.now) c.args.port, laid_none c.args.tray.now)

pub loop-frame-smaller : goal.loop-frame-smaller
loop-frame-smaller g c =
    let left = fetched_room (g.C.Cabinet.model c.args.cabinet.now) (g.C.Cabinet.model c.loop-frame.cabinet) (g.C.Cabinet.model c.take.new.self) c.args.port c.loop-frame.came c.in-Some.frame c.in-Some.frame c.loop-frame.invariant.1 c.in-Some.ensures in
    omega arith

pub loop-frame-preserved : goal.loop-frame-preserved
loop-frame-preserved g c =
    let m = g.C.Cabinet.model c.args.cabinet.now in
    let p = c.args.port in
    let n = c.loop-frame.came in
    let x = c.in-Some.frame in
    let before = g.C.Cabinet.model c.loop-frame.cabinet in
    let after = g.C.Cabinet.model c.take.new.self in
    let xs = (port_in m p).line in
    let left : n < length xs = fetched_room m before after p n x x c.loop-frame.invariant.1 c.in-Some.ensures in
    let more : take (n + 1) xs ≡ take n xs ++ x ∷ [] =
    take_more xs n x left ∙ ap (λ (y : Frame). take n xs ++ y ∷ []) (sym (fetched_is m before after p n x x c.loop-frame.invariant.1 c.in-Some.ensures)) in
    let free : c.args.tray.now.count + length (take n xs) < room c.args.tray.now =
    omega (arith, length-take-le n xs (omega arith), c.if-capacity-len.false, c.capacity.ensures.value, c.capacity.ensures.within, c.len.ensures.count, c.waiting.ensures) in (
      c.push.ensures.owner ∙ c.loop-frame.invariant.0,
      fetched_more m before after p n x x c.loop-frame.invariant.1 c.in-Some.ensures,
      subst (λ (l : List Frame). Laid c.args.tray.now l c.push.new.self) (sym more)
          (laid_push c.args.tray.now c.loop-frame.tray c.push.new.self (take n xs) x c.push.result free c.loop-frame.invariant.2 c.push.ensures.after),
    )

pub returns : goal.returns
returns g c =
    record {
      owner = c.loop-frame.invariant.0;
      after = (
        omega (arith, c.if-capacity-len.false, c.capacity.ensures.value, c.capacity.ensures.within, c.len.ensures.count, c.waiting.ensures),
        fetched_all (g.C.Cabinet.model c.args.cabinet.now) (g.C.Cabinet.model c.loop-frame.cabinet) (g.C.Cabinet.model c.take.new.self) c.args.port c.loop-frame.came c.loop-frame.invariant.1 c.in_default.ensures,
        c.loop-frame.invariant.2,
      );
    }
